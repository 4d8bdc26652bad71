-- One step from an edge, as its record gives it, against the step in the tables. The record is `edge`, loaded from row e of the table
-- of edges es. Assumes nothing.
--     at-origin, at-dest          the next edge about a point, anticlockwise or clockwise, as `choice` says of the end at
--                                 which the point is: the point is the origin of the edge; it is not
use mathlib.Core.Path.{◌≡◌, sym, ◌∙◌, ap}
use mathlib.Core.Bool.{cond}
use mathlib.Core.List.{List}
use Prim.Native.Nat.{ℕ, ◌*◌}
use borrow.Author.Tests.{eq-eqb, ne_eqb}
use lib.Dec.{eqb}
use lib.ListN.{get_or}
use Rattle.t_spline.specs.Edge.{connection_of}
use Rattle.t_spline.specs.declared.TnurccEdge.{TnurccEdge}
use Rattle.edge_ends.specs.declared.TnurccConnection.{TnurccConnection}
use Rattle.edge_ends.specs.declared.TnurccVertexEnd.{TnurccVertexEnd}
use Rattle.edge_ends.specs.declared.TnurccVertexEnd.TheVariants.{Origin, Dest}
use Rattle.tables.specs.Loaded.{edge_words_at}

module _ (es : List ℕ) (e : ℕ) {edge : TnurccEdge} (loaded : edge ≡ edge_words_at es e) where
  module _ (p : ℕ) {i : ℕ} (origin : i ≡ edge.origin) where
    origin-is : i ≡ get_or es (e * 8) 0
    origin-is = origin ∙ ap (λ (x : TnurccEdge). x.origin) loaded

    module _ (choice : TnurccVertexEnd → TnurccConnection) where
      -- the neighbour that is chosen
      abbrev about : ℕ
      about =
          cond (eqb (get_or es (e * 8) 0) p) (connection_of (edge_words_at es e) (choice Origin)) (connection_of (edge_words_at es e) (choice Dest))

      pub at-origin : {n : ℕ} → i ≡ p → n ≡ connection_of edge (choice Origin) → n ≡ about
      at-origin h hn = rw (hn, loaded) (rw (eq-eqb _ p (sym origin-is ∙ h)))

      pub at-dest : {n : ℕ} → (i ≡ p → ⊥) → n ≡ connection_of edge (choice Dest) → n ≡ about
      at-dest h hn = rw (hn, loaded) (rw (ne_eqb _ p (λ q. h (origin-is ∙ q))))
