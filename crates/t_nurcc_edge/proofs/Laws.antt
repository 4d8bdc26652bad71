-- The laws of connecting two rows. Assumes nothing.
use mathlib.Core.Path.{◌≡◌, ◌∙◌, ap, ap₂}
use mathlib.Core.Bool.{Bool}
use mathlib.Core.List.{List}
use Prim.Native.Nat.{ℕ, ◌*◌}
use lib.Ieee.{Float}
use lib.ListN.{length}
use Rattle.edge_links.specs.Connect.{connected}
use Rattle.edge_links.specs.Joinable.{joinable}
use Rattle.edge_links.specs.declared.Pair.{Pair}
use Rattle.t_spline.specs.declared.TnurccEdge.{TnurccEdge}
use Rattle.tables.specs.Rows.{put_row}
use Rattle.tables.specs.Records.{edge_at, edge_words}
use Rattle.tables.proofs.Laws.{length-put_row}
use Rattle.t_nurcc_edge.specs.Connected.{connected_rows}
use Rattle.t_nurcc_edge.specs.Joinable.{joinable_rows}

-- The code's steps: a and b are the indices of the rows i and j, e and o the edges loaded, es₁ and es₂ the table after each store.
module _ (es : List ℕ) (is : List Float) {i j a b : ℕ} {e o : TnurccEdge} (ai : a ≡ i) (bj : b ≡ j)
    (loaded-first : e ≡ edge_at es is a) (loaded-other : o ≡ edge_at es is b) where
  first_edge : e ≡ edge_at es is i
  first_edge = loaded-first ∙ ap (λ (k : ℕ). edge_at es is k) ai

  other_edge : o ≡ edge_at es is j
  other_edge = loaded-other ∙ ap (λ (k : ℕ). edge_at es is k) bj

  pub joinable-steps : {r : Bool} → r ≡ joinable e o → r ≡ joinable_rows es is i j
  unfolding joinable_rows
  joinable-steps h = h ∙ ap₂ joinable first_edge other_edge

  pub connected-steps : (es₁ : List ℕ) {es₂ : List ℕ} (p : Pair) → p ≡ connected i e j o
      → es₁ ≡ put_row es (a * 8) (edge_words p.first) → es₂ ≡ put_row es₁ (b * 8) (edge_words p.other)
      → es₂ ≡ connected_rows es is i j
  unfolding connected_rows
  connected-steps es₁ p joined first-stored other-stored =
      (rw (first-stored, ai, bj) at other-stored)
      ∙ ap (λ (q : Pair). put_row (put_row es (i * 8) (edge_words q.first)) (j * 8) (edge_words q.other))
      (joined ∙ ap₂ (λ (x y : TnurccEdge). connected i x j y) first_edge other_edge)

pub length-connected_rows : (es : List ℕ) (is : List Float) (i j : ℕ) → length (connected_rows es is i j) ≡ length es
unfolding connected_rows
length-connected_rows es is i j = simp length-put_row
