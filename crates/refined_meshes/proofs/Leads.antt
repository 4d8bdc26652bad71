-- When faces are visited, and from which side an edge is split. Assumes nothing.
--     when f                        the turn at which the face f is visited
--     leads d                       the edge of d is split from d's side: d's face is visited before the face across
--     lead e                        the side from which the edge e is split
--     at_turn k g                    g of the face visited at turn k
--     size_at k, splits k            how many edges that face has, and how many are split at that turn
--     splits_before k i              how many of them before place i
use mathlib.Core.Path.{◌≡◌, refl, sym, ◌∙◌, ap}
use mathlib.Core.Bool.{Bool, true, false, cond}
use Prim.Native.Nat.{ℕ, ◌≤◌, ◌<◌}
use native.Mathlib.Omega.{arith}
use native.Mathlib.Decide.{dec_lt}
use lib.Dec.{ltb}
use borrow.Author.Tests.{ltb-true, ltb-false, lt-ltb, le-ltb}
use Rattle.closed_meshes.specs.Mesh.{MeshOver, Dart, lft, rgt, edge, flip, face}
use Rattle.closed_meshes.specs.Closed.{Closed}
use Rattle.closed_meshes.specs.Renumbering.{Bijection, Row, sum_to}
use Rattle.closed_meshes.proofs.Counting.{row-path}
use Rattle.closed_meshes.proofs.Darts.{flip-flip, edge-flip}
use Rattle.closed_meshes.proofs.Isomorphisms.{to-injective}
use Rattle.audited_meshes.specs.Folds.{one_if}
use Rattle.refined_meshes.proofs.Places.{dart_at, place, dart_at-place}

module _ {np ne nf : ℕ} {t : MeshOver (Row np) (Row ne) (Row nf)} (c : Closed t) (order : Bijection (Row nf) (Row nf)) where
  unfoldable pub when : Row nf → ℕ
  when f = (order.to f).0

  pub when-below : (f : Row nf) → when f < nf
  unfolding when
  when-below f = (order.to f).1

  pub when-injective : (f g : Row nf) → when f ≡ when g → f ≡ g
  unfolding when
  when-injective f g e = to-injective order f g (row-path _ _ e)

  pub when-from : (k : Row nf) → when (order.from k) ≡ k.0
  unfolding when
  when-from k = ap (λ x. x.0) (order.to-from k)

  pub from-when : (f : Row nf) (h : when f < nf) → order.from (when f, h) ≡ f
  unfolding when
  from-when f h = ap order.from (row-path ((order.to f).0, h) (order.to f) refl) ∙ order.from-to f

  -- ---- which side of an edge is visited first

  unfoldable pub leads : Dart (Row ne) → Bool
  leads d = ltb (when (face t d)) (when (face t (flip d)))

  face-differs : (d : Dart (Row ne)) → ¬ (face t d ≡ face t (flip d))
  face-differs (lft e) h = c.sides-differ e h
  face-differs (rgt e) h = c.sides-differ e (sym h)

  -- One side leads, and not both.
  leads-flip : (d : Dart (Row ne)) → leads d ≡ false → leads (flip d) ≡ true
  unfolding leads
  leads-flip d h =
      let l : when (face t (flip d)) ≤ when (face t d) = ltb-false _ _ h in
      let n : ¬ (when (face t (flip d)) ≡ when (face t d)) = λ e. face-differs d (sym (when-injective _ _ e)) in
      rw (flip-flip d) (lt-ltb (when (face t (flip d))) (when (face t d)) (omega arith))

  follows-flip : (d : Dart (Row ne)) → leads d ≡ true → leads (flip d) ≡ false
  unfolding leads
  follows-flip d h =
      let l : when (face t d) < when (face t (flip d)) = ltb-true _ _ h in
      rw (flip-flip d) (le-ltb (when (face t (flip d))) (when (face t d)) (omega arith))

  unfoldable pub lead : Row ne → Dart (Row ne)
  lead e = cond (leads (lft e)) (lft e) (rgt e)

  pub edge_lead : (e : Row ne) → edge (lead e) ≡ e
  unfolding lead
  edge_lead e = go (leads (lft e))
    where
      go : (b : Bool) → edge (cond b (lft e) (rgt e)) ≡ e
      go true = refl
      go false = refl

  pub leads-lead : (e : Row ne) → leads (lead e) ≡ true
  unfolding lead
  leads-lead e = go (leads (lft e)) refl
    where
      go : (b : Bool) → leads (lft e) ≡ b → leads (cond b (lft e) (rgt e)) ≡ true
      go true h = h
      go false h = leads-flip (lft e) h

  pub lead_edge : (d : Dart (Row ne)) → leads d ≡ true → lead (edge d) ≡ d
  unfolding lead
  lead_edge (lft e) h = rw h
  lead_edge (rgt e) h = rw (follows-flip (rgt e) h)

  -- Of an edge with a side d, either d leads or the other side does.
  pub lead-across : (d : Dart (Row ne)) → leads d ≡ false → lead (edge d) ≡ flip d
  lead-across d h = ap lead (sym (edge-flip d)) ∙ lead_edge (flip d) (leads-flip d h)

  -- ---- what is made at a turn

  within : (Row nf → ℕ) → (k : ℕ) → Dec (k < nf) → ℕ
  within g k (yes h) = g (order.from (k, h))
  within g k (no h) = 0

  -- g of the face visited at turn k
  unfoldable pub at_turn : ℕ → (Row nf → ℕ) → ℕ
  unfolding within
  at_turn k g = within g k (dec_lt k nf)

  pub at_turn-from : (k : ℕ) (h : k < nf) (g : Row nf → ℕ) → at_turn k g ≡ g (order.from (k, h))
  unfolding at_turn within
  at_turn-from k h g = go (dec_lt k nf)
    where
      go : (d : Dec (k < nf)) → within g k d ≡ g (order.from (k, h))
      go (yes l) = ap (λ x. g (order.from x)) (row-path (k, l) (k, h) refl)
      go (no l) = absurd (l h)

  pub at_turn-when : (f : Row nf) (g : Row nf → ℕ) → at_turn (when f) g ≡ g f
  unfolding when
  at_turn-when f g = at_turn-from (order.to f).0 (order.to f).1 g ∙ ap g (order.from-to f)

  unfoldable pub size_at : ℕ → ℕ
  size_at k = at_turn k (λ f. c.size f)

  -- 1 where the edge at place i is split at turn k
  unfoldable pub split_at : ℕ → ℕ → ℕ
  split_at k i = at_turn k (λ f. one_if (leads (dart_at c f i)))

  unfoldable pub splits_before : ℕ → ℕ → ℕ
  splits_before k i = sum_to i (split_at k)

  unfoldable pub splits : ℕ → ℕ
  unfolding splits_before
  splits k = splits_before k (size_at k)

  pub size_at-when : (f : Row nf) → size_at (when f) ≡ c.size f
  unfolding size_at
  size_at-when f = at_turn-when f (λ f. c.size f)

  pub split_at-when : (d : Dart (Row ne)) → split_at (when (face t d)) (place c d) ≡ one_if (leads d)
  unfolding split_at
  split_at-when d =
      at_turn-when (face t d) (λ f. one_if (leads (dart_at c f (place c d)))) ∙ ap (λ x. one_if (leads x)) (dart_at-place c d)
