-- An order that names each face once is a numbering of the faces by turns. Assumes nothing.
--     order_of order once       the numbering
--     when-turn_in              the turn of a face
use mathlib.Core.Path.{◌≡◌, refl, sym, ◌∙◌, ap}
use mathlib.Core.Bool.{cond}
use mathlib.Core.List.{List, [], ◌∷◌}
use Prim.Native.Nat.{ℕ, zero, suc, ◌≤◌, ◌<◌}
use native.Mathlib.Omega.{arith}
use native.Mathlib.Nat.{not-suc-le-zero, le_of_suc-le-suc}
use native.Mathlib.Decide.{dec_lt, ℕ_discrete}
use lib.Dec.{eqb}
use lib.ListN.{length, get_or}
use borrow.Author.Tests.{eq-eqb, ne_eqb}
use Rattle.closed_meshes.specs.Mesh.{MeshOver}
use Rattle.closed_meshes.specs.Closed.{Closed}
use Rattle.closed_meshes.specs.Renumbering.{Bijection, Row}
use Rattle.closed_meshes.proofs.Counting.{row-path, injective-onto, bijection}
use Rattle.closed_meshes.proofs.Isomorphisms.{inverse}
use Rattle.refined_meshes.specs.Order.{EachOnce, turn_in}
use Rattle.refined_meshes.proofs.Leads.{when, when-below, from-when}

-- What stands at place k is found, at k or before.
turn_in-found : (gs : List ℕ) (k f : ℕ) → k < length gs → get_or gs k 0 ≡ f → (turn_in gs f ≤ k) × (get_or gs (turn_in gs f) 0 ≡ f)
unfolding turn_in
turn_in-found [] k f h q = absurd (not-suc-le-zero h)
turn_in-found (g ∷ gs) zero f h q = rw (eq-eqb g f q) (omega arith, q)
turn_in-found (g ∷ gs) (suc k) f h q = go (turn_in-found gs k f (le_of_suc-le-suc h) q) (ℕ_discrete g f)
  where
    go :
        (turn_in gs f ≤ k) × (get_or gs (turn_in gs f) 0 ≡ f) → Dec (g ≡ f)
        → (cond (eqb g f) 0 (suc (turn_in gs f)) ≤ suc k) × (get_or (g ∷ gs) (cond (eqb g f) 0 (suc (turn_in gs f))) 0 ≡ f)
    go ih (yes e) = rw (eq-eqb g f e) (omega arith, e)
    go ih (no n) = rw (ne_eqb g f n) (omega (arith, ih.0), ih.1)

module _ {nf : ℕ} (order : List ℕ) (once : EachOnce nf order) where
  -- No two turns are of one face.
  pub turns-differ : (i j : ℕ) → i < nf → j < nf → get_or order i 0 ≡ get_or order j 0 → i ≡ j
  turns-differ i j a b q = go (dec_lt i j) (dec_lt j i)
    where
      go : Dec (i < j) → Dec (j < i) → i ≡ j
      go (yes l) d = absurd (once.no-face-twice j i (rw once.as_many b) l (sym q))
      go (no n) (yes l) = absurd (once.no-face-twice i j (rw once.as_many a) l q)
      go (no n) (no n') = omega arith

  face_of_turn : Row nf → Row nf
  face_of_turn k = (get_or order k.0 0, once.in-range k.0 k.1)

  face_of_turn-injective : (i j : Row nf) → face_of_turn i ≡ face_of_turn j → i ≡ j
  unfolding face_of_turn
  face_of_turn-injective i j q = row-path i j (turns-differ i.0 j.0 i.1 j.1 (ap (λ x. x.0) q))

  -- the turn of each face, and the face of each turn
  pub order_of : Bijection (Row nf) (Row nf)
  order_of = inverse (bijection face_of_turn face_of_turn-injective (injective-onto face_of_turn face_of_turn-injective))

  pub order_of-from : (k : Row nf) → (order_of.from k).0 ≡ get_or order k.0 0
  unfolding order_of face_of_turn
  order_of-from k = refl

  module _ {np ne : ℕ} {t : MeshOver (Row np) (Row ne) (Row nf)} (c : Closed t) where
    pub when-turn_in : (f : Row nf) → when c order_of f ≡ turn_in order f.0
    when-turn_in f =
        let k : ℕ = when c order_of f in
        let b : k < nf = when-below c order_of f in
        let g : get_or order k 0 ≡ f.0 = sym (order_of-from (k, b)) ∙ ap (λ x. x.0) (from-when c order_of f b) in
        let r = turn_in-found order k f.0 (rw once.as_many b) g in
        turns-differ k (turn_in order f.0) b (omega (arith, r.0)) (g ∙ sym r.1)
