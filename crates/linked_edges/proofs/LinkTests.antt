-- The anticlockwise links of one edge: what each test of them decides. Assumes nothing.
use mathlib.Core.Path.{◌≡◌, refl, sym, ◌∙◌, ap}
use mathlib.Core.Bool.{Bool, true, false, ◌&&◌, ◌||◌, cond}
use mathlib.Core.List.{List, []}
use Prim.Native.Nat.{ℕ, ◌+◌, ◌*◌}
use native.Mathlib.Omega.{arith}
use lib.Dec.{eqb}
use lib.ListN.{get_or}
use borrow.Author.Tests.{eq-eqb, ne_eqb}
use Rattle.tables.specs.Mesh.{Mesh, origin, dest, left_face, right_face, left_acw, right_acw}
use Rattle.tables.specs.Parts.{face_tables}
use Rattle.audited_meshes.specs.Walks.{touches, borders, cw_of_face}
use Rattle.audited_meshes.specs.Audit.{acw_links}
use Rattle.walks.specs.Places.{end_number}
use Rattle.walks.proofs.Places.{place-one-of, place-choice}
use Rattle.audit_tests.proofs.Laws.{and_assoc}
use Rattle.linked_edges.specs.Links.{cw_back, acw_linked}

module _ (es : List ℕ) where
  abbrev at : Mesh
  at = face_tables es []

  pub acw-links-is : (e p f a : ℕ) → acw_links at e p f a ≡ (touches at p a && cw_back at f a e)
  acw-links-is e p f a = and_assoc (touches at p a) (borders at f a) (eqb (cw_of_face at f a) e)

  -- the two anticlockwise links of an edge, in turn
  module _ (e : ℕ) where
    abbrev pub left-acw : Bool
    left-acw = acw_links at e (dest at e) (left_face at e) (left_acw at e)

    abbrev pub right-acw : Bool
    right-acw = acw_links at e (origin at e) (right_face at e) (right_acw at e)

    pub linked-1 : left-acw ≡ false → acw_linked at e ≡ false
    unfolding acw_linked
    linked-1 h = rw h

    pub linked-2 : left-acw ≡ true → acw_linked at e ≡ right-acw
    unfolding acw_linked
    linked-2 h = rw h

-- the link back, where i is the left face of edge a, s the number of its side that has face f, and w the face that is found by it
module _ (es : List ℕ) (f a e : ℕ) {i j s : ℕ} (left : i ≡ get_or es (a * 8 + 2) 0) (face : j ≡ f) (at : s ≡ end_number i j) where
  side : s ≡ end_number i f
  side = at ∙ ap (end_number i) face

  -- whether the face is on a side of the edge
  on-side : {w : ℕ} → w ≡ get_or es (a * 8 + 2 + s) 0 → eqb w f ≡ (eqb (get_or es (a * 8 + 2) 0) f || eqb (get_or es (a * 8 + 3) 0) f)
  on-side found =
      place-one-of es (a * 8 + 2) f left side found
      ∙ ap (λ (k : ℕ). eqb (get_or es (a * 8 + 2) 0) f || eqb (get_or es k 0) f) (right (a * 8))
    where
      right : (b : ℕ) → b + 2 + 1 ≡ b + 3
      right b = omega arith

  link-is : get_or es (a * 8 + 4 + 2 * s) 0 ≡ cond (eqb (get_or es (a * 8 + 2) 0) f) (get_or es (a * 8 + 4) 0) (get_or es (a * 8 + 6) 0)
  link-is =
      place-choice es (a * 8 + 2) f left side (λ (k : ℕ). get_or es (a * 8 + 4 + 2 * k) 0) (ap (λ (k : ℕ). get_or es k 0) (near (a * 8)))
      (ap (λ (k : ℕ). get_or es k 0) (far (a * 8)))
    where
      near : (b : ℕ) → b + 4 + 2 * 0 ≡ b + 4
      near b = omega arith

      far : (b : ℕ) → b + 4 + 2 * 1 ≡ b + 6
      far b = omega arith

  pub back-nowhere : (get_or es (a * 8 + 2 + s) 0 ≡ f → ⊥) → false ≡ cw_back (face_tables es []) f a e
  back-nowhere h = rw (sym (on-side refl) ∙ ne_eqb _ f h)

  pub back_at : {w : ℕ} → get_or es (a * 8 + 2 + s) 0 ≡ f → w ≡ get_or es (a * 8 + 4 + 2 * s) 0 → eqb w e ≡ cw_back (face_tables es []) f a e
  back_at h link = rw (sym (on-side refl) ∙ eq-eqb _ f h) (ap (λ (x : ℕ). eqb x e) (link ∙ link-is))
