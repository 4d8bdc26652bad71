-- The tests of one edge: what each of its tests decides. Assumes nothing.
use mathlib.Core.Path.{◌≡◌, refl}
use mathlib.Core.Bool.{Bool, true, false, not, ◌&&◌}
use mathlib.Core.List.{List, []}
use mathlib.Core.Logic.{◌≢◌}
use Prim.Native.Nat.{ℕ}
use lib.Dec.{eqb, ltb}
use lib.Ieee.{Float}
use borrow.Author.Tests.{eq-eqb, ne_eqb}
use Rattle.tables.specs.Mesh.{Mesh, origin, dest, left_face, right_face, left_cw, left_acw, right_cw, right_acw, interval}
use Rattle.audited_meshes.specs.Audit.{edge_in_range, interval_fit}
use Rattle.audited_meshes.specs.Audited.{EdgeInRange}
use Rattle.audited_meshes.proofs.Audited.{edge_in_range-is}
use Rattle.audited_meshes.proofs.Folds.{and-false}
use Rattle.audit_tests.proofs.Laws.{and-four}
use Rattle.tables.specs.Parts.{face_tables, edge_tables}
use Rattle.linked_edges.specs.Links.{acw_linked}
use Rattle.audit_edges.specs.HalfLinks.{half_fit}

-- two numbers below n and two below k
abbrev pub below : ℕ → ℕ → ℕ → ℕ → ℕ → ℕ → Bool
below a b c d n k = ltb a n && ltb b n && ltb c k && ltb d k

module _ (es : List ℕ) where
  abbrev at : Mesh
  at = face_tables es []

  pub in-range-is :
      (np ne nf e : ℕ) →
      edge_in_range at np ne nf e
      ≡ (below (origin at e) (dest at e) (left_face at e) (right_face at e) np nf && below (left_cw at e) (left_acw at e) (right_cw at e) (right_acw at e) ne ne)
  unfolding edge_in_range
  in-range-is np ne nf e = and-four (below (origin at e) (dest at e) (left_face at e) (right_face at e) np nf) _ _ _ _

-- the tests of an edge but for its clockwise links, in turn
module _ (m : Mesh) (np ne nf e : ℕ) where
  pub edge-range : edge_in_range m np ne nf e ≡ false → half_fit m np ne nf e ≡ false
  unfolding half_fit
  edge-range h = rw h

  pub edge-interval : interval_fit (interval m e) ≡ false → half_fit m np ne nf e ≡ false
  unfolding half_fit
  edge-interval h = rw (h, and-false (edge_in_range m np ne nf e))

  pub edge-ends : origin m e ≡ dest m e → half_fit m np ne nf e ≡ false
  unfolding half_fit
  edge-ends h = rw (eq-eqb (origin m e) (dest m e) h, and-false (edge_in_range m np ne nf e && interval_fit (interval m e)))

  pub edge-sides : left_face m e ≡ right_face m e → half_fit m np ne nf e ≡ false
  unfolding half_fit
  edge-sides h =
      rw (eq-eqb (left_face m e) (right_face m e) h, and-false (edge_in_range m np ne nf e && interval_fit (interval m e) && not (eqb (origin m e) (dest m e))))

  pub edge-links :
      edge_in_range m np ne nf e ≡ true → interval_fit (interval m e) ≡ true → origin m e ≢ dest m e → left_face m e ≢ right_face m e →
      half_fit m np ne nf e ≡ acw_linked m e
  unfolding half_fit
  edge-links a b c d = rw (a, b, ne_eqb (origin m e) (dest m e) c, ne_eqb (left_face m e) (right_face m e) d)

  -- what the first test says
  pub edge-in-range : edge_in_range m np ne nf e ≡ true → EdgeInRange m np ne nf e
  edge-in-range h = (edge_in_range-is m np ne nf e).0 h

-- these tests look at the table of edges alone
pub edge-range-rows : (es : List ℕ) (is : List Float) (np ne nf e : ℕ) → edge_in_range (edge_tables es is) np ne nf e ≡ edge_in_range (face_tables es []) np ne nf e
unfolding edge_in_range
edge-range-rows es is np ne nf e = refl

pub acw_linked-rows : (es : List ℕ) (is : List Float) (e : ℕ) → acw_linked (edge_tables es is) e ≡ acw_linked (face_tables es []) e
unfolding acw_linked
acw_linked-rows es is e = refl
