-- The perimeter of a face, read from the tables in which a closed mesh stands: at each place the edge of the dart there. Assumes nothing.
--     perimeter-size, perimeter-edge       the number of its edges, and the edge at a place
--     left-of-dart, point-of-dart          which side of its edge the face is on, and the first point there
use mathlib.Core.Path.{◌≡◌, sym, ◌∙◌, ap}
use Prim.Native.Nat.{ℕ, ◌<◌}
use native.Mathlib.Omega.{arith}
use lib.ListN.{length, get_or}
use borrow.Author.Tests.{eq-eqb, ne_eqb}
use Rattle.closed_meshes.specs.Mesh.{MeshOver, Dart, lft, rgt, edge, first, face}
use Rattle.closed_meshes.specs.Closed.{Closed}
use Rattle.closed_meshes.specs.Renumbering.{Row}
use Rattle.closed_meshes.proofs.Counting.{row-path}
use Rattle.tables.specs.Mesh.{Mesh, left_face}
use Rattle.audited_meshes.specs.Walks.{back, edges_of, passed, face_walk, first_point}
use Rattle.audited_meshes.specs.Rows.{Stands}
use Rattle.audited_meshes.proofs.Audited.{face_walk-is}
use Rattle.audited_meshes.proofs.Darts.{first_point-dart}
use Rattle.audited_meshes.proofs.Holds.{seen, around-face, face-edges, face-passes}
use Rattle.refined_meshes.specs.Ring.{on_left}
use Rattle.refined_meshes.proofs.Places.{dart_at, place, face-dart_at, place-dart_at, place-injective}
use Rattle.refined_meshes.proofs.Target.{is_left}

module _ (m : Mesh) {np ne nf : ℕ} {t : MeshOver (Row np) (Row ne) (Row nf)} (s : Stands m t) (c : Closed t) (f : Row nf) where
  length-edges : length (face-edges m t s c f) ≡ c.size f
  unfolding face-edges
  length-edges = (around-face m t s c f).length-is

  perimeter-is : face_walk m ne f.0 ≡ back (face-edges m t s c f)
  perimeter-is = (face_walk-is m ne f.0 (face-edges m t s c f)).1 (face-passes m t s c f, omega (arith, length-edges, c.size-high f))

  pub perimeter-size : passed (face_walk m ne f.0) ≡ c.size f
  perimeter-size = rw perimeter-is length-edges

  edge-of-place : (i : ℕ) → i < c.size f → get_or (face-edges m t s c f) i 0 ≡ (edge (dart_at c f i)).0
  unfolding face-edges place
  edge-of-place i l =
      let r = (around-face m t s c f).dart-at i (rw length-edges l) in
      sym r.dart-num
      ∙ ap (λ (d : Dart (Row ne)). (edge d).0)
      (place-injective c r.dart (dart_at c f i) (r.dart-cls ∙ sym (face-dart_at c f i)) (r.dart-rank ∙ sym (place-dart_at c f i l)))

  pub perimeter-edge : (i : ℕ) → i < c.size f → get_or (edges_of (face_walk m ne f.0)) i 0 ≡ (edge (dart_at c f i)).0
  perimeter-edge i l = rw perimeter-is (edge-of-place i l)

module _ (m : Mesh) {np ne nf : ℕ} {t : MeshOver (Row np) (Row ne) (Row nf)} (s : Stands m t) (c : Closed t) where
  pub left-of-dart : (d : Dart (Row ne)) → on_left m (face t d).0 (edge d).0 ≡ is_left d
  left-of-dart (lft e) = eq-eqb (left_face m e.0) (t.left e).0 (s.left_face-stands e)
  left-of-dart (rgt e) =
      ne_eqb (left_face m e.0) (t.right e).0 (λ q. c.sides-differ e (row-path _ _ (sym (s.left_face-stands e) ∙ q)))

  pub point-of-dart : (d : Dart (Row ne)) → first_point m (face t d).0 (edge d).0 ≡ (first t d).0
  point-of-dart d = first_point-dart (seen m t s c) d
