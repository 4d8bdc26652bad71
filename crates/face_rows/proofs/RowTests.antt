-- The test of one row of faces: what each of its tests decides. Assumes nothing.
use mathlib.Core.Path.{◌≡◌}
use mathlib.Core.Bool.{Bool, true, false, ◌||◌}
use Prim.Native.Nat.{ℕ, ◌<◌, ◌≤◌}
use lib.Dec.{eqb, ltb}
use borrow.Author.Tests.{lt-ltb, le-ltb}
use Rattle.tables.specs.Mesh.{Mesh, none, face_start, corner}
use Rattle.audited_meshes.specs.Folds.{every}
use Rattle.audited_meshes.specs.Quick.{face_fit}
use Rattle.audited_meshes.proofs.Folds.{and-false, every-stop}

module _ (m : Mesh) (np ne f : ℕ) where
  abbrev pub corner_here : ℕ → Bool
  corner_here k = ltb (corner m f k) np || eqb (corner m f k) none

  pub face-start : ne ≤ face_start m f → face_fit m np ne f ≡ false
  unfolding face_fit
  face-start h = rw (le-ltb (face_start m f) ne h)

  pub face-corner : (k : ℕ) → k < 4 → corner_here k ≡ false → face_fit m np ne f ≡ false
  unfolding face_fit
  face-corner k l h = rw (every-stop 4 k corner_here l h) (and-false (ltb (face_start m f) ne))

  pub face-last : face_start m f < ne → corner_here 0 ≡ true → corner_here 1 ≡ true → corner_here 2 ≡ true → face_fit m np ne f ≡ corner_here 3
  unfolding face_fit every
  face-last h a b c = rw (lt-ltb (face_start m f) ne h, a, b, c)
