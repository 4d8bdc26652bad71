-- The test of one point: what each of its tests decides. Assumes nothing.
use mathlib.Core.Path.{◌≡◌, ◌∙◌}
use mathlib.Core.Bool.{Bool, true, false, ◌&&◌, ◌||◌}
use Prim.Native.Nat.{ℕ, ◌<◌, ◌≤◌}
use lib.Dec.{eqb, ltb}
use lib.Ieee.Scale.{finite}
use borrow.Author.Tests.{lt-ltb, le-ltb, le-leb, lt-leb}
use Rattle.tables.specs.Mesh.{Mesh, x, y, z, valence, start, mark}
use Rattle.audited_meshes.specs.Quick.{point_fit}
use Rattle.audited_meshes.proofs.Folds.{and-false}
use Rattle.audit_tests.proofs.Laws.{and_assoc}

module _ (m : Mesh) (ne p : ℕ) where
  -- its coordinates are finite
  abbrev pub finite_here : Bool
  finite_here = finite (x m p) && (finite (y m p) && finite (z m p))

  pub point-start : ne ≤ start m p → point_fit m ne p ≡ false
  unfolding point_fit
  point-start h = rw (le-ltb (start m p) ne h)

  pub point-numbers : finite_here ≡ false → point_fit m ne p ≡ false
  unfolding point_fit
  point-numbers h = rw (and_assoc (finite (x m p)) (finite (y m p)) (finite (z m p)) ∙ h, and-false (ltb (start m p) ne))

  pub point-valence : valence m p < 2 → point_fit m ne p ≡ false
  unfolding point_fit
  point-valence h = rw (lt-leb 2 (valence m p) h, and-false (ltb (start m p) ne && (finite (x m p) && finite (y m p) && finite (z m p))))

  pub point-mark : start m p < ne → finite_here ≡ true → 2 ≤ valence m p → point_fit m ne p ≡ (eqb (mark m p) 0 || eqb (mark m p) 1)
  unfolding point_fit
  point-mark s h v =
      rw (lt-ltb (start m p) ne s, and_assoc (finite (x m p)) (finite (y m p)) (finite (z m p)) ∙ h, le-leb 2 (valence m p) v)
