-- mark_points meets its contract. The invariant: the points before p are marked.
use lib.ListN.{length}
use Prim.Native.Nat.{◌≤◌, ◌-◌}
use mathlib.Core.Path.{◌≡◌}
use Rattle.built_meshes.specs.Whole.{marked}
use Rattle.building_whole.proofs.whole.mark_points.Given as goal

abbrev pub invariant-loop-p : goal.invariant-loop-p
invariant-loop-p l = (length l.points ≡ length l.initial.points) × (l.points ≡ marked l.p l.initial.points)
