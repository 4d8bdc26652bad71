-- are_points meets its contract. The invariant: the listed points before i are in range.
use lib.ListN.{get_or}
use lib.Dec.{ltb}
use Prim.Native.Nat.{◌≤◌, ◌-◌, ◌+◌}
use mathlib.Core.Bool.{true}
use mathlib.Core.Path.{◌≡◌}
use Rattle.audited_meshes.specs.Folds.{every}
use Rattle.listed_points.proofs.are_points.Given as goal

abbrev pub invariant-loop-i : goal.invariant-loop-i
invariant-loop-i l = every l.i (λ j. ltb (get_or l.listed (l.a + j) 0) l.np) ≡ true
