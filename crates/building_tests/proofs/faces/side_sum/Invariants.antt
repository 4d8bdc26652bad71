-- side_sum meets its contract. The invariant: the sum of the intervals before i.
use Prim.Native.Nat.{◌≤◌, ◌-◌}
use mathlib.Core.Path.{◌≡◌}
use Rattle.built_meshes.specs.Faces.{side_sum}
use Rattle.building_tests.proofs.faces.side_sum.Given as goal

abbrev pub invariant-loop-i : goal.invariant-loop-i
invariant-loop-i l = l.sum ≡ side_sum l.beside l.a l.i
