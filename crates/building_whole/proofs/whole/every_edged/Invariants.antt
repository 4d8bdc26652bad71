-- every_edged meets its contract. The invariant: the points before p have an edge.
use lib.ListN.{get_or}
use lib.Dec.{eqb}
use Prim.Native.Nat.{◌≤◌, ◌-◌, ◌*◌}
use mathlib.Core.Bool.{true, not}
use mathlib.Core.Path.{◌≡◌}
use Rattle.audited_meshes.specs.Folds.{every}
use Rattle.building_whole.proofs.whole.every_edged.Given as goal

abbrev pub invariant-loop-p : goal.invariant-loop-p
invariant-loop-p l = every l.p (λ i. not (eqb (get_or l.points (i * 3) 0) 0)) ≡ true
