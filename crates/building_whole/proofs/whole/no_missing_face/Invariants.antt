-- no_missing_face meets its contract. The invariant: the edges before e have a face on their right.
use lib.ListN.{get_or}
use lib.Dec.{eqb}
use Prim.Native.Nat.{◌≤◌, ◌-◌, ◌+◌, ◌*◌}
use mathlib.Core.Bool.{true, not}
use mathlib.Core.Path.{◌≡◌}
use Rattle.audited_meshes.specs.Folds.{every}
use Rattle.building_whole.proofs.whole.no_missing_face.Given as goal

abbrev pub invariant-loop-e : goal.invariant-loop-e
invariant-loop-e l = every l.e (λ i. not (eqb (get_or l.edges (i * 8 + 3) 0) 4294967295)) ≡ true
