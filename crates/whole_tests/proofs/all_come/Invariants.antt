-- all_come meets its contract. The invariant: turning from the places passed leads there.
use mathlib.Core.Path.{◌≡◌}
use Prim.Native.Nat.{◌-◌, ◌≤◌}
use lib.ListN.{get_or}
use mathlib.Core.Bool.{true}
use Rattle.audited_meshes.specs.Folds.{every}
use Rattle.whole_grounds.specs.Turning.{comes}
use Rattle.whole_tests.specs.Whole.{step_at}
use Rattle.whole_tests.proofs.all_come.Given as goal

abbrev pub invariant-loop-k : goal.invariant-loop-k
invariant-loop-k l = let k = l.k in (k ≤ l.n) × (every k (λ k. comes (step_at l.nexts l.mates l.seconds) l.n k (get_or l.starts (get_or l.listed k 0) 0 - 1)) ≡ true)
