-- all_begun meets its contract. The invariant: a place begins at each point passed.
use mathlib.Core.Path.{◌≡◌}
use Prim.Native.Nat.{◌-◌, ◌≤◌}
use lib.Dec.{eqb}
use lib.ListN.{get_or}
use mathlib.Core.Bool.{not, true}
use Rattle.audited_meshes.specs.Folds.{every}
use Rattle.whole_tests.proofs.all_begun.Given as goal

abbrev pub invariant-loop-p : goal.invariant-loop-p
invariant-loop-p l = let p = l.p in (p ≤ l.np) × (every p (λ p. not (eqb (get_or l.starts p 0) 0)) ≡ true)
