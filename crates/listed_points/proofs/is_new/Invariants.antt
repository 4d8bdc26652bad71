-- is_new meets its contract. The invariant: the points before place j are others.
use lib.ListN.{get_or}
use lib.Dec.{eqb}
use Prim.Native.Nat.{◌≤◌, ◌-◌, ◌+◌}
use mathlib.Core.Bool.{true, not}
use mathlib.Core.Path.{◌≡◌}
use Rattle.audited_meshes.specs.Folds.{every}
use Rattle.listed_points.proofs.is_new.Given as goal

abbrev pub invariant-loop-j : goal.invariant-loop-j
invariant-loop-j l = every l.j (λ h. not (eqb (get_or l.listed (l.a + l.i) 0) (get_or l.listed (l.a + h) 0))) ≡ true
