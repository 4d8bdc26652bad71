-- no_point_twice meets its contract. The invariant: the points before place i are new.
use lib.ListN.{get_or}
use lib.Dec.{eqb}
use Prim.Native.Nat.{ℕ, ◌≤◌, ◌-◌, ◌+◌}
use mathlib.Core.List.{List}
use mathlib.Core.Bool.{Bool, true, not}
use mathlib.Core.Path.{◌≡◌}
use Rattle.audited_meshes.specs.Folds.{every}
use Rattle.listed_points.proofs.no_point_twice.Given as goal

-- whether the listed point i is none of those before it
abbrev pub new : List ℕ → ℕ → ℕ → Bool
new ls a i = every i (λ j. not (eqb (get_or ls (a + i) 0) (get_or ls (a + j) 0)))

abbrev pub invariant-loop-i : goal.invariant-loop-i
invariant-loop-i l = every l.i (new l.listed l.a) ≡ true
