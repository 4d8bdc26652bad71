-- number_places meets its contract. The invariant: the places passed have their numbers.
use mathlib.Core.Path.{◌≡◌}
use Prim.Native.Nat.{ℕ, ◌-◌, ◌≤◌, ◌<◌}
use lib.ListN.{length, get_or}
use Rattle.whole_tests.proofs.number_places.Given as goal

abbrev pub invariant-loop-k : goal.invariant-loop-k
invariant-loop-k l = (length l.numbers ≡ length l.initial.numbers) × ((j : ℕ) → j < l.k → get_or l.numbers j 0 ≡ j)
