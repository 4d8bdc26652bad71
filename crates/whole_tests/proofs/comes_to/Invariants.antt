-- comes_to meets its contract. The invariant: what is left leads there if the whole does.
use mathlib.Core.Path.{◌≡◌}
use Prim.Native.Nat.{◌-◌, ◌<◌}
use Rattle.whole_grounds.specs.Turning.{comes}
use Rattle.whole_tests.specs.Whole.{step_at}
use Rattle.whole_tests.proofs.comes_to.Given as goal

abbrev pub invariant-loop-turn : goal.invariant-loop-turn
invariant-loop-turn l = (l.at < l.n) × (comes (step_at l.nexts l.mates l.seconds) (l.n - l._turn) l.at l.s ≡ comes (step_at l.nexts l.mates l.seconds) l.n l.k l.s)
