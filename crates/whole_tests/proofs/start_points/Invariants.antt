-- start_points meets its contract. The invariant: of the places passed the last ones are written.
use mathlib.Core.Path.{◌≡◌}
use Prim.Native.Nat.{◌-◌, ◌≤◌}
use lib.ListN.{length}
use Rattle.whole_tests.proofs.Laws.{Started}
use Rattle.whole_tests.proofs.start_points.Given as goal

abbrev pub invariant-loop-k : goal.invariant-loop-k
invariant-loop-k l = (length l.starts ≡ length l.initial.starts) × Started l.listed l.starts l.k
