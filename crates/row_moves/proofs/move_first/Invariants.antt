-- move_first meets its contract. The invariant: the first i elements are moved; the measure is what is left of n.
use Prim.Native.Nat.{◌-◌}
use mathlib.Core.Path.{◌≡◌}
use lib.ListN.{length}
use Rattle.row_moves.proofs.Laws.{Moved}
use Rattle.row_moves.proofs.move_first.Given as goal

abbrev pub invariant-loop-i : goal.invariant-loop-i
invariant-loop-i g l = Moved l.zero l.initial.new l.initial.elements l.n l.new l.elements l.i × (length l.new ≡ length l.initial.new)

abbrev pub decreases-loop-i : goal.decreases-loop-i
decreases-loop-i g l = l.n - l.i
