-- The orders that have been read have at most 4,422 bytes each.
use Rattle.std.proofs.Common.{◌+◌, ◌*◌, ◌≤◌}
use Rattle.oracle_steps.proofs.tell_steps.Given as goal

abbrev pub invariant-loop-k : goal.invariant-loop-k
invariant-loop-k g l = l.at ≤ l.more + 4422 * l.k
