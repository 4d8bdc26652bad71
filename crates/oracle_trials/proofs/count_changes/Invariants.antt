-- count_changes meets its contract: no more texts are unformed than were tried.
use Rattle.std.proofs.Common.{◌≤◌}
use Rattle.oracle_trials.proofs.count_changes.Given as goal

abbrev pub invariant-loop-k : goal.invariant-loop-k
invariant-loop-k l = l.count ≤ l.k
