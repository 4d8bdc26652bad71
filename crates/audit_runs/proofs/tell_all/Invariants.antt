-- The meshes told of have at most 32,768 bytes each.
use Rattle.std.proofs.Common.{◌≤◌, ◌*◌}
use Rattle.audit_runs.proofs.tell_all.Given as goal

abbrev pub invariant-loop : goal.invariant-loop
invariant-loop g l = l.at ≤ l.counter * 32768
