-- number_at meets its contract: no more than ten digits.
use Rattle.std.proofs.Common.{◌<◌}
use Rattle.oracle_tables.proofs.fields.number_at.Given as goal

abbrev pub invariant-loop-i : goal.invariant-loop-i
invariant-loop-i l = l.n < 10000000000
