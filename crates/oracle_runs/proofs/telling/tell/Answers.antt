-- The label is there.
use Rattle.std.proofs.Common.{arith, sym, length-take-le}
use Rattle.oracle_runs.proofs.telling.tell.Goals as goal

pub slice_bounds-write_all-end : goal.slice_bounds-write_all-end
slice_bounds-write_all-end g c = sym (length-take-le 32 c.args.bytes.now (omega arith))
