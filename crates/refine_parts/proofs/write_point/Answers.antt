-- write_point meets its contract: finite coordinates have bits.
use Rattle.tables.specs.Records.{position_at}
use Rattle.refine_parts.proofs.Lines.{finite-coordinates}
use Rattle.intervals.proofs.Laws.{finite_number}
use Rattle.refine_parts.proofs.write_point.Goals as goal

pub float_to_bits-x : goal.float_to_bits-x
float_to_bits-x c =
    finite_number _ (finite-coordinates (position_at c.args.positions.now 0)
    c.requires.point_there.is_finite).0

pub float_to_bits-y : goal.float_to_bits-y
float_to_bits-y c =
    finite_number _ (finite-coordinates (position_at c.args.positions.now 0)
    c.requires.point_there.is_finite).1

pub float_to_bits-z : goal.float_to_bits-z
float_to_bits-z c =
    finite_number _ (finite-coordinates (position_at c.args.positions.now 0)
    c.requires.point_there.is_finite).2
