-- write_stepped meets its contract: one line after the other.
use Rattle.refine_parts.proofs.Lines.{written-point, point-room}
use Rattle.refine_parts.proofs.write_stepped.Goals as goal

pub write_point-requires-clause-at_in_bounds : goal.write_point-requires-clause-at_in_bounds
write_point-requires-clause-at_in_bounds c =
    point-room c.args.counts c.args.answer c.args.positions.now _ c.in-Ok.is c.write_step-i.ensures c.requires.at_in_bounds
    c.write_step-i.auto.out

pub returns-else-counts-eq0 : goal.returns-else-counts-eq0
returns-else-counts-eq0 c =
    written-point c.args.counts c.args.answer c.args.positions.now _ c.in-Ok.is c.write_step-i.ensures
    c.if-counts-eq0.false c.write_point.ensures
