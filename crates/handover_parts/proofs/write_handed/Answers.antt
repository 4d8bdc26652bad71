-- write_handed meets its contract: by the answer of the step.
use mathlib.Core.Path.{◌∙◌}
use Rattle.tables.specs.Lent.{tables_of}
use Rattle.handover_parts.proofs.Lines.{handed, handed-refused}
use Rattle.handover_parts.proofs.write_handed.Goals as goal

pub returns-in-Ok : goal.returns-in-Ok
returns-in-Ok c =
    handed
    (tables_of c.args.t.now)
    c.args.out.now c.in-Ok.is
    c.write_listed.ensures

pub returns-in-Err : goal.returns-in-Err
returns-in-Err c =
    handed-refused
    (tables_of c.args.t.now)
    c.args.out.now c.in-Err.is (rw (c.from.ensures ∙ c.number.ensures) at c.write_refused.ensures)
