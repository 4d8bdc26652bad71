-- write_listed meets its contract: by the answer of writing the listing.
use mathlib.Core.Path.{ap, ◌∙◌}
use Rattle.std.specs.Prelude.{Err}
use Rattle.tables.specs.Lent.{tables_of}
use Rattle.handover_parts.proofs.Lines.{is-listed, is-not-closed, is-over, is-too-short}
use Rattle.handover_parts.proofs.write_listed.Goals as goal

pub returns-in-Ok : goal.returns-in-Ok
returns-in-Ok c =
    is-listed
    (tables_of c.args.t.now)
    c.args.counts c.args.out.now c.write_listing.ensures
    c.in-Ok.is

pub returns-in-Err-NotClosed : goal.returns-in-Err-NotClosed
returns-in-Err-NotClosed c =
    is-not-closed
    (tables_of c.args.t.now)
    c.args.counts c.args.out.now c.write_listing.ensures
    (c.in-Err-NotClosed.is ∙ ap Err c.in-Err-NotClosed.field-0-is) c.write_refused.ensures

pub returns-in-Err-OverCeilings : goal.returns-in-Err-OverCeilings
returns-in-Err-OverCeilings c =
    is-over
    (tables_of c.args.t.now)
    c.args.counts c.args.out.now c.write_listing.ensures
    (c.in-Err-OverCeilings.is ∙ ap Err c.in-Err-OverCeilings.field-0-is) c.write_refused-in-Err-OverCeilings.ensures

pub returns-in-Err-TooShort : goal.returns-in-Err-TooShort
returns-in-Err-TooShort c =
    is-too-short
    (tables_of c.args.t.now)
    c.args.counts c.args.out.now c.write_listing.ensures
    (c.in-Err-TooShort.is ∙ ap Err c.in-Err-TooShort.field-0-is) c.write_refused-in-Err-TooShort.ensures
