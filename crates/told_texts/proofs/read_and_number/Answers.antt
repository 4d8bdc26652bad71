-- read_and_number meets its contract: of a text that is read, the first entries of the lists are those of the text.
use mathlib.Core.Path.{ap, ◌∙◌}
use Rattle.std.specs.Prelude.{Err}
use Rattle.told_texts.proofs.Laws.{held, first-entries, not-text, over-limits}
use Rattle.told_texts.proofs.read_and_number.Goals as goal

pub number_first-requires : goal.number_first-requires
number_first-requires c =
    let h = held c.args.bounds c.args.text.now
    (record {
      coordinates = c.args.coordinates.now;
      lengths = c.args.sides.now;
      firsts = c.args.firsts.now;
      listed = c.args.listed.now;
      intervals = c.args.beside.now;
    }) c.most.ensures c.read_text.ensures.outcome
    c.in-Ok.is in record { p_in_bounds = h.coordinates; f_in_bounds = h.lengths; n_in_bounds = h.listed; n_in_bounds_2 = h.intervals; f_in_bounds_2 = h.firsts }

pub returns-in-Ok : goal.returns-in-Ok
returns-in-Ok c =
    first-entries c.args.bounds c.args.text.now
    (record {
      coordinates = c.args.coordinates.now;
      lengths = c.args.sides.now;
      firsts = c.args.firsts.now;
      listed = c.args.listed.now;
      intervals = c.args.beside.now;
    }) c.most.ensures c.read_text.ensures.outcome
    c.in-Ok.is _ c.number_first.ensures

pub returns-in-Err-NotText : goal.returns-in-Err-NotText
returns-in-Err-NotText c =
    not-text c.args.bounds c.args.text.now
    (record {
      coordinates = c.args.coordinates.now;
      lengths = c.args.sides.now;
      firsts = c.args.firsts.now;
      listed = c.args.listed.now;
      intervals = c.args.beside.now;
    }) c.most.ensures c.read_text.ensures.outcome
    (c.in-Err-NotText.is ∙ ap Err c.in-Err-NotText.field-0-is)

pub returns-in-Err-OverLimits : goal.returns-in-Err-OverLimits
returns-in-Err-OverLimits c =
    over-limits c.args.bounds c.args.text.now
    (record {
      coordinates = c.args.coordinates.now;
      lengths = c.args.sides.now;
      firsts = c.args.firsts.now;
      listed = c.args.listed.now;
      intervals = c.args.beside.now;
    }) c.most.ensures c.read_text.ensures.outcome c.requires.points_in_bounds c.requires.faces_in_bounds
    c.requires.listed_in_bounds c.requires.listed_in_bounds_2 c.requires.faces_in_bounds_2 (c.in-Err-OverLimits.is ∙ ap Err c.in-Err-OverLimits.field-0-is)
