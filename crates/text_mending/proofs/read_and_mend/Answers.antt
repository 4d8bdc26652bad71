-- read_and_mend meets its contract: of a text that is read, the first entries of the lists are those of the text.
use mathlib.Core.Path.{ap, ◌∙◌}
use Rattle.std.specs.Prelude.{Err}
use Rattle.building_tests.specs.declared.Bounds.TheVariants.{General}
use Rattle.mesh_text.specs.Reading.{TextLists}
use Rattle.text_building.proofs.Laws.{fits}
use Rattle.text_mending.proofs.Laws.{not-text, over-limits, said-first}
use Rattle.text_mending.proofs.read_and_mend.Goals as goal

pub mend_first-requires : goal.mend_first-requires
mend_first-requires c =
    let lent : TextLists = record {
      coordinates = c.args.coordinates.now;
      lengths = c.args.sides.now;
      firsts = c.args.firsts.now;
      listed = c.args.listed.now;
      intervals = c.args.beside.now;
    } in
    let h = fits General c.args.text.now lent c.most.ensures c.read_text.ensures.outcome c.in-Ok.is in
    let s = said-first c.args.text.now lent c.most.ensures c.read_text.ensures.outcome c.requires.bytes_value
    c.in-Ok.is in
    record {
      p_in_bounds = h.coordinates;
      f_in_bounds = h.lengths;
      f_in_bounds_2 = h.firsts;
      n_in_bounds = h.listed;
      n_in_bounds_2 = h.intervals;
      said = s;
    }

pub returns-in-Err-NotText : goal.returns-in-Err-NotText
returns-in-Err-NotText c =
    not-text c.args.text.now (record {
      coordinates = c.args.coordinates.now;
      lengths = c.args.sides.now;
      firsts = c.args.firsts.now;
      listed = c.args.listed.now;
      intervals = c.args.beside.now;
    }) c.most.ensures c.read_text.ensures.outcome
    (c.in-Err-NotText.is ∙ ap Err c.in-Err-NotText.field-0-is)

pub returns-in-Err-OverLimits : goal.returns-in-Err-OverLimits
returns-in-Err-OverLimits c = over-limits c.args.text.now
    (record {
      coordinates = c.args.coordinates.now;
      lengths = c.args.sides.now;
      firsts = c.args.firsts.now;
      listed = c.args.listed.now;
      intervals = c.args.beside.now;
    }) c.most.ensures c.read_text.ensures.outcome c.requires.bytes_value
    c.requires.points_in_bounds c.requires.faces_in_bounds c.requires.faces_in_bounds_2 c.requires.listed_in_bounds
    c.requires.listed_in_bounds_2 (c.in-Err-OverLimits.is ∙ ap Err c.in-Err-OverLimits.field-0-is)
