-- read_and_place meets its contract: of a text that is read, the first entries of the lists are those of the text.
use mathlib.Core.Path.{◌∙◌}
use Rattle.text_places.proofs.Laws.{roomed, first-entries, unread}
use Rattle.text_places.proofs.read_and_place.Goals as goal

pub place_first-requires : goal.place_first-requires
place_first-requires c =
    let h = roomed c.args.bounds c.args.text.now
    (record {
      coordinates = c.args.coordinates.now;
      lengths = c.args.sides.now;
      firsts = c.args.firsts.now;
      listed = c.args.listed.now;
      intervals = c.args.beside.now;
    }) c.most.ensures c.read_text.ensures.outcome c.in-Ok.is in
    record {
      p_in_bounds = h.held.coordinates;
      f_in_bounds = h.held.lengths;
      n_in_bounds = h.held.listed;
      n_in_bounds_2 = h.held.intervals;
      f_in_bounds_2 = h.held.firsts;
      p_bound = h.points-few;
      f_bound = h.faces-few;
    }

pub returns-in-Ok : goal.returns-in-Ok
returns-in-Ok c =
    first-entries c.args.bounds c.args.text.now
    (record {
      coordinates = c.args.coordinates.now;
      lengths = c.args.sides.now;
      firsts = c.args.firsts.now;
      listed = c.args.listed.now;
      intervals = c.args.beside.now;
    }) c.most.ensures c.read_text.ensures.outcome
    c.in-Ok.is _ c.place_first.ensures

pub returns-in-Err : goal.returns-in-Err
returns-in-Err c =
    c.place_at.ensures
    ∙ unread c.args.bounds c.args.text.now
    (record {
      coordinates = c.args.coordinates.now;
      lengths = c.args.sides.now;
      firsts = c.args.firsts.now;
      listed = c.args.listed.now;
      intervals = c.args.beside.now;
    }) c.most.ensures c.read_text.ensures.outcome c.requires.points_in_bounds c.requires.faces_in_bounds c.requires.listed_in_bounds
    c.requires.listed_in_bounds_2 c.requires.faces_in_bounds_2 _ c.in-Err.is
