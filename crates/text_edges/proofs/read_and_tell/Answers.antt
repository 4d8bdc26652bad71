-- read_and_tell meets its contract: of a text that is read, the first entries of the lists are those of the text.
use Rattle.text_places.proofs.Laws.{roomed}
use Rattle.text_edges.proofs.Laws.{first-entries, unread}
use Rattle.text_edges.proofs.read_and_tell.Goals as goal

pub told_first-requires : goal.told_first-requires
told_first-requires c =
    let h = roomed c.args.bounds c.args.text.now
    (record {
      coordinates = c.args.coordinates.now;
      lengths = c.args.sides.now;
      firsts = c.args.firsts.now;
      listed = c.args.listed.now;
      intervals = c.args.beside.now;
    }) c.most.ensures c.read_text.ensures.outcome c.in-Ok.is in record { nf_in_bounds = h.held.lengths; n_in_bounds = h.held.listed; nf_bound = h.faces-few }

pub returns-in-Ok : goal.returns-in-Ok
returns-in-Ok c =
    first-entries c.args.bounds c.args.text.now
    (record {
      coordinates = c.args.coordinates.now;
      lengths = c.args.sides.now;
      firsts = c.args.firsts.now;
      listed = c.args.listed.now;
      intervals = c.args.beside.now;
    }) c.most.ensures c.read_text.ensures.outcome c.requires.text_value c.args.f
    c.args.i c.in-Ok.is _ c.told_first.ensures

pub returns-in-Err : goal.returns-in-Err
returns-in-Err c =
    unread c.args.bounds c.args.text.now
    (record {
      coordinates = c.args.coordinates.now;
      lengths = c.args.sides.now;
      firsts = c.args.firsts.now;
      listed = c.args.listed.now;
      intervals = c.args.beside.now;
    }) c.most.ensures c.read_text.ensures.outcome c.requires.text_value
    c.args.f c.args.i c.requires.points_in_bounds c.requires.faces_in_bounds c.requires.listed_in_bounds c.requires.listed_in_bounds_2 c.requires.faces_in_bounds_2
    _ c.in-Err.is
