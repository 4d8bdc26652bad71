-- `store` meets its contract: the parts of a text are where the calls store them.
use mathlib.Core.List.{map}
use Rattle.mesh_lines.specs.Grammar.{flat, side_first, side_points, side_intervals}
use Rattle.mesh_lines.specs.Parts.{length_word}
use Rattle.mesh_text.proofs.Stored.{points-there, faces-there, stored-points, stored-faces}
use Rattle.text_reading.proofs.store.Goals as goal

pub store_points-i-requires : goal.store_points-i-requires
store_points-i-requires c =
    let whole = points-there _ c.requires in record { at_in_bounds = whole.0; parses = whole.1 }

pub store_faces-requires : goal.store_faces-requires
store_faces-requires c =
    let whole = faces-there _ (c.requires) c.store_points-i.ensures.place in record { at_in_bounds = whole.0; parses = whole.1 }

pub returns : goal.returns
returns c = record {
  coordinates = stored-points _ c.requires _ c.store_points-i.ensures.list;
  lengths = stored-faces _ c.requires c.store_points-i.ensures.place (flat (map length_word)) c.args.ls.now
      c.store_faces.ensures.lengths;
  firsts = stored-faces _ c.requires c.store_points-i.ensures.place (flat (map side_first)) c.args.qs.now
      c.store_faces.ensures.firsts;
  points = stored-faces _ c.requires c.store_points-i.ensures.place (flat (flat side_points)) c.args.ps.now
      c.store_faces.ensures.points;
  intervals = stored-faces _ c.requires c.store_points-i.ensures.place (flat (flat side_intervals)) c.args.ds.now
      c.store_faces.ensures.intervals;
}
