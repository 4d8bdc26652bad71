-- `write_rows` meets its contract: one part of the listing after another.
use native.Mathlib.Omega.{arith}
use Rattle.tables.specs.Lent.{tables_of}
use Rattle.listing_writing.proofs.Parts.{length-parts, whole}
use Rattle.listing_writing.proofs.write_rows.Goals as goal

-- src/lib.rt:59:9
pub write_points-j-requires : goal.write_points-j-requires
write_points-j-requires c =
    record {
      position_width_in_bounds = c.requires.rows_ready.room.positions;
      point_width_in_bounds = c.requires.rows_ready.room.points;
      points_in_bounds = let l = length-parts c.args.counts
          (tables_of c.args.t.now) in
          omega arith;
      by_index = c.requires.rows_ready.positions-finite;
    }

-- src/lib.rt:60:9
pub write_edges-k-requires : goal.write_edges-k-requires
write_edges-k-requires c =
    record {
      edge_width_in_bounds = c.requires.rows_ready.room.edges;
      n_in_bounds = c.requires.rows_ready.room.intervals;
      intervals_in_bounds = let l = length-parts c.args.counts
          (tables_of c.args.t.now) in
          omega arith;
      by_index = c.requires.rows_ready.intervals-finite;
    }

-- src/lib.rt:61:9
pub write_faces-l-requires : goal.write_faces-l-requires
write_faces-l-requires c =
    record {
      face_width_in_bounds = c.requires.rows_ready.room.faces;
      faces_in_bounds = let l = length-parts c.args.counts
          (tables_of c.args.t.now) in
          omega arith;
    }

-- src/lib.rt:62:5
pub write-requires : goal.write-requires
write-requires c =
    let l = length-parts c.args.counts
    (tables_of c.args.t.now) in
    omega arith

-- src/lib.rt:42:1
pub returns : goal.returns
returns c =
    whole c.write-i.ensures c.write_points-j.ensures c.write_edges-k.ensures
    c.write_faces-l.ensures
    c.write.ensures
