-- `write_point` meets its contract: one run of bytes after another.
use native.Mathlib.Omega.{arith}
use Rattle.listing_printing.proofs.Laws.{line_of, point-numbers, point-words, point-room}
use Rattle.listing_printing.proofs.write_point.Goals as goal

-- src/lib.rt:72:9
pub write_numbers-j-requires : goal.write_numbers-j-requires
write_numbers-j-requires c =
    record {
      k_in_bounds = c.requires.position_width_in_bounds;
      k_in_bounds_2 = let r = point-room c.args.positions.now c.args.points.now c.args.p c.requires.position_width_in_bounds c.requires.point_width_in_bounds in
          omega arith;
      by_index = c.requires.by_index;
    }

-- src/lib.rt:73:9
pub write_words-k-requires : goal.write_words-k-requires
write_words-k-requires c =
    record {
      k_in_bounds = c.requires.point_width_in_bounds;
      k_in_bounds_2 = let r = point-room c.args.positions.now c.args.points.now c.args.p c.requires.position_width_in_bounds c.requires.point_width_in_bounds in
          omega arith;
    }

-- src/lib.rt:74:5
pub write-requires : goal.write-requires
write-requires c =
    let r = point-room c.args.positions.now c.args.points.now c.args.p c.requires.position_width_in_bounds c.requires.point_width_in_bounds in
    omega arith

-- src/lib.rt:63:1
pub returns : goal.returns
returns c =
    line_of c.write-i.ensures c.write_numbers-j.ensures
    c.write_words-k.ensures
    c.write.ensures
    (point-numbers c.args.positions.now c.args.points.now c.args.p c.requires.position_width_in_bounds c.requires.point_width_in_bounds)
    (point-words c.args.positions.now c.args.points.now c.args.p c.requires.position_width_in_bounds c.requires.point_width_in_bounds)
