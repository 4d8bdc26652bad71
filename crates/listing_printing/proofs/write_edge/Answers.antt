-- `write_edge` meets its contract: one run of bytes after another.
use native.Mathlib.Omega.{arith}
use Rattle.listing_printing.proofs.Laws.{line_of, edge-words, edge-numbers, edge-room}
use Rattle.listing_printing.proofs.write_edge.Goals as goal

-- src/lib.rt:87:9
pub write_words-j-requires : goal.write_words-j-requires
write_words-j-requires c =
    record {
      k_in_bounds = c.requires.edge_width_in_bounds;
      k_in_bounds_2 = let r = edge-room c.args.edges.now c.args.intervals.now c.args.e c.requires.edge_width_in_bounds c.requires.e_in_bounds in
          omega arith;
    }

-- src/lib.rt:88:9
pub write_numbers-k-requires : goal.write_numbers-k-requires
write_numbers-k-requires c =
    record {
      k_in_bounds = c.requires.e_in_bounds;
      k_in_bounds_2 = let r = edge-room c.args.edges.now c.args.intervals.now c.args.e c.requires.edge_width_in_bounds c.requires.e_in_bounds in
          omega arith;
      by_index = c.requires.by_index;
    }

-- src/lib.rt:89:5
pub write-requires : goal.write-requires
write-requires c =
    let r = edge-room c.args.edges.now c.args.intervals.now c.args.e c.requires.edge_width_in_bounds c.requires.e_in_bounds in
    omega arith

-- src/lib.rt:78:1
pub returns : goal.returns
returns c =
    line_of c.write-i.ensures c.write_words-j.ensures
    c.write_numbers-k.ensures
    c.write.ensures
    (edge-words c.args.edges.now c.args.intervals.now c.args.e c.requires.edge_width_in_bounds c.requires.e_in_bounds)
    (edge-numbers c.args.edges.now c.args.intervals.now c.args.e c.requires.edge_width_in_bounds c.requires.e_in_bounds)
