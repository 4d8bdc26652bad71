-- `write_edges` meets its contract. The invariant: the first e lines are written.
use native.Mathlib.Omega.{arith}
use mathlib.Core.Path.{refl, ◌∙◌}
use Prim.Native.Nat.{◌-◌}
use mathlib.Core.List.{[]}
use Rattle.tables.specs.Mesh.{mesh_of}
use Rattle.listings.specs.Printing.{edge_line}
use Rattle.listings.specs.Handing.{edge_line_row}
use Rattle.listing_printing.proofs.Laws.{lines_start, lines-turn-room, lines-turn, lines_end}
use Rattle.listing_printing.proofs.write_edges.Goals as goal

pub loop-e-init : goal.loop-e-init
loop-e-init c =
    lines_start edge_line _ _ (edge_line_row
    (mesh_of [] [] c.args.edges.now c.args.intervals.now []))

pub write_edge-i-requires : goal.write_edge-i-requires
write_edge-i-requires c =
    record {
      edge_width_in_bounds = omega arith;
      e_in_bounds = let bound = c.loop-e-test.true in
          let bound = c.requires.n_in_bounds in
          omega arith;
      e_in_bounds_2 = lines-turn-room edge_line _ _ (edge_line_row (mesh_of [] [] c.args.edges.now c.args.intervals.now [])) c.loop-e.e
          c.loop-e.invariant c.loop-e.auto.out c.loop-e-test.true c.requires.intervals_in_bounds;
      by_index = λ i h. c.requires.by_index i (let bound = c.loop-e-test.true in omega arith);
    }

pub loop-e-preserved : goal.loop-e-preserved
loop-e-preserved c =
    lines-turn edge_line _ _ (edge_line_row (mesh_of [] [] c.args.edges.now c.args.intervals.now [])) c.loop-e.e
    c.loop-e.invariant c.write_edge-i.ensures

pub returns : goal.returns
returns c =
    lines_end edge_line _ _ (edge_line_row (mesh_of [] [] c.args.edges.now c.args.intervals.now []))
    c.loop-e.invariant (omega arith) (omega arith)
