-- move_rows meets its contract, table by table.
use native.Mathlib.Omega.{arith}
use Rattle.tables.specs.Counted.{over_rows, zeroed_rows}
use Rattle.row_moves.proofs.move_rows.Goals as goal

pub overflow_mul-c-3 : goal.overflow_mul-c-3
overflow_mul-c-3 c =
    omega (arith, c)

pub move_first-requires-3 : goal.move_first-requires-3
move_first-requires-3 c =
    record { n_in_bounds = c.requires.edge_width_in_bounds; n_in_bounds_2 = c.requires.edge_width_in_bounds_2 }

pub move_first-requires-4 : goal.move_first-requires-4
move_first-requires-4 c =
    record { n_in_bounds = c.requires.edges_in_bounds; n_in_bounds_2 = c.requires.edges_in_bounds_2 }

pub overflow_mul-c-4 : goal.overflow_mul-c-4
overflow_mul-c-4 c =
    omega (arith, c)

pub move_first-requires-5 : goal.move_first-requires-5
move_first-requires-5 c =
    record { n_in_bounds = c.requires.face_width_in_bounds; n_in_bounds_2 = c.requires.face_width_in_bounds_2 }

pub shape_of-newpositions : goal.shape_of-newpositions
shape_of-newpositions c =
    c.move_first.auto.new

pub shape_of-newpoints : goal.shape_of-newpoints
shape_of-newpoints c =
    c.move_first-2.auto.new

pub shape_of-newedges : goal.shape_of-newedges
shape_of-newedges c =
    c.move_first-3.auto.new

pub shape_of-newintervals : goal.shape_of-newintervals
shape_of-newintervals c =
    c.move_first-4.auto.new

pub shape_of-newfaces : goal.shape_of-newfaces
shape_of-newfaces c =
    c.move_first-5.auto.new

pub shape_of-positions : goal.shape_of-positions
shape_of-positions c =
    c.move_first.auto.elements

pub shape_of-points : goal.shape_of-points
shape_of-points c =
    c.move_first-2.auto.elements

pub shape_of-edges : goal.shape_of-edges
shape_of-edges c =
    c.move_first-3.auto.elements

pub shape_of-intervals : goal.shape_of-intervals
shape_of-intervals c =
    c.move_first-4.auto.elements

pub shape_of-faces : goal.shape_of-faces
shape_of-faces c =
    c.move_first-5.auto.elements

pub returns : goal.returns
unfolding over_rows zeroed_rows
returns c =
    record {
      fact = rw (
        c.move_first.ensures.elements_after,
        c.move_first-2.ensures.elements_after,
        c.move_first-3.ensures.elements_after,
        c.move_first-4.ensures.elements_after,
        c.move_first-5.ensures.elements_after,
      );
      fact_2 = rw (
        c.move_first.ensures.after,
        c.move_first-2.ensures.after,
        c.move_first-3.ensures.after,
        c.move_first-4.ensures.after,
        c.move_first-5.ensures.after,
      );
    }
