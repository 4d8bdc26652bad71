-- `write_points` meets its contract. The invariant: the first p lines are written.
use native.Mathlib.Omega.{arith}
use mathlib.Core.Path.{refl, ◌∙◌}
use Prim.Native.Nat.{◌-◌}
use mathlib.Core.List.{[]}
use Rattle.tables.specs.Mesh.{mesh_of}
use Rattle.listings.specs.Printing.{point_line}
use Rattle.listings.specs.Handing.{point_line_row}
use Rattle.listing_printing.proofs.Laws.{lines_start, lines-turn-room, lines-turn, lines_end}
use Rattle.listing_printing.proofs.write_points.Goals as goal

pub loop-p-init : goal.loop-p-init
loop-p-init c =
    lines_start point_line _ _ (point_line_row
    (mesh_of c.args.positions.now c.args.points.now [] [] []))

pub write_point-i-requires : goal.write_point-i-requires
write_point-i-requires c =
    record {
      position_width_in_bounds = omega arith;
      point_width_in_bounds = let bound = c.loop-p-test.true in
          let bound = c.requires.point_width_in_bounds in
          omega arith;
      p_in_bounds = lines-turn-room point_line _ _ (point_line_row (mesh_of c.args.positions.now c.args.points.now [] [] [])) c.loop-p.p
          c.loop-p.invariant c.loop-p.auto.out c.loop-p-test.true c.requires.points_in_bounds;
      by_index = λ i h. c.requires.by_index i (let bound = c.loop-p-test.true in omega arith);
    }

pub loop-p-preserved : goal.loop-p-preserved
loop-p-preserved c =
    lines-turn point_line _ _ (point_line_row (mesh_of c.args.positions.now c.args.points.now [] [] [])) c.loop-p.p
    c.loop-p.invariant c.write_point-i.ensures

pub returns : goal.returns
returns c =
    lines_end point_line _ _ (point_line_row (mesh_of c.args.positions.now c.args.points.now [] [] []))
    c.loop-p.invariant (omega arith) (omega arith)
