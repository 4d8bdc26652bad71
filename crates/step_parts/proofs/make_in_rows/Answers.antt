-- make_in_rows meets its contract: the first rows of the tables are handed on; those of scratch are worked on as parts of their own and put back.
use Rattle.step_parts.proofs.FirstRows.{first-rows-back, zeroed-rows-back}
use Rattle.making.specs.Making.{made_as}
use Rattle.tables.specs.Counted.{first_rows}
use Rattle.tables.specs.Mesh.{Mesh, mesh_of}
use Rattle.tables.specs.Layout.{point_width, edge_width, face_width}
use lib.Seq.{length_front, length-take-le}
use Prim.Native.Nat.{◌*◌}
use mathlib.Core.Path.{sym, ◌∙◌, ap}
use Rattle.step_parts.proofs.make_in_rows.Goals as goal

pub slice_bounds-make-end : goal.slice_bounds-make-end
slice_bounds-make-end c =
    sym (length-take-le _ c.args.positions.now c.requires.rows.positions)

pub slice_bounds-make-end-2 : goal.slice_bounds-make-end-2
slice_bounds-make-end-2 c =
    sym (length-take-le _ c.args.points.now c.requires.rows.points)

pub slice_bounds-make-end-3 : goal.slice_bounds-make-end-3
slice_bounds-make-end-3 c =
    sym (length-take-le _ c.args.edges.now c.requires.rows.edges)

pub slice_bounds-make-end-4 : goal.slice_bounds-make-end-4
slice_bounds-make-end-4 c =
    sym (length-take-le _ c.args.intervals.now c.requires.rows.intervals)

pub slice_bounds-make-end-5 : goal.slice_bounds-make-end-5
slice_bounds-make-end-5 c =
    sym (length-take-le _ c.args.faces.now c.requires.rows.faces)

pub slice_bounds-make-end-6 : goal.slice_bounds-make-end-6
slice_bounds-make-end-6 c =
    c.requires.scratch.positions

pub slice_bounds-make-end-7 : goal.slice_bounds-make-end-7
slice_bounds-make-end-7 c =
    sym (length-take-le _ c.args.newpositions.now c.requires.scratch.positions)

pub slice_bounds-make-end-8 : goal.slice_bounds-make-end-8
slice_bounds-make-end-8 c =
    c.requires.scratch.points

pub slice_bounds-make-end-9 : goal.slice_bounds-make-end-9
slice_bounds-make-end-9 c =
    sym (length-take-le _ c.args.newpoints.now c.requires.scratch.points)

pub slice_bounds-make-end-10 : goal.slice_bounds-make-end-10
slice_bounds-make-end-10 c =
    c.requires.scratch.edges

pub slice_bounds-make-end-11 : goal.slice_bounds-make-end-11
slice_bounds-make-end-11 c =
    sym (length-take-le _ c.args.newedges.now c.requires.scratch.edges)

pub slice_bounds-make-end-12 : goal.slice_bounds-make-end-12
slice_bounds-make-end-12 c =
    c.requires.scratch.intervals

pub slice_bounds-make-end-13 : goal.slice_bounds-make-end-13
slice_bounds-make-end-13 c =
    sym (length-take-le _ c.args.newintervals.now c.requires.scratch.intervals)

pub slice_bounds-make-end-14 : goal.slice_bounds-make-end-14
slice_bounds-make-end-14 c =
    c.requires.scratch.faces

pub slice_bounds-make-end-15 : goal.slice_bounds-make-end-15
slice_bounds-make-end-15 c =
    sym (length-take-le _ c.args.newfaces.now c.requires.scratch.faces)

pub make-requires : goal.make-requires
unfolding first_rows
make-requires c =
    c.requires.ready

pub returns : goal.returns
unfolding first_rows
returns c =
    let t : Mesh = mesh_of c.args.newpositions.now c.args.newpoints.now c.args.newedges.now c.args.newintervals.now
    c.args.newfaces.now in
    let lp = c.make.auto.newpositions ∙ length-take-le _ c.args.newpositions.now c.requires.scratch.positions in
    let lw = c.make.auto.newpoints ∙ length-take-le _ c.args.newpoints.now c.requires.scratch.points in
    let le = c.make.auto.newedges ∙ length-take-le _ c.args.newedges.now c.requires.scratch.edges in
    let li = c.make.auto.newintervals ∙ length-take-le _ c.args.newintervals.now c.requires.scratch.intervals in
    let lf = c.make.auto.newfaces ∙ length-take-le _ c.args.newfaces.now c.requires.scratch.faces in
    record {
      newfaces_value = c.make.ensures
          ∙ ap (made_as c.make.result) (sym (first-rows-back c.args.c t c.make.new.newpositions c.make.new.newpoints
          c.make.new.newedges c.make.new.newintervals c.make.new.newfaces lp lw le li lf));
      newfaces_unchanged = zeroed-rows-back c.args.c t c.make.new.newpositions c.make.new.newpoints c.make.new.newedges
          c.make.new.newintervals c.make.new.newfaces lp lw le li lf;
    }
