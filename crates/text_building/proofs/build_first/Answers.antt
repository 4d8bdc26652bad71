-- build_first meets its contract: building takes the first entries of the five lists.
use mathlib.Core.Path.{sym}
use Prim.Native.Nat.{◌*◌}
use lib.Seq.{length-take-le}
use Rattle.text_building.proofs.Laws.{same-told}
use Rattle.text_building.proofs.build_first.Goals as goal

pub slice_bounds-lists-end : goal.slice_bounds-lists-end
slice_bounds-lists-end c =
    sym (length-take-le (3 * c.args.p) c.args.coordinates.now c.requires.p_in_bounds)

pub slice_bounds-lists-end-2 : goal.slice_bounds-lists-end-2
slice_bounds-lists-end-2 c =
    sym (length-take-le (4 * c.args.f) c.args.sides.now c.requires.f_in_bounds)

pub slice_bounds-lists-end-3 : goal.slice_bounds-lists-end-3
slice_bounds-lists-end-3 c =
    sym (length-take-le (4 * c.args.f) c.args.firsts.now c.requires.f_in_bounds_2)

pub slice_bounds-lists-end-4 : goal.slice_bounds-lists-end-4
slice_bounds-lists-end-4 c =
    sym (length-take-le c.args.n c.args.listed.now c.requires.n_in_bounds)

pub slice_bounds-lists-end-5 : goal.slice_bounds-lists-end-5
slice_bounds-lists-end-5 c =
    sym (length-take-le c.args.n c.args.beside.now c.requires.n_in_bounds_2)

pub build-built-requires : goal.build-built-requires
build-built-requires c =
    tt

pub told-requires : goal.told-requires
told-requires c =
    tt

pub shape_of-positions : goal.shape_of-positions
shape_of-positions c =
    c.build-built.auto.positions

pub shape_of-points : goal.shape_of-points
shape_of-points c =
    c.build-built.auto.points

pub shape_of-edges : goal.shape_of-edges
shape_of-edges c =
    c.build-built.auto.edges

pub shape_of-intervals : goal.shape_of-intervals
shape_of-intervals c =
    c.build-built.auto.intervals

pub shape_of-faces : goal.shape_of-faces
shape_of-faces c =
    c.build-built.auto.faces

pub returns : goal.returns
returns c =
    same-told c.told.ensures c.build-built.ensures.fact
