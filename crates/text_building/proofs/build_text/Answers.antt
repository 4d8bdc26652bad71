-- build_text meets its contract: the bytes are counted before the form is looked at.
use mathlib.Core.Path.{refl}
use native.Mathlib.Omega.{arith}
use Rattle.tables.specs.Mesh.{mesh_of}
use Rattle.text_building.proofs.Laws.{too_long, not-too-long, promised}
use Rattle.text_building.proofs.build_text.Goals as goal

pub is_too_long-requires : goal.is_too_long-requires
is_too_long-requires c =
    tt

pub returns-then-is_too_long : goal.returns-then-is_too_long
returns-then-is_too_long c =
    let whole = promised (too_long c.args.bounds c.args.text.now
    (mesh_of c.args.positions.now c.args.points.now c.args.edges.now c.args.intervals.now c.args.faces.now)
    c.is_too_long.ensures c.if-is_too_long.true) in record { outcome = whole.0; told = whole.1 }

pub slice_bounds-read_and_build-end : goal.slice_bounds-read_and_build-end
slice_bounds-read_and_build-end c =
    refl

pub slice_bounds-read_and_build-end-2 : goal.slice_bounds-read_and_build-end-2
slice_bounds-read_and_build-end-2 c =
    refl

pub slice_bounds-read_and_build-end-3 : goal.slice_bounds-read_and_build-end-3
slice_bounds-read_and_build-end-3 c =
    refl

pub slice_bounds-read_and_build-end-4 : goal.slice_bounds-read_and_build-end-4
slice_bounds-read_and_build-end-4 c =
    refl

pub slice_bounds-read_and_build-end-5 : goal.slice_bounds-read_and_build-end-5
slice_bounds-read_and_build-end-5 c =
    refl

pub read_and_build-requires : goal.read_and_build-requires
read_and_build-requires c =
    record { points_in_bounds = omega arith; faces_in_bounds = omega arith; listed_in_bounds = omega arith; listed_in_bounds_2 = omega arith; faces_in_bounds_2 = omega arith }

pub shape_of-positions : goal.shape_of-positions
shape_of-positions c =
    c.read_and_build.auto.positions

pub shape_of-points : goal.shape_of-points
shape_of-points c =
    c.read_and_build.auto.points

pub shape_of-edges : goal.shape_of-edges
shape_of-edges c =
    c.read_and_build.auto.edges

pub shape_of-intervals : goal.shape_of-intervals
shape_of-intervals c =
    c.read_and_build.auto.intervals

pub shape_of-faces : goal.shape_of-faces
shape_of-faces c =
    c.read_and_build.auto.faces

pub returns : goal.returns
returns c =
    let whole = promised (not-too-long c.args.bounds c.args.text.now
    (mesh_of c.args.positions.now c.args.points.now c.args.edges.now c.args.intervals.now c.args.faces.now)
    c.is_too_long.ensures c.if-is_too_long.false c.read_and_build.ensures) in record { outcome = whole.0; told = whole.1 }
