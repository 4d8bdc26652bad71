-- conclude meets its contract.
use lib.ListN.{length}
use Prim.Native.Nat.{◌/◌}
use mathlib.Core.Path.{◌∙◌, sym}
use Rattle.tables.specs.Mesh.{mesh_of}
use Rattle.built_meshes.specs.Whole.{whole_verdict}
use Rattle.building_ends.proofs.Ends.{concluded-fit, concluded-unfit}
use Rattle.building_ends.proofs.conclude.Goals as goal

pub returns-in-Ok : goal.returns-in-Ok
returns-in-Ok c =
    let m = mesh_of c.args.positions.now c.args.points.now c.args.edges.now c.args.intervals.now
    c.args.faces.now in
    concluded-fit c.args.coordinates.now (length c.args.coordinates.now / 3) c.args.nl c.args.nf m c.args.k
    (whole_verdict m (length c.args.coordinates.now / 3) c.args.k) c.index-ne.result c.copy_first.new.elements
    c.mark_points.new.points
    (sym (rw c.index-ne.ensures at
    (c.whole_verdict.ensures c.args.positions.now c.args.intervals.now c.args.faces.now))
    ∙ c.in-Ok.is) c.index-ne.ensures c.copy_first.ensures c.mark_points.ensures

pub returns-in-Err : goal.returns-in-Err
returns-in-Err c =
    let m = mesh_of c.args.positions.now c.args.points.now c.args.edges.now c.args.intervals.now
    c.args.faces.now in
    concluded-unfit c.args.coordinates.now (length c.args.coordinates.now / 3) c.args.nl c.args.nf m c.args.k
    (whole_verdict m (length c.args.coordinates.now / 3) c.args.k) c.in-Err.g _
    (sym
    (rw c.index-ne.ensures at (c.whole_verdict.ensures c.args.positions.now c.args.intervals.now c.args.faces.now))
    ∙ c.in-Err.is) c.zero_rows.ensures
