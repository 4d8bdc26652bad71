-- copy_rows meets its contract: four copies, one for each table.
use Rattle.visiting.proofs.Laws.{rows-copied}
use Rattle.tables.specs.Mesh.{mesh_of}
use mathlib.Core.List.{[]}
use Rattle.visiting.proofs.copy_rows.Goals as goal

pub returns : goal.returns
returns c =
    rows-copied (mesh_of [] c.args.points.now c.args.edges.now c.args.intervals.now c.args.faces.now)
    (mesh_of [] c.args.newpoints.now c.args.newedges.now c.args.newintervals.now c.args.newfaces.now) c.args.old _ _ _ _
    c.copy_first.ensures c.copy_first-2.ensures
    c.copy_first-3.ensures
    c.copy_first-4.ensures
