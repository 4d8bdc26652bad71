-- place_first meets its contract: nothing is put over the edge points.
use Rattle.edition_points.proofs.Laws.{first-placed}
use Rattle.placing.specs.Placing.{refined_tables}
use Rattle.tables.specs.Mesh.{mesh_of}
use mathlib.Core.Path.{◌∙◌}
use Rattle.edition_points.proofs.place_first.Goals as goal

pub returns : goal.returns
returns c =
    first-placed (mesh_of c.args.positions.now c.args.points.now c.args.edges.now c.args.intervals.now c.args.faces.now)
    c.args.counts (refined_tables c.args.newedges.now c.args.newfaces.now) c.args.newpositions.now
    ∙ c.place_three.ensures
