-- write_built meets its contract: the step, then what is written of it.
use Rattle.tables.specs.Mesh.{mesh_of}
use Rattle.handover.proofs.Outputs.{written-stepped}
use Rattle.handover.proofs.handover_text.write_built.Goals as goal

pub returns : goal.returns
returns c =
    written-stepped c.args.counts
    (mesh_of c.args.positions.now c.args.points.now c.args.edges.now c.args.intervals.now c.args.faces.now)
    c.numbered_step-answer.ensures c.write_handed.ensures
