-- step_by_zeros meets its contract.
use Rattle.tables.specs.Mesh.{mesh_of}
use Rattle.numbered_steps.proofs.Steps.{stepped-to}
use Rattle.numbered_steps.proofs.step_by_zeros.Goals as goal

pub returns : goal.returns
returns c =
    stepped-to
    (mesh_of c.args.positions.now c.args.points.now c.args.edges.now c.args.intervals.now c.args.faces.now)
    c.args.counts c.args.order.now c.step.ensures.outcome
