-- step_told meets its contract: what the step left, and its answer as it is told; the numbers that it is handed are the step's.
use mathlib.Core.Path.{subst, ◌∙◌}
use Rattle.station_answers.proofs.Laws.{stepped-answer}
use Rattle.tables.specs.Mesh.{Mesh, mesh_of}
use Rattle.steps.specs.OneStep.{Binary64}
use Rattle.station_steps.proofs.Laws.{told_of}
use Rattle.station_steps.proofs.step_told.Goals as goal

pub returns : goal.returns
returns c =
    let same = stepped-answer c.args.counts.now c.step-answer.result in
    let m : Mesh = mesh_of c.args.positions.now c.args.points.now c.args.edges.now c.args.intervals.now
    c.args.faces.now in
    let t : Mesh = mesh_of c.args.newpositions.now c.args.newpoints.now c.args.newedges.now c.args.newintervals.now
    c.args.newfaces.now in
    record {
      outcome = told_of c.args.edition c.args.counts.now m t c.args.order.now c.load_counts-c.ensures
          c.step-answer.ensures.outcome (c.tell.ensures.value ∙ same.0) (c.tell.ensures.counts_after ∙ same.1);
      numbers = subst (λ k. Binary64 k m) c.load_counts-c.ensures c.step-answer.ensures.numbers;
    }
