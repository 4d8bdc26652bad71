-- run_steps meets its contract. The invariant `Going`: what is left of the run, from the tables and counts before step `length-index` on, is
-- the whole run.
use Rattle.std.specs.Prelude.{Result, Ok, Err}
use Rattle.tables.specs.Mesh.{mesh_of}
use Rattle.tables.specs.declared.Counts.{Counts}
use Rattle.steps.specs.declared.StepRefusal.{StepRefusal}
use Rattle.runs.specs.Runs.{counts_after, one_more_if}
use Rattle.ordered_runs.proofs.Runs.{going-turn, going_end, one_more}
use mathlib.Core.Path.{◌≡◌, sym, ◌∙◌, ap}
use Prim.Native.Nat.{ℕ, ◌+◌}
use native.Mathlib.Omega.{arith}
use Rattle.step_runs.proofs.run_steps.Goals.{in-Ok, in_default}
use Rattle.step_runs.proofs.run_steps.Goals as goal

pub loop-length-preserved : goal.loop-length-preserved
loop-length-preserved c =
    let turned = (λ (k : Counts) (ek : k ≡ counts_after c.step-answer.result c.loop-length.c) (n : ℕ) (en : n ≡ one_more_if c.step-answer.result c.loop-length.accepted).
    going-turn c.args.edition (mesh_of c.args.positions.now c.args.points.now c.args.edges.now c.args.intervals.now c.args.faces.now)
    c.args.counts
    (mesh_of c.args.newpositions.now c.args.newpoints.now c.args.newedges.now c.args.newintervals.now c.args.newfaces.now)
    c.args.orders.now c.args.lengths.now c.loop-length.invariant c.loop-length-test.true c.index.ensures
    c.min.ensures c.step-answer.ensures.outcome
    (record
    { positions = c.step-answer.auto.positions; points = c.step-answer.auto.points; edges = c.step-answer.auto.edges; intervals = c.step-answer.auto.intervals; faces = c.step-answer.auto.faces })
    (record {
      positions = c.step-answer.auto.newpositions;
      points = c.step-answer.auto.newpoints;
      edges = c.step-answer.auto.newedges;
      intervals = c.step-answer.auto.newintervals;
      faces = c.step-answer.auto.newfaces;
    }) ek en) in
    let after = (λ (a : Result Counts StepRefusal). counts_after a c.loop-length.c) in
    let more = (λ (a : Result Counts StepRefusal). one_more_if a c.loop-length.accepted) in
    elim c.match-answer.branch [
      | in-Ok w ↦ rw w.at-is (turned _ (w.c-is ∙ sym (ap after w.in-Ok.is)) _ (w.accepted-is ∙ one_more _ _ w.in-Ok.is))
      | in_default w ↦ rw w.at-is (turned _ (w.c-is ∙ sym (ap after w.in_default.is)) _ (w.accepted-is ∙ sym (ap more w.in_default.is)))
    ]

pub returns-clause-outcome : goal.returns-clause-outcome
returns-clause-outcome c =
    going_end c.args.edition (mesh_of c.args.positions.now c.args.points.now c.args.edges.now c.args.intervals.now c.args.faces.now)
    c.args.counts
    (mesh_of c.args.newpositions.now c.args.newpoints.now c.args.newedges.now c.args.newintervals.now c.args.newfaces.now)
    c.args.orders.now c.args.lengths.now c.loop-length.invariant c.loop-length-test.false
