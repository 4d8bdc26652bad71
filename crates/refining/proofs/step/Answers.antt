-- step meets its contract: the first ground is answered with everything untouched, else the step is made.
use Rattle.std.specs.Prelude.{Result, Err}
use Rattle.std.proofs.lemmas.Result.{err_from_is_err_and}
use Rattle.tables.specs.declared.Counts.{Counts}
use Rattle.steps.specs.declared.StepRefusal.{StepRefusal}
use Rattle.refining.proofs.Laws.{passed, refused}
use Rattle.tables.specs.Mesh.{Mesh, mesh_of}
use mathlib.Core.Path.{◌≡◌, sym, ◌∙◌, ap}
use Rattle.steps.specs.Step.{step_numbers}
use Rattle.refining.proofs.step.Goals as goal

pub returns-in_err-c-clause-outcome : goal.returns-in_err-c-clause-outcome
returns-in_err-c-clause-outcome c =
    let m : Mesh = mesh_of c.args.positions.now c.args.points.now c.args.edges.now c.args.intervals.now c.args.faces.now in
    let t : Mesh = mesh_of c.args.newpositions.now c.args.newpoints.now c.args.newedges.now c.args.newintervals.now
    c.args.newfaces.now in
    let x = err_from_is_err_and c.from_residual.result c.from_residual.ensures.1 in
    let e : c.from_residual.result ≡ Err c.in_err-c.field-0.0 = x.1 ∙ ap Err x.2 in
    ap (λ (a : Result Counts StepRefusal). record { answer = a; tables = m; scratch = t }) e
    ∙ refused c.args.edition m c.args.counts c.args.order.now t c.in_err-c.field-0.0 (sym c.in_err-c.was ∙ c.first_ground.ensures)

pub returns-in_err-c-clause-told : goal.returns-in_err-c-clause-told
returns-in_err-c-clause-told c = ap (λ o. step_numbers o.answer) (returns-in_err-c-clause-outcome c)

pub finish-requires : goal.finish-requires
finish-requires c =
    let m : Mesh = mesh_of c.args.positions.now c.args.points.now c.args.edges.now c.args.intervals.now c.args.faces.now in
    let t : Mesh = mesh_of c.args.newpositions.now c.args.newpoints.now c.args.newedges.now c.args.newintervals.now
    c.args.newfaces.now in
    passed c.args.edition m c.args.counts c.args.order.now t _ (sym c.in_ok-c.was ∙ c.first_ground.ensures)
