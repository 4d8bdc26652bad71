-- lay_border meets its contract. The invariant: the walk has passed the edges and points that stand in the arrays.
use mathlib.Core.Path.{sym, ◌∙◌, ap}
use native.Mathlib.Omega.{arith}
use Rattle.walks.specs.Steps.{face_step}
use Rattle.tables.specs.Parts.{face_tables}
use Rattle.walks.proofs.Border.{border-start, border-more, border-last, border-lost, border-out}
use Rattle.t_nurcc_face.proofs.lay_border.Goals as goal

pub loop-n-init : goal.loop-n-init
loop-n-init c =
    border-start (face_tables c.args.edges.now c.args.faces.now) c.args.ne c.args.f c.args.perimeter.now c.args.points.now

pub returns-in_err-step : goal.returns-in_err-step
returns-in_err-step c =
    let lost = sym c.in_err-step.was ∙ c.face_step.ensures
    ∙ ap (face_step c.args.edges.now c.args.ne c.args.f) c.index.ensures in
    rw c.from_residual.ensures (border-lost (face_tables c.args.edges.now c.args.faces.now) c.args.ne c.args.f c.args.perimeter.now c.args.points.now
    c.requires.perimeter_len c.requires.points_len _ _ _ _ c.loop-n.invariant lost
    c.loop-n-test.true)

pub returns-then-step-start : goal.returns-then-step-start
returns-then-step-start c =
    let to = sym c.in_ok-step.was
    ∙ c.face_step.ensures
    ∙ ap (face_step c.args.edges.now c.args.ne c.args.f)
    c.index.ensures in
    border-last (face_tables c.args.edges.now c.args.faces.now) c.args.ne c.args.f c.args.perimeter.now c.args.points.now
    c.requires.perimeter_len c.requires.points_len _ _ _ _ c.loop-n.invariant _ _ to c.loop-n-test.true _
    c.if-step-start.true c.put_first_four.ensures

pub loop-n-preserved : goal.loop-n-preserved
loop-n-preserved c =
    let to = sym c.in_ok-step.was ∙ c.face_step.ensures
    ∙ ap (face_step c.args.edges.now c.args.ne c.args.f) c.index.ensures in
    border-more (face_tables c.args.edges.now c.args.faces.now) c.args.ne c.args.f c.args.perimeter.now c.args.points.now
    c.requires.perimeter_len c.requires.points_len _ _ _ _ c.loop-n.invariant _ _ to
    c.loop-n-test.true c.if-step-start.false

pub returns : goal.returns
returns c =
    border-out (face_tables c.args.edges.now c.args.faces.now) c.args.ne c.args.f c.args.perimeter.now c.args.points.now
    c.requires.perimeter_len c.requires.points_len _ _ _ _ c.loop-n.invariant (omega arith)
