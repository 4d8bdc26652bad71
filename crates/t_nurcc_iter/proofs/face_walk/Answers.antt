-- face_walk meets its contract. The invariant: the walk has passed n edges.
use mathlib.Core.Path.{refl, sym, ◌∙◌, ap}
use native.Mathlib.Omega.{arith}
use Rattle.audited_meshes.specs.Walks.{face_walk}
use Rattle.walks.specs.Steps.{face_step}
use Rattle.walks.proofs.Counting.{counted_start, counted-more, counted-last, counted-lost, counted-out}
use Rattle.t_nurcc_iter.proofs.face_walk.Goals as goal

pub loop-n-init : goal.loop-n-init
unfolding face_walk
loop-n-init c =
    counted_start _ _ _ 64 _ refl

pub returns-in_err-step : goal.returns-in_err-step
returns-in_err-step c =
    let lost = sym c.in_err-step.was ∙ c.face_step.ensures
    ∙ ap (face_step c.args.edges.now c.args.ne c.args.f) c.index.ensures in
    c.from_residual.ensures ∙ counted-lost _ _ _ _ _ _ _ c.loop-n.invariant _ lost
    c.loop-n-test.true

pub returns-then-step-start : goal.returns-then-step-start
returns-then-step-start c =
    let to = sym c.in_ok-step.was ∙ c.face_step.ensures
    ∙ ap (face_step c.args.edges.now c.args.ne c.args.f) c.index.ensures in
    counted-last _ _ _ _ _ _ _ c.loop-n.invariant _ _ _ to
    c.loop-n-test.true c.if-step-start.true

pub loop-n-preserved : goal.loop-n-preserved
loop-n-preserved c =
    let to = sym c.in_ok-step.was ∙ c.face_step.ensures
    ∙ ap (face_step c.args.edges.now c.args.ne c.args.f) c.index.ensures in
    counted-more _ _ _ _ _ _ _ c.loop-n.invariant _ _ _ to
    c.loop-n-test.true c.if-step-start.false

pub returns : goal.returns
returns c =
    counted-out _ _ _ _ _ _ _ c.loop-n.invariant (omega arith)
