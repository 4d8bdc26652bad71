-- point_walk meets its contract. The invariant: the walk has passed n edges.
use mathlib.Core.Path.{refl, sym, ◌∙◌, ap}
use native.Mathlib.Omega.{arith}
use Rattle.audited_meshes.specs.Walks.{point_walk}
use Rattle.walks.specs.Steps.{point_step}
use Rattle.walks.proofs.Counting.{counted_start, counted-more, counted-last, counted-lost, counted-out}
use Rattle.t_nurcc_iter.proofs.point_walk.Goals as goal

pub loop-v-init : goal.loop-v-init
unfolding point_walk
loop-v-init c =
    counted_start _ _ _ c.args.k _ refl

pub returns-in_err-step : goal.returns-in_err-step
returns-in_err-step c =
    let lost = sym c.in_err-step.was ∙ c.point_step.ensures
    ∙ ap (point_step c.args.edges.now c.args.ne c.args.p) c.index.ensures in
    c.from_residual.ensures ∙ counted-lost _ _ _ _ _ _ _ c.loop-v.invariant _ lost
    c.loop-v-test.true

pub returns-then-step-start : goal.returns-then-step-start
returns-then-step-start c =
    let to = sym c.in_ok-step.was ∙ c.point_step.ensures
    ∙ ap (point_step c.args.edges.now c.args.ne c.args.p) c.index.ensures in
    counted-last _ _ _ _ _ _ _ c.loop-v.invariant _ _ _ to
    c.loop-v-test.true c.if-step-start.true

pub loop-v-preserved : goal.loop-v-preserved
loop-v-preserved c =
    let to = sym c.in_ok-step.was ∙ c.point_step.ensures
    ∙ ap (point_step c.args.edges.now c.args.ne c.args.p) c.index.ensures in
    counted-more _ _ _ _ _ _ _ c.loop-v.invariant _ _ _ to
    c.loop-v-test.true c.if-step-start.false

pub returns : goal.returns
returns c =
    counted-out _ _ _ _ _ _ _ c.loop-v.invariant (omega arith)
