-- edge_from_opposing_point meets its contract. The invariant: the search has passed n edges, none of which touches q.
use mathlib.Core.Path.{refl, sym, ◌∙◌, ap}
use native.Mathlib.Omega.{arith}
use Rattle.audited_meshes.specs.Walks.{touches}
use Rattle.walks.specs.Steps.{point_step}
use Rattle.tables.specs.Parts.{point_tables}
use Rattle.walks.specs.Neighbour.{edge_to_point}
use Rattle.walks.proofs.Seeking.{sought-start, sought-at, sought-more, sought-last, sought-lost, sought-out}
use Rattle.t_nurcc_control_point.proofs.edge_from_opposing_point.Goals as goal

pub loop-n-init : goal.loop-n-init
unfolding edge_to_point
loop-n-init c =
    sought-start _ _ _ _ c.args.k _ refl

pub returns-in_err-step : goal.returns-in_err-step
returns-in_err-step c =
    let lost = sym c.in_err-step.was ∙ c.point_step.ensures
    ∙ ap (point_step c.args.edges.now c.args.ne c.args.p) c.index.ensures in
    c.from_residual.ensures ∙ sought-lost _ _ _ _ _ _ _ _ c.loop-n.invariant _ lost
    c.loop-n-test.true

pub returns-then-touches : goal.returns-then-touches
returns-then-touches c =
    let to = sym c.in_ok-step.was
    ∙ c.point_step.ensures
    ∙ ap (point_step c.args.edges.now c.args.ne c.args.p)
    c.index.ensures in
    let at = ap (touches (point_tables c.args.points.now c.args.edges.now) c.args.q)
    (sym c.index-in-loop-n.ensures) ∙ sym c.touches.ensures ∙ c.if-touches.true in
    sought-at _ _ _ _ _ _ _ _ c.loop-n.invariant _ _ _ to c.loop-n-test.true at

pub returns-then-step-start : goal.returns-then-step-start
returns-then-step-start c =
    let to = sym c.in_ok-step.was
    ∙ c.point_step.ensures
    ∙ ap (point_step c.args.edges.now c.args.ne c.args.p) c.index.ensures in
    let at = ap (touches (point_tables c.args.points.now c.args.edges.now) c.args.q)
    (sym c.index-in-loop-n.ensures) ∙ sym c.touches.ensures
    ∙ c.if-touches.false in
    sought-last _ _ _ _ _ _ _ _ c.loop-n.invariant _ _ _ to c.loop-n-test.true at
    c.if-step-start.true

pub loop-n-preserved : goal.loop-n-preserved
loop-n-preserved c =
    let to = sym c.in_ok-step.was
    ∙ c.point_step.ensures
    ∙ ap (point_step c.args.edges.now c.args.ne c.args.p) c.index.ensures in
    let at = ap (touches (point_tables c.args.points.now c.args.edges.now) c.args.q)
    (sym c.index-in-loop-n.ensures) ∙ sym c.touches.ensures
    ∙ c.if-touches.false in
    sought-more _ _ _ _ _ _ _ _ c.loop-n.invariant _ _ _ to c.loop-n-test.true at
    c.if-step-start.false

pub returns : goal.returns
returns c =
    sought-out _ _ _ _ _ _ _ _ c.loop-n.invariant (omega arith)
