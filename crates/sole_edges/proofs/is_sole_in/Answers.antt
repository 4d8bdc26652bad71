-- is_sole_in meets its contract. The invariant: the edges passed are noted at their other ends, and the walk is not at its start again.
use mathlib.Core.Bool.{false≢true}
use mathlib.Core.Logic.{◌≢◌}
use mathlib.Core.Path.{refl, sym, ◌∙◌, ap}
use native.Mathlib.Omega.{arith}
use borrow.Author.Tests.{eqb-true, eq-eqb}
use Rattle.tables.specs.Parts.{point_tables}
use Rattle.walks.specs.Steps.{point_step}
use Rattle.sole_edges.proofs.Walking.{walking_start, walking-lost, walking-next, walking-stop, walking-home, walking-early, walking-late}
use Rattle.few_edges.proofs.Steps.{step-made, step-lost}
use Rattle.sole_edges.proofs.is_sole_in.Goals as goal

pub loop-n-init : goal.loop-n-init
loop-n-init c = (
  walking_start (point_tables c.args.points.now c.args.edges.now) c.args.ne c.args.p c.args.base _ _ _
      c.index-k.ensures refl c.requires.ends_window_in_bounds,
  λ l. absurd (omega arith),
)

pub returns-in_default : goal.returns-in_default
returns-in_default c =
    let lost = sym c.in_default.is ∙ c.point_step.ensures
    ∙ ap (point_step c.args.edges.now c.args.ne c.args.p) c.index.ensures in record {
      round_in = λ e. absurd (false≢true e);
      value = λ good. absurd (walking-lost (point_tables c.args.points.now c.args.edges.now) c.args.ne c.args.p c.args.base _ _ _ _
          c.loop-n.invariant.0 c.loop-n-test.true
          (step-lost c.args.edges.now c.args.ne c.args.p _ lost) good.0);
    }

pub returns-then-not-note : goal.returns-then-not-note
returns-then-not-note c =
    let made = step-made c.args.edges.now c.args.ne c.args.p _ _ _
    (sym c.in-Some.is ∙ c.point_step.ensures
    ∙ ap (point_step c.args.edges.now c.args.ne c.args.p) c.index.ensures) in let found = sym c.note.ensures.value ∙ c.if-not-note.true in record {
      round_in = λ e. absurd (false≢true e);
      value = λ good. absurd (walking-stop (point_tables c.args.points.now c.args.edges.now) c.args.ne c.args.p c.args.base _ _ _ _
          c.loop-n.invariant.0 c.requires.ends.differ made.0 _ (c.index-in-loop-n.ensures ∙ made.1)
          found good.1);
    }

pub returns-then-step-start : goal.returns-then-step-start
returns-then-step-start c =
    let m = point_tables c.args.points.now c.args.edges.now in
    let made = step-made c.args.edges.now c.args.ne c.args.p _ _ _
    (sym c.in-Some.is ∙ c.point_step.ensures ∙ ap (point_step c.args.edges.now c.args.ne c.args.p) c.index.ensures) in
    let fresh = sym c.note.ensures.value ∙ c.if-not-note.false in
    let then = walking-next m c.args.ne c.args.p c.args.base _ _ _ _ c.loop-n.invariant.0 c.loop-n-test.true
    c.loop-n.invariant.1 made.0 _ _ _ (c.index-in-loop-n.ensures ∙ made.1) made.2 fresh c.note.ensures.seen_after in
    record {
      round_in = λ e. walking-home m c.args.ne c.args.p c.args.base _ _ _ _ then (eqb-true _ _ e)
          c.if-step-start.true;
      value = λ good. eq-eqb _ _
          (walking-early m c.args.ne c.args.p c.args.base _ _ _ _ then (omega arith) c.if-step-start.true good.0);
    }

pub loop-n-preserved : goal.loop-n-preserved
loop-n-preserved c =
    let m = point_tables c.args.points.now c.args.edges.now in
    let made = step-made c.args.edges.now c.args.ne c.args.p _ _ _
    (sym c.in-Some.is ∙ c.point_step.ensures
    ∙ ap (point_step c.args.edges.now c.args.ne c.args.p) c.index.ensures) in
    let fresh = sym c.note.ensures.value ∙ c.if-not-note.false in (
      walking-next m c.args.ne c.args.p c.args.base _ _ _ _ c.loop-n.invariant.0 c.loop-n-test.true c.loop-n.invariant.1 made.0 _ _ _
          (c.index-in-loop-n.ensures ∙ made.1) made.2 fresh c.note.ensures.seen_after,
      λ l. c.if-step-start.false,
    )

pub returns : goal.returns
returns c =
    let m = point_tables c.args.points.now c.args.edges.now in record {
      round_in = λ e. absurd (false≢true e);
      value = λ good. absurd (c.loop-n.invariant.1 (omega (arith, c.requires.p_nonzero, c.loop-n.invariant.0.many))
          (walking-late m c.args.ne c.args.p c.args.base _ _ _ _ c.loop-n.invariant.0 (omega arith) good.0));
    }
