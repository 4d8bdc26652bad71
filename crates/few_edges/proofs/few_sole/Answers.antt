-- few_sole meets its contract. The invariant: the other ends of the edges passed stand in ends, and differ.
use mathlib.Core.Bool.{false≢true}
use mathlib.Core.Path.{refl, sym, ◌∙◌, ap}
use native.Mathlib.Omega.{arith}
use borrow.Author.Tests.{eqb-true, eq-eqb}
use Rattle.tables.specs.Parts.{point_tables}
use Rattle.walks.specs.Steps.{point_step}
use Rattle.few_edges.proofs.Comparing.{comparing-start, comparing-next, comparing-stop, comparing-home, comparing-open}
use Rattle.few_edges.proofs.Steps.{step-made}
use Rattle.few_edges.proofs.few_sole.Goals as goal

pub loop-n-init : goal.loop-n-init
loop-n-init c =
    comparing-start (point_tables c.args.points.now c.args.edges.now) c.args.ne c.args.p _ _ _ c.index-k.ensures
    refl (omega (arith, c.index-k.ensures, c.requires.p_in_bounds))

pub returns-then-not-is_new_among : goal.returns-then-not-is_new_among
returns-then-not-is_new_among c =
    let made = step-made c.args.edges.now c.args.ne c.args.p _ _ _
    (sym c.in-Some.is
    ∙ c.point_step.ensures
    ∙ ap (point_step c.args.edges.now c.args.ne c.args.p)
    c.index.ensures) in let found = sym c.is_new_among.ensures ∙ c.if-not-is_new_among.true in record {
      round_apart = λ e. absurd (false≢true e);
      value = λ good. absurd (comparing-stop (point_tables c.args.points.now c.args.edges.now) c.args.ne c.args.p _ _ _ _
          c.loop-n.invariant c.requires.ends.differ c.loop-n-test.true _ made.1 found good.0 good.1);
    }

pub loop-n-preserved : goal.loop-n-preserved
loop-n-preserved c =
    let made = step-made c.args.edges.now c.args.ne c.args.p _ _ _
    (sym c.in-Some.is
    ∙ c.point_step.ensures
    ∙ ap (point_step c.args.edges.now c.args.ne c.args.p)
    c.index.ensures) in
    let fresh = sym c.is_new_among.ensures ∙ c.if-not-is_new_among.false in
    comparing-next (point_tables c.args.points.now c.args.edges.now) c.args.ne c.args.p _ _ _ _ c.loop-n.invariant
    c.loop-n-test.true made.0 _ _ made.1 made.2 fresh

pub returns : goal.returns
returns c =
    let m = point_tables c.args.points.now c.args.edges.now in
    record {
      round_apart = λ e. comparing-home m c.args.ne c.args.p _ _ _ _ c.loop-n.invariant (omega arith)
          (eqb-true _ _ e);
      value = λ good. eq-eqb _ _ (comparing-open m c.args.ne c.args.p _ _ _ _ c.loop-n.invariant (omega arith) good.0);
    }
