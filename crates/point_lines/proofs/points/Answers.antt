-- `points` meets its contract. The invariant is `Points`; the measure is what is left of the text.
pub mod Turn
use native.Mathlib.Omega.{arith}
use mathlib.Core.Path.{sym, ◌∙◌}
use Prim.Native.Nat.{◌-◌}
use Rattle.point_lines.proofs.points.Answers.Turn.{start, turn, stop, end, head-inside, line-longer}
use Rattle.point_lines.proofs.points.Goals as goal

pub loop-xs-init : goal.loop-xs-init
loop-xs-init c =
    start _ _ _ c.requires

pub stands-requires : goal.stands-requires
stands-requires c =
    c.loop-xs.invariant.inside

pub point-requires : goal.point-requires
point-requires c =
    let h = head-inside _ _ _ _ _ _ c.loop-xs.invariant
    (sym c.stands.ensures ∙ c.loop-xs-test.true) in
    omega arith

pub returns-in_err-i-clause-run : goal.returns-in_err-i-clause-run
returns-in_err-i-clause-run c =
    c.from_residual.ensures ∙ stop _ _ _ _ _ _ c.loop-xs.invariant (sym c.stands.ensures ∙ c.loop-xs-test.true)
    c.point.ensures.place c.in_err-i.was

pub loop-xs-smaller : goal.loop-xs-smaller
loop-xs-smaller c =
    let h = line-longer _ _ _ _ _ _ c.loop-xs.invariant
    (sym c.stands.ensures ∙ c.loop-xs-test.true)
    c.point.ensures.place c.in_ok-i.was in
    omega arith

pub loop-xs-preserved : goal.loop-xs-preserved
loop-xs-preserved c =
    turn _ _ _ _ _ _ c.loop-xs.invariant
    (sym c.stands.ensures ∙ c.loop-xs-test.true) c.point.ensures.place
    c.in_ok-i.was c.point.ensures.list

pub returns : goal.returns
returns c =
    let whole = end _ _ _ _ _ _ c.loop-xs.invariant (sym c.stands.ensures ∙ c.loop-xs-test.false) in record { run = whole.0; list = whole.1 }
