-- `coordinates` meets its contract. The invariant is `Coordinates`.
pub mod Turn
use native.Mathlib.Omega.{arith}
use mathlib.Core.Path.{sym, ◌∙◌}
use Rattle.text_numbers.proofs.Turns.{number_is, number-none}
use Rattle.point_lines.proofs.coordinates.Answers.Turn.{start, turn, stop, end}
use Rattle.point_lines.proofs.coordinates.Goals as goal

pub loop-k-init : goal.loop-k-init
loop-k-init c =
    start _ _ _ _ _ c.requires.0

pub coordinate-requires : goal.coordinate-requires
coordinate-requires c =
    c.loop-k.invariant.inside

pub returns-in_err-b-clause-place : goal.returns-in_err-b-clause-place
returns-in_err-b-clause-place c =
    c.from_residual.ensures ∙ stop _ _ _ _ _ _ _ _ c.loop-k.invariant c.loop-k-test.true
    (number-none _ (sym c.coordinate.ensures ∙ c.in_err-b.was))

pub loop-k-preserved : goal.loop-k-preserved
loop-k-preserved c =
    turn _ _ _ _ _ _ _ _ c.loop-k.invariant c.loop-k-test.true c.requires.0
    (number_is _ (sym c.coordinate.ensures ∙ c.in_ok-b.was))
    c.float.ensures c.put.ensures

pub returns : goal.returns
returns c =
    let whole = end _ _ _ _ _ _ _ _ c.loop-k.invariant (omega arith) in record { place = whole.0; list = whole.1 }
