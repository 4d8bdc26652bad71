-- `point` meets its contract.
pub mod Parts
use mathlib.Core.Path.{sym, ◌∙◌}
use native.Mathlib.Omega.{arith}
use Rattle.point_lines.proofs.point.Answers.Parts.{no-coordinates, coordinates-inside, no_end, whole}
use Rattle.point_lines.proofs.point.Goals as goal

pub returns-in_err-i-clause-place : goal.returns-in_err-i-clause-place
returns-in_err-i-clause-place c =
    c.from_residual.ensures ∙ no-coordinates _ _ c.coordinates.ensures.place c.in_err-i.was

pub stands-requires : goal.stands-requires
stands-requires c =
    coordinates-inside _ _ c.requires.0 c.coordinates.ensures.place c.in_ok-i.was

pub returns-then-not-stands-clause-place : goal.returns-then-not-stands-clause-place
returns-then-not-stands-clause-place c =
    no_end _ _ c.coordinates.ensures.place c.in_ok-i.was (sym c.stands.ensures ∙ c.if-not-stands.true)

pub overflow_add-result : goal.overflow_add-result
overflow_add-result c =
    let h = coordinates-inside _ _ c.requires.0 c.coordinates.ensures.place c.in_ok-i.was in
    omega arith

pub returns : goal.returns
returns c =
    let whole = whole _ _ _ _ c.coordinates.ensures.place c.in_ok-i.was c.coordinates.ensures.list
    (sym c.stands.ensures ∙ c.if-not-stands.false) in record { place = whole.0; list = whole.1 }
