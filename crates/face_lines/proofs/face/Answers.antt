-- `face` meets its contract.
pub mod Parts
use mathlib.Core.Path.{sym, ◌∙◌}
use native.Mathlib.Omega.{arith}
use Rattle.face_lines.proofs.face.Answers.Parts.{no_sides, sides-inside, no_end, whole}
use Rattle.face_lines.proofs.face.Goals as goal

pub returns-in_err-c-clause-run : goal.returns-in_err-c-clause-run
returns-in_err-c-clause-run c =
    c.from_residual.ensures ∙ no_sides _ _ c.sides.ensures.run c.in_err-c.was

pub stands-requires : goal.stands-requires
stands-requires c =
    sides-inside _ _ c.requires.0 c.sides.ensures.run c.in_ok-c.was

pub returns-then-not-stands-clause-run : goal.returns-then-not-stands-clause-run
returns-then-not-stands-clause-run c =
    no_end _ _ c.sides.ensures.run c.in_ok-c.was
    (sym c.stands.ensures ∙ c.if-not-stands.true)

pub overflow_add-result : goal.overflow_add-result
overflow_add-result c =
    let h = sides-inside _ _ c.requires.0 c.sides.ensures.run c.in_ok-c.was in
    omega arith

pub returns : goal.returns
returns c =
    let whole = whole _ _ _ _ _ _ _ _ c.sides.ensures.run c.in_ok-c.was
    (sym c.stands.ensures ∙ c.if-not-stands.false) c.sides.ensures.lengths c.sides.ensures.firsts
    c.sides.ensures.points c.sides.ensures.intervals in record { run = whole.0; lengths = whole.1.0; firsts = whole.1.1.0; points = whole.1.1.1.0; intervals = whole.1.1.1.1 }
