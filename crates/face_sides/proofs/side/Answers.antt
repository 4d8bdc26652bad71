-- `side` meets its contract: each return answers for the parts that were read before it.
pub mod Parts
use mathlib.Core.Path.{sym, ◌∙◌, refl}
use native.Mathlib.Omega.{arith}
use Rattle.text_numbers.specs.Form.{bytes}
use Rattle.text_numbers.proofs.Laws.{decimal-below, stands-inside}
use Rattle.text_numbers.proofs.Turns.{number_is, number-none}
use Rattle.face_sides.proofs.side.Answers.Parts.{no_start, no-first, no-points, no_end, whole, first-inside, points-inside}
use Rattle.face_sides.proofs.side.Goals as goal

pub returns-then-not-stands-clause-side : goal.returns-then-not-stands-clause-side
returns-then-not-stands-clause-side c =
    no_start _ _ (sym c.stands.ensures ∙ c.if-not-stands.true)

pub decimal-requires : goal.decimal-requires
decimal-requires c =
    stands-inside c.args.s.now (bytes " [") c.args.at refl
    c.requires.0
    (sym c.stands.ensures ∙ c.if-not-stands.false)

pub returns-in_err-p-clause-side : goal.returns-in_err-p-clause-side
returns-in_err-p-clause-side c =
    c.from_residual.ensures ∙ no-first _ _
    (sym c.stands.ensures ∙ c.if-not-stands.false)
    (number-none _ (sym c.decimal.ensures ∙ c.in_err-p.was))

pub listed_points-requires : goal.listed_points-requires
listed_points-requires c =
    let h = first-inside _ _ c.requires.0 (sym c.stands.ensures
    ∙ c.if-not-stands.false)
    (number_is _
    (sym c.decimal.ensures ∙ c.in_ok-p.was)) in
    omega arith

pub returns-in_err-k-clause-side : goal.returns-in_err-k-clause-side
returns-in_err-k-clause-side c =
    c.from_residual-in_err-k.ensures ∙ no-points _ _ (sym c.stands.ensures ∙ c.if-not-stands.false)
    (number_is _ (sym c.decimal.ensures ∙ c.in_ok-p.was))
    c.listed_points.ensures.run c.in_err-k.was

pub stands-requires-2 : goal.stands-requires-2
stands-requires-2 c =
    points-inside _ _ c.requires.0 (sym c.stands.ensures ∙ c.if-not-stands.false)
    (number_is _ (sym c.decimal.ensures ∙ c.in_ok-p.was)) c.listed_points.ensures.run
    c.in_ok-k.was

pub returns-then-not-stands-2-clause-side : goal.returns-then-not-stands-2-clause-side
returns-then-not-stands-2-clause-side c =
    no_end _ _ (sym c.stands.ensures ∙ c.if-not-stands.false)
    (number_is _ (sym c.decimal.ensures ∙ c.in_ok-p.was)) c.listed_points.ensures.run
    c.in_ok-k.was (sym c.stands-2.ensures ∙ c.if-not-stands-2.true)

pub overflow_cast-result : goal.overflow_cast-result
overflow_cast-result c =
    record { fits = decimal-below _ _ _ _ (number_is _ (sym c.decimal.ensures ∙ c.in_ok-p.was)) }

pub overflow_add-result : goal.overflow_add-result
overflow_add-result c =
    let h = points-inside _ _ c.requires.0
    (sym c.stands.ensures ∙ c.if-not-stands.false)
    (number_is _ (sym c.decimal.ensures ∙ c.in_ok-p.was)) c.listed_points.ensures.run
    c.in_ok-k.was in
    omega arith

pub returns : goal.returns
returns c =
    let whole = whole _ _ _ _ _ (sym c.stands.ensures ∙ c.if-not-stands.false)
    (number_is _ (sym c.decimal.ensures ∙ c.in_ok-p.was)) c.listed_points.ensures.run
    c.in_ok-k.was c.listed_points.ensures.points c.listed_points.ensures.intervals
    (sym c.stands-2.ensures ∙ c.if-not-stands-2.false) in record { side = whole.0; points = whole.1.0; intervals = whole.1.1 }
