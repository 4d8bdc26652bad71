-- `listed` meets its contract: each return answers for the parts that were read before it.
pub mod Parts
use mathlib.Core.Path.{sym, ◌∙◌}
use native.Mathlib.Omega.{arith}
use Rattle.text_numbers.proofs.Laws.{decimal-below}
use Rattle.text_numbers.proofs.Turns.{number_is, number-none}
use Rattle.face_sides.proofs.listed.Answers.Parts.{no-decimal, no-space, no_bits, no_end, whole, decimal-inside, space-inside, bits_inside}
use Rattle.face_sides.proofs.listed.Goals as goal

pub returns-in_err-p : goal.returns-in_err-p
returns-in_err-p c =
    c.from_residual.ensures ∙ no-decimal _ _ (number-none _ (sym c.decimal.ensures ∙ c.in_err-p.was))

pub stands-requires : goal.stands-requires
stands-requires c =
    decimal-inside _ _ c.requires
    (number_is _ (sym c.decimal.ensures ∙ c.in_ok-p.was))

pub returns-then-not-stands : goal.returns-then-not-stands
returns-then-not-stands c =
    no-space _ _ (number_is _ (sym c.decimal.ensures
    ∙ c.in_ok-p.was)) (sym c.stands.ensures ∙ c.if-not-stands.true)

pub overflow_add-i : goal.overflow_add-i
overflow_add-i c =
    let h = decimal-inside _ _ (c.requires) (number_is _
    (sym c.decimal.ensures
    ∙ c.in_ok-p.was)) in
    omega arith

pub bits-requires : goal.bits-requires
bits-requires c =
    space-inside _ _ (c.requires) (number_is _ (sym c.decimal.ensures
    ∙ c.in_ok-p.was)) (sym c.stands.ensures ∙ c.if-not-stands.false)

pub returns-in_err-d : goal.returns-in_err-d
returns-in_err-d c =
    c.from_residual-in_err-d.ensures ∙ no_bits _ _
    (number_is _ (sym c.decimal.ensures ∙ c.in_ok-p.was))
    (sym c.stands.ensures ∙ c.if-not-stands.false)
    (number-none _ (sym c.bits.ensures ∙ c.in_err-d.was))

pub stands-requires-2 : goal.stands-requires-2
stands-requires-2 c =
    bits_inside _ _ (c.requires) (number_is _ (sym c.decimal.ensures ∙ c.in_ok-p.was))
    (sym c.stands.ensures
    ∙ c.if-not-stands.false)
    (number_is _ (sym c.bits.ensures ∙ c.in_ok-d.was))

pub returns-then-not-stands-2 : goal.returns-then-not-stands-2
returns-then-not-stands-2 c =
    no_end _ _ (number_is _ (sym c.decimal.ensures ∙ c.in_ok-p.was))
    (sym c.stands.ensures ∙ c.if-not-stands.false)
    (number_is _ (sym c.bits.ensures
    ∙ c.in_ok-d.was)) (sym c.stands-2.ensures ∙ c.if-not-stands-2.true)

pub overflow_cast-result : goal.overflow_cast-result
overflow_cast-result c =
    record { fits = decimal-below _ _ _ _ (number_is _ (sym c.decimal.ensures ∙ c.in_ok-p.was)) }

pub overflow_add-result : goal.overflow_add-result
overflow_add-result c =
    let h = bits_inside _ _ (c.requires) (number_is _ (sym c.decimal.ensures ∙ c.in_ok-p.was))
    (sym c.stands.ensures ∙ c.if-not-stands.false)
    (number_is _ (sym c.bits.ensures
    ∙ c.in_ok-d.was)) in
    omega arith

pub returns : goal.returns
returns c =
    whole _ _ (number_is _ (sym c.decimal.ensures ∙ c.in_ok-p.was))
    (sym c.stands.ensures ∙ c.if-not-stands.false)
    (number_is _ (sym c.bits.ensures
    ∙ c.in_ok-d.was)) (sym c.stands-2.ensures ∙ c.if-not-stands-2.false)
