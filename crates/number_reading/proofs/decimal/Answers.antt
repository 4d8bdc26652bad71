-- `decimal` meets its contract: the first digit says which case of the definition holds.
pub mod First
use mathlib.Core.Path.{◌∙◌, sym}
use Rattle.text_numbers.proofs.Turns.{digit_some, digit_past}
use Rattle.number_reading.proofs.decimal.Answers.First.{first-none, first-zero, first-other, first-inside}
use Rattle.number_reading.proofs.decimal.Goals as goal

pub returns-in_err-first : goal.returns-in_err-first
returns-in_err-first c =
    c.from_residual.ensures ∙ first-none _ _ c.byte.ensures (digit_past (sym c.digit_below.ensures ∙ c.in_err-first.was))

pub returns-then-first-eq0 : goal.returns-then-first-eq0
returns-then-first-eq0 c =
    let d = digit_some (sym c.digit_below.ensures ∙ c.in_ok-first.was) in
    first-zero _ _ d.0 c.byte.ensures c.if-first-eq0.true

pub decimal_from-requires : goal.decimal_from-requires
decimal_from-requires c =
    let d = digit_some (sym c.digit_below.ensures ∙ c.in_ok-first.was) in
    (first-inside c.args.s.now c.args.at d.0 c.byte.ensures d.1, d.1)

pub returns : goal.returns
returns c =
    let d = digit_some (sym c.digit_below.ensures ∙ c.in_ok-first.was) in
    c.decimal_from.ensures ∙ first-other _ _ d.0 c.byte.ensures d.1 c.if-first-eq0.false
