-- `decimal_from` meets its contract. The loop keeps the value of the digits read and the form of those to come; the measure is what is left
-- of the text. A value that is too large stays so.
pub mod Turn
use native.Mathlib.Omega.{arith}
use mathlib.Core.Path.{◌∙◌, sym}
use Prim.Native.Nat.{◌-◌}
use Rattle.text_numbers.proofs.Turns.{digit_some, digit_past}
use Rattle.number_reading.proofs.decimal_from.Answers.Turn.{rest-start, rest-turn, rest-stop, rest-large, rest-inside}
use Rattle.number_reading.proofs.decimal_from.Goals as goal

pub loop-v-init : goal.loop-v-init
loop-v-init c =
    (omega arith, c.requires.0, rest-start _ _ _)

pub returns-in_default : goal.returns-in_default
returns-in_default c =
    rest-stop _ _ _ _ _ c.loop-v.invariant.2 c.byte.ensures (digit_past (sym c.digit_below.ensures ∙ c.in_default.is)) c.loop-v-test.true

pub loop-v-smaller : goal.loop-v-smaller
loop-v-smaller c =
    let d = digit_some (sym c.digit_below.ensures ∙ c.in-Some.is) in
    let h = rest-inside c.args.s.now c.loop-v.i d.0 c.byte.ensures d.1 in
    omega arith

pub loop-v-preserved : goal.loop-v-preserved
loop-v-preserved c =
    let d = digit_some (sym c.digit_below.ensures ∙ c.in-Some.is) in
    let h = rest-inside c.args.s.now c.loop-v.i d.0 c.byte.ensures d.1 in
    (omega arith, omega arith, rest-turn _ _ _ _ _ c.loop-v.invariant.2 c.loop-v.invariant.0 h d.0 c.byte.ensures d.1)

pub returns : goal.returns
returns c =
    rest-large _ _ _ _ _ c.loop-v.invariant.2 c.loop-v-test.false
