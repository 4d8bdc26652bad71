-- `bits` meets its contract. The loop keeps the value of the digits read and the form of those to come.
pub mod Turn
use native.Mathlib.Omega.{arith}
use mathlib.Core.Path.{◌∙◌, sym}
use Rattle.text_numbers.proofs.Turns.{digit_some, digit_past}
use Rattle.number_reading.proofs.bits.Answers.Turn.{bits-start, bits-turn, bits_none, bits-end, bits_inside, next_fits, next-below}
use Rattle.number_reading.proofs.bits.Goals as goal

pub loop-k-init : goal.loop-k-init
loop-k-init c =
    (omega arith, omega arith, bits-start _ c.args.at)

pub overflow_mul-v : goal.overflow_mul-v
overflow_mul-v c =
    let v16 = next_fits c.loop-k.v c.loop-k.k 0 c.loop-k-test.true c.loop-k.invariant.1
    (omega arith) in
    omega arith

pub returns-in_err-v : goal.returns-in_err-v
returns-in_err-v c =
    let past = digit_past (sym c.digit_below.ensures ∙ c.in_err-v.was) in
    c.from_residual.ensures ∙ bits_none _ _ _ _ c.loop-k.invariant.2 c.loop-k-test.true c.byte.ensures past

pub overflow_add-v : goal.overflow_add-v
overflow_add-v c =
    let d = digit_some (sym c.digit_below.ensures ∙ c.in_ok-v.was) in
    record {
      fits = next_fits _ _ _ c.loop-k-test.true
          c.loop-k.invariant.1 d.1;
    }

pub loop-k-preserved : goal.loop-k-preserved
loop-k-preserved c =
    let d = digit_some (sym c.digit_below.ensures ∙ c.in_ok-v.was) in
    let h = bits_inside c.args.s.now _ d.0 c.byte.ensures d.1 in (
      omega arith,
      next-below _ _ _ c.loop-k.invariant.1 d.1,
      bits-turn _ _ _ _ c.loop-k.invariant.2 c.loop-k-test.true d.0 c.byte.ensures d.1,
    )

pub returns : goal.returns
returns c =
    bits-end _ _ _ c.loop-k.k c.loop-k.invariant.2 (omega arith)
