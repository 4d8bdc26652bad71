-- `float` meets its contract: above the pattern of infinity, the sign left out, stand the patterns of NaNs.
pub mod Pattern
use mathlib.Core.Path.{sym, ◌∙◌}
use Rattle.number_reading.proofs.float.Answers.Pattern.{nan-above, no-nan-below, zero_by_zero}
use Rattle.number_reading.proofs.float.Goals as goal

pub returns-then-b-gt9218868437227405312 : goal.returns-then-b-gt9218868437227405312
returns-then-b-gt9218868437227405312 c =
    zero_by_zero ∙ sym (nan-above _ c.if-b-gt9218868437227405312.true)

pub float_from_bits-result : goal.float_from_bits-result
float_from_bits-result c =
    no-nan-below _ c.if-b-gt9218868437227405312.false
