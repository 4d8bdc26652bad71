-- `decimal_from` meets its contract. The loop keeps the value of the digits read and the form of those to come; the measure is what is left
-- of the text. A value that is too large stays so.
use mathlib.Core.Path.{◌≡◌}
use Prim.Native.Nat.{◌≤◌, ◌-◌}
use lib.ListN.{length}
use Rattle.text_numbers.specs.Numbers.{decimal_from}
use Rattle.text_numbers.specs.Answers.{number}
use Rattle.number_reading.proofs.decimal_from.Answers.Turn.{rest}
use Rattle.number_reading.proofs.decimal_from.Given as goal

abbrev pub invariant-loop-v : goal.invariant-loop-v
invariant-loop-v l =
    (l.at ≤ l.i) × (l.i ≤ length l.s) × (number (rest l.s (length l.s - (l.i - l.at)) l.v l.i) ≡ number (decimal_from l.s l.first l.at))

abbrev pub decreases-loop-v : goal.decreases-loop-v
decreases-loop-v l = length l.s - l.i
