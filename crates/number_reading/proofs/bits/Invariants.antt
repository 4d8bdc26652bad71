-- `bits` meets its contract. The loop keeps the value of the digits read and the form of those to come.
use mathlib.Core.Path.{◌≡◌}
use Prim.Native.Nat.{◌+◌, ◌≤◌, ◌<◌, ◌-◌, ◌^◌}
use lib.ListN.{length}
use Rattle.text_numbers.specs.Form.{times}
use Rattle.text_numbers.specs.Numbers.{bits, digit}
use Rattle.text_numbers.specs.Answers.{number}
use Rattle.number_reading.proofs.bits.Answers.Turn.{number_of}
use Rattle.number_reading.proofs.bits.Given as goal

abbrev pub invariant-loop-k : goal.invariant-loop-k
invariant-loop-k l =
    (l.at + l.k ≤ length l.s) × (l.v < 16 ^ l.k) × (number_of l.v (times (16 - l.k) (digit l.s 16) (l.at + l.k)) ≡ number (bits l.s l.at))
