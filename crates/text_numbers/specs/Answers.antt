-- How the reader of a number answers.
--     number x             the answer to a number that was found, or not: its value and the place after it
--     digit_below base d   the answer to a byte of the value d as a digit: a digit of the base, or not
use Rattle.std.specs.Prelude.{ℕ, cond, ltb, Option, Some, None}
use Rattle.text_numbers.specs.Form.{Parsed, if_parsed}

abbrev pub number : Parsed ℕ → Option (ℕ × ℕ)
number x = if_parsed (λ v n. Some (v, n)) None x

abbrev pub digit_below : ℕ → ℕ → Option ℕ
digit_below base d = cond (ltb d base) (Some d) None
