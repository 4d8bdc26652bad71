-- The numbers of a text s.
--     digit_value b         the value of a lower-case hexadecimal digit, 16 for any other byte
--     value base v ds      the number that digits stand for, after those of value v
--     digit s base         a digit below the base
--     bits s               16 hexadecimal digits, first digit first: the bits of a binary64
--     decimal s            a decimal number below 4,294,967,296 with no leading zero
--     float b              the binary64 of a bit pattern
use Rattle.std.specs.Prelude.{List, [], ◌∷◌, cond, ℕ, zero, suc, ◌+◌, ◌-◌, ◌*◌, get_or, length, eqb, ltb, Float}
use Rattle.std.specs.Float.{binary64}
use Rattle.std.specs.Float.Ieee.{of_bits}
use Rattle.text_numbers.specs.Form.{parsed, unparsed, Form, ◌>>=◌, pure, choose, times}

-- 0 to 9 and a to f
unfoldable pub digit_value : ℕ → ℕ
digit_value b = cond (ltb b 48) 16 (cond (ltb b 58) (b - 48) (cond (ltb b 97) 16 (cond (ltb b 103) (b - 87) 16)))

-- the number that digits stand for, after those of value v
unfoldable pub value : ℕ → ℕ → List ℕ → ℕ
value base v [] = v
value base v (d ∷ ds) = value base (v * base + d) ds

module _ (s : List ℕ) where
  unfoldable pub digit : ℕ → Form ℕ
  digit base at = choose (ltb (digit_value (get_or s at 0)) base) (λ n. parsed (digit_value (get_or s n 0)) (n + 1)) (λ n. unparsed) at

  unfoldable pub bits : Form ℕ
  bits = do
    ds ← times 16 (digit 16)
    pure (value 16 0 ds)

  -- the digits that stand from a place on, at most k of them, after a number v
  unfoldable pub digits_from : ℕ → ℕ → Form ℕ
  digits_from zero v = pure v
  digits_from (suc k) v = λ at. choose (ltb (digit_value (get_or s at 0)) 10) (digit 10 >>= λ d. digits_from k (v * 10 + d)) (pure v) at

  -- after the first digit
  unfoldable pub decimal_from : ℕ → Form ℕ
  decimal_from d = do
    v ← digits_from (length s) d
    choose (ltb v 4294967296) (pure v) (λ at. unparsed)

  -- `0`, or a digit from 1 to 9 and any digits after it
  unfoldable pub decimal : Form ℕ
  decimal = do
    d ← digit 10
    choose (eqb d 0) (pure 0) (decimal_from d)

abbrev pub float : ℕ → Float
float b = of_bits binary64 b
