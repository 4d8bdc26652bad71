-- An answer as one number.
--     answer_number number a      the number of the refusal, 0 for what is accepted
use Rattle.std.specs.Prelude.{ℕ, Result, Ok, Err}

abbrev pub answer_number : {T E : Type 0} → (E → ℕ) → Result T E → ℕ
answer_number number (Ok x) = 0
answer_number number (Err g) = number g
