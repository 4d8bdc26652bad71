-- The words of the two ends of an edge stand beside each other, and so do those of its two sides: which of the two has a row.
--     end_number first n          the number of the end, or of the side, that has the row n: 0 if the first has it, else 1
use Rattle.std.specs.Prelude.{cond, ℕ, eqb}

abbrev pub end_number : ℕ → ℕ → ℕ
end_number first n = cond (eqb first n) 0 1
