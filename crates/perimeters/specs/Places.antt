-- The places of a perimeter of n edges, numbered from 0 and counted round, by the remainder.
--     around n j         the place j, counted round
--     next_place n i      the place after place i
--     prev_place n i      the place before place i
use Rattle.std.specs.Prelude.{ℕ, ◌+◌, ◌-◌, ◌%◌}

abbrev pub around : ℕ → ℕ → ℕ
around n j = j % n

abbrev pub next_place : ℕ → ℕ → ℕ
next_place n i = around n (i + 1)

abbrev pub prev_place : ℕ → ℕ → ℕ
prev_place n i = around n (i + n - 1)
