-- Lists that still have what they were filled with.
--     filling_word filling_number    what tables are filled with
--     all test l                   each element of l passes the test
--     kept_words l, kept_numbers l   all of l is as filled
use Rattle.std.specs.Prelude.{Bool, true, ◌&&◌, List, [], ◌∷◌, ℕ, eqb, Float}
use Rattle.std.specs.Float.Ieee.{eq, of_bits}
use Rattle.std.specs.Float.{binary64}

abbrev pub filling_word : ℕ
filling_word = 2779096485

-- 1234.5
abbrev pub filling_number : Float
filling_number = of_bits binary64 4653144203864309760

unfoldable pub all : {A : Type 0} → (A → Bool) → List A → Bool
all test [] = true
all test (x ∷ l) = test x && all test l

abbrev pub kept_words : List ℕ → Bool
kept_words l = all (λ w. eqb w filling_word) l

abbrev pub kept_numbers : List Float → Bool
kept_numbers l = all (λ x. eq x filling_number) l
