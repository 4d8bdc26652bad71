-- Rows in a list, for every kind of element and every width.
--     put_row xs b vs     xs with the elements vs stored from the place b on
--     over n new xs      xs with its first n elements taken from new
--     zeroed n z xs      xs with its first n elements made z
use Rattle.std.specs.Prelude.{List, [], ◌∷◌, ◌++◌, ℕ, suc, ◌+◌, set, take, drop, replicate}

-- the elements vs stored at b + k, b + (k + 1), ..
abbrev pub put_from : {A : Type 0} → List A → ℕ → ℕ → List A → List A
put_from xs b k [] = xs
put_from xs b k (v ∷ vs) = put_from (set xs (b + k) v) b (suc k) vs

abbrev pub put_row : {A : Type 0} → List A → ℕ → List A → List A
put_row xs b [] = xs
put_row xs b (v ∷ vs) = put_from (set xs b v) b 1 vs

unfoldable pub over : {A : Type 0} → ℕ → List A → List A → List A
over n new xs = take n new ++ drop n xs

unfoldable pub zeroed : {A : Type 0} → ℕ → A → List A → List A
zeroed n z xs = replicate n z ++ drop n xs
