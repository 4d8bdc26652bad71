-- Turns of a loop, and lists that a loop fills.
--     turns n turn s      s after turn 0, turn 1, .., turn (n - 1), each made of what the one before left
--     filled n g xs       xs with g 0, g 1, .., g (n - 1) as its first n elements
use Rattle.std.specs.Prelude.{List, ℕ, zero, suc, set}

unfoldable pub turns : {A : Type 0} → ℕ → (ℕ → A → A) → A → A
turns zero turn s = s
turns (suc n) turn s = turn n (turns n turn s)

unfoldable pub filled : {A : Type 0} → ℕ → (ℕ → A) → List A → List A
filled n g xs = turns n (λ i ys. set ys i (g i)) xs
