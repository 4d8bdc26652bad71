-- Tests over the numbers below a bound, and lists of numbers.
--     every n test             test holds of each number below n
--     one_if test               1 if the test holds, else 0
--     occurrences k ks         how often k stands in ks
--     distinct ks, Distinct ks no number stands twice in ks, as a test and as a proposition
--     again k ps               the numbers ps followed by the first k again: of three, the fourth is the first once more
use Rattle.std.specs.Prelude.{Bool, true, false, not, ◌&&◌, List, [], ◌∷◌, ◌++◌, ◌≢◌, ℕ, zero, suc, ◌+◌, ◌<◌, eqb, length, get_or}

unfoldable pub every : ℕ → (ℕ → Bool) → Bool
every zero test = true
every (suc n) test = every n test && test n

abbrev pub one_if : Bool → ℕ
one_if true = 1
one_if false = 0

unfoldable pub occurrences : ℕ → List ℕ → ℕ
occurrences k [] = 0
occurrences k (i ∷ is) = one_if (eqb i k) + occurrences k is

unfoldable pub distinct : List ℕ → Bool
unfolding every
distinct ks = every (length ks) (λ i. every i (λ j. not (eqb (get_or ks i 0) (get_or ks j 0))))

abbrev pub Distinct : List ℕ → Type 0
Distinct ks = (i j : ℕ) → i < length ks → j < i → get_or ks i 0 ≢ get_or ks j 0

unfoldable pub again : ℕ → List ℕ → List ℕ
again zero ps = ps
again (suc k) ps = again k ps ++ get_or (again k ps) k 0 ∷ []
