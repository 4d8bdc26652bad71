-- A rule of a table, shown at all of its entries by one test that the checker computes. Assumes nothing.
use mathlib.Core.Path.{◌≡◌, refl}
use mathlib.Core.Bool.{Bool, true, false, cond}
use mathlib.Core.List.{List, [], ◌∷◌}
use Prim.Native.Nat.{ℕ, zero, suc, ◌+◌, ◌<◌}
use native.Mathlib.Nat.{add-zero, zero-add, add-suc, suc-add, le_of_suc-le-suc, not-suc-le-zero}
use lib.Dec.{eqb}
use borrow.Author.Tests.{eqb-true}
use lib.ListN.{length, get_or}

-- each entry of the list, at its place counted from i, is what the rule says
abbrev pub every : (ℕ → ℕ) → ℕ → List ℕ → Bool
every rule i [] = true
every rule i (x ∷ xs) = cond (eqb x (rule i)) (every rule (suc i) xs) false

first : (a b : Bool) → cond a b false ≡ true → a ≡ true
first true b t = refl
first false b t = t

rest : (a b : Bool) → cond a b false ≡ true → b ≡ true
rest true b t = t
rest false b t = cc

from : (rule : ℕ → ℕ) (xs : List ℕ) (i : ℕ) → every rule i xs ≡ true → (k : ℕ) → k < length xs → get_or xs k 0 ≡ rule (i + k)
from rule [] i t k h = absurd (not-suc-le-zero h)
from rule (x ∷ xs) i t zero h = rw (add-zero i) (eqb-true _ _ (first (eqb x (rule i)) (every rule (suc i) xs) t))
from rule (x ∷ xs) i t (suc k) h =
    rw (add-suc i k, ← (suc-add i k)) (from rule xs (suc i) (rest (eqb x (rule i)) (every rule (suc i) xs) t) k (le_of_suc-le-suc h))

pub at : (rule : ℕ → ℕ) (xs : List ℕ) → every rule 0 xs ≡ true → (k : ℕ) → k < length xs → get_or xs k 0 ≡ rule k
at rule xs t k h = rw zero-add at (from rule xs 0 t k h)
