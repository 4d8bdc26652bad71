-- The laws of loops that test or add up rows, for every test and every row. Assumes nothing.
--     every-all                              all rows pass
--     sum_to-none, sum_to-more, sum_to-stop     no row is added yet, one row more, the sum is past the total; sum_to-all: it is whole
use mathlib.Core.Path.{◌≡◌, refl, sym, ◌∙◌, ap, ap₂}
use mathlib.Core.Bool.{Bool, true, false, ◌&&◌}
use Prim.Native.Nat.{ℕ, zero, suc, ◌+◌, ◌<◌, ◌≤◌}
use native.Mathlib.Nat.{le_of_eq}
use native.Mathlib.Decide.{dec_le}
use native.Mathlib.Numerals.{add-one}
use native.Mathlib.Omega.{arith}
use lib.Dec.{eqb}
use borrow.Author.Tests.{ne_eqb}
use Rattle.closed_meshes.specs.Renumbering.{sum_to}
use Rattle.audited_meshes.specs.Folds.{every}
use Rattle.audited_meshes.proofs.Folds.{and-false}

pub and_assoc : (a b c : Bool) → (a && b && c) ≡ (a && (b && c))
and_assoc true b c = refl
and_assoc false b c = refl

pub sum_to-none : (g : ℕ → ℕ) → sum_to 0 g ≡ 0
unfolding sum_to
sum_to-none g = refl

sum_to-longer : (n i : ℕ) (g : ℕ → ℕ) → i ≤ n → sum_to i g ≤ sum_to n g
unfolding sum_to
sum_to-longer zero i g l = le_of_eq (ap (λ (j : ℕ). sum_to j g) {x = i} {y = 0} (omega arith))
sum_to-longer (suc n) i g l = go (sum_to-longer n i g) (dec_le i n)
  where
    go : (i ≤ n → sum_to i g ≤ sum_to n g) → Dec (i ≤ n) → sum_to i g ≤ sum_to (suc n) g
    go below (yes h) = omega (arith, below h)
    go below (no h) = le_of_eq (ap (λ (j : ℕ). sum_to j g) {x = i} {y = suc n} (omega arith))

pub every-all : (n i : ℕ) (test : ℕ → Bool) → every i test ≡ true → n ≡ i → every n test ≡ true
every-all n i test h e = ap (λ (k : ℕ). every k test) e ∙ h

module _ (g : ℕ → ℕ) (i s : ℕ) (h : s ≡ sum_to i g) where
  pub sum_to-more : (v : ℕ) → v ≡ g i → s + v ≡ sum_to (i + 1) g
  unfolding sum_to
  sum_to-more v e = rw add-one (rw (h, e))

  pub sum_to-stop : (n total v : ℕ) → i < n → v ≡ g i → total < s + v → false ≡ eqb (sum_to n g) total
  sum_to-stop n total v l e past =
      let more : s + v ≡ sum_to (i + 1) g = sum_to-more v e in
      let longer : sum_to (i + 1) g ≤ sum_to n g = sum_to-longer n (i + 1) g (omega arith) in
      sym (ne_eqb (sum_to n g) total (λ q. omega arith))

  pub sum_to-all : (n total : ℕ) → n ≡ i → eqb s total ≡ eqb (sum_to n g) total
  sum_to-all n total e = ap (λ (k : ℕ). eqb k total) (h ∙ ap (λ (k : ℕ). sum_to k g) (sym e))

pub every-cong : (n : ℕ) (t u : ℕ → Bool) → ((k : ℕ) → k < n → t k ≡ u k) → every n t ≡ every n u
unfolding every
every-cong zero t u h = refl
every-cong (suc n) t u h = ap₂ (λ (a b : Bool). a && b) (every-cong n t u (λ k l. h k (omega arith))) (h n (omega arith))

pub and-four : (x a b c d : Bool) → (x && a && b && c && d) ≡ (x && (a && b && c && d))
and-four true a b c d = refl
and-four false a b c d = refl

-- ---- tests in turn: one fails, or all but the last pass

module _ (a b c : Bool) where
  pub first-of-three : a ≡ false → false ≡ (a && b && c)
  first-of-three h = sym (rw h)

  pub second-of-three : b ≡ false → false ≡ (a && b && c)
  second-of-three h = sym (rw (h, and-false a))

  pub third-of-three : a ≡ true → b ≡ true → c ≡ (a && b && c)
  third-of-three h k = sym (rw (h, k))

  module _ (d : Bool) where
    pub first-of-four : a ≡ false → false ≡ (a && b && c && d)
    first-of-four h = sym (rw h)

    pub second-of-four : b ≡ false → false ≡ (a && b && c && d)
    second-of-four h = sym (rw (h, and-false a))

    pub last-two-of-four : a ≡ true → b ≡ true → (c && d) ≡ (a && b && c && d)
    last-two-of-four h k = sym (rw (h, k))
