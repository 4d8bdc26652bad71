-- The laws of sums over the numbers below a bound, and of how often a number stands in a list. Assumes nothing.
use mathlib.Core.Path.{◌≡◌, refl, sym, ◌∙◌, ap, ap₂, subst}
use mathlib.Core.Bool.{Bool, true, false, ◌&&◌}
use mathlib.Core.List.{List, [], ◌∷◌}
use Prim.Native.Nat.{ℕ, zero, suc, ◌+◌, ◌*◌, ◌≤◌, ◌<◌}
use native.Mathlib.Omega.{arith}
use native.Mathlib.Decide.{dec_le}
use native.Mathlib.Numerals.{add-one}
use lib.Dec.{eqb}
use lib.ListN.{length}
use borrow.Author.Tests.{eq-eqb, ne_eqb}
use Rattle.closed_meshes.specs.Renumbering.{sum_to}
use Rattle.audited_meshes.specs.Folds.{every, one_if, occurrences}

-- a number below suc n is below n or is n
pub below_suc : {A : Type 0} (k n : ℕ) → k < suc n → (k < n → A) → (k ≡ n → A) → A
below_suc {A} k n l f g = go (dec_le (suc k) n)
  where
    go : Dec (k < n) → A
    go (yes lt) = f lt
    go (no ge) = g (omega arith)

pub sum_to-cong : (n : ℕ) (a b : ℕ → ℕ) → ((k : ℕ) → k < n → a k ≡ b k) → sum_to n a ≡ sum_to n b
unfolding sum_to
sum_to-cong zero a b h = refl
sum_to-cong (suc n) a b h = ap₂ (λ (i j : ℕ). i + j) (sum_to-cong n a b (λ k l. h k (omega arith))) (h n (omega arith))

pub sum_to-le : (n : ℕ) (a b : ℕ → ℕ) → ((k : ℕ) → k < n → a k ≤ b k) → sum_to n a ≤ sum_to n b
unfolding sum_to
sum_to-le zero a b h = omega arith
sum_to-le (suc n) a b h = omega (arith, sum_to-le n a b (λ k l. h k (omega arith)), h n (omega arith))

-- sums that agree, of values of which none is above the other, agree everywhere
pub sum_to-tight :
    (n : ℕ) (a b : ℕ → ℕ) → ((k : ℕ) → k < n → a k ≤ b k) → sum_to n a ≡ sum_to n b → (k : ℕ) → k < n → a k ≡ b k
unfolding sum_to
sum_to-tight zero a b h e k l = absurd (omega arith)
sum_to-tight (suc n) a b h e k l =
    let below : sum_to n a ≤ sum_to n b = sum_to-le n a b (λ k l. h k (omega arith)) in
    let top : a n ≤ b n = h n (omega arith) in
    below_suc k n l
    (λ lt. sum_to-tight n a b (λ k l. h k (omega arith)) (omega arith) k lt)
    (λ same. subst (λ k. a k ≡ b k) (sym same) (omega arith))

pub sum_to-add : (n : ℕ) (a b : ℕ → ℕ) → sum_to n (λ k. a k + b k) ≡ sum_to n a + sum_to n b
unfolding sum_to
sum_to-add zero a b = refl
sum_to-add (suc n) a b = omega (arith, sum_to-add n a b)

pub sum_to-zero : (n : ℕ) → sum_to n (λ k. 0) ≡ 0
unfolding sum_to
sum_to-zero zero = refl
sum_to-zero (suc n) = omega (arith, sum_to-zero n)

pub sum_to-const : (n c : ℕ) → sum_to n (λ k. c) ≡ c * n
unfolding sum_to
sum_to-const zero c = omega arith
sum_to-const (suc n) c = omega (arith, sum_to-const n c)

pub sum_to-swap : (n k : ℕ) (v : ℕ → ℕ → ℕ) → sum_to n (λ i. sum_to k (λ j. v i j)) ≡ sum_to k (λ j. sum_to n (λ i. v i j))
unfolding sum_to
sum_to-swap zero k v = sym (sum_to-zero k)
sum_to-swap (suc n) k v =
    ap (λ (t : ℕ). t + sum_to k (λ j. v n j)) (sum_to-swap n k v) ∙ sym (sum_to-add k (λ j. sum_to n (λ i. v i j)) (λ j. v n j))

-- the number i is found once among the numbers below n, if it is one of them
sum_to-above : (n i : ℕ) → n ≤ i → sum_to n (λ k. one_if (eqb i k)) ≡ 0
unfolding sum_to
sum_to-above zero i h = refl
sum_to-above (suc n) i h =
    ap₂ (λ (x y : ℕ). x + y) (sum_to-above n i (omega arith)) (ap one_if (ne_eqb i n (λ e. omega arith)))

pub sum_to-one : (n i : ℕ) → i < n → sum_to n (λ k. one_if (eqb i k)) ≡ 1
unfolding sum_to
sum_to-one zero i h = absurd (omega arith)
sum_to-one (suc n) i h =
    below_suc i n h
    (λ lt. ap₂ (λ (x y : ℕ). x + y) (sum_to-one n i lt) (ap one_if (ne_eqb i n (λ e. omega arith))))
    (λ same. ap₂ (λ (x y : ℕ). x + y) (sum_to-above n i (omega arith)) (ap one_if (eq-eqb i n same)))

-- the length of a list of numbers below n is the sum of how often each stands in it
pub length-sum_to : (n : ℕ) (ks : List ℕ) → ((i : ℕ) → 0 < occurrences i ks → i < n) → length ks ≡ sum_to n (λ i. occurrences i ks)
unfolding occurrences
length-sum_to n [] h = sym (sum_to-zero n)
length-sum_to n (k ∷ ks) h =
    let here : k < n = h k (subst (λ t. 0 < one_if t + occurrences k ks) (sym (eq-eqb k k refl)) (omega arith)) in
    let rest : length ks ≡ sum_to n (λ i. occurrences i ks) = length-sum_to n ks (λ i l. h i (omega arith)) in
    omega (arith, rest, sum_to-one n k here, sum_to-add n (λ i. one_if (eqb k i)) (λ i. occurrences i ks))

-- ---- a test of the numbers below a bound: of none, of one more, of one that fails, of all

pub and-false : (a : Bool) → (a && false) ≡ false
and-false true = refl
and-false false = refl

pub every-none : (test : ℕ → Bool) → every 0 test ≡ true
unfolding every
every-none test = refl

pub every_more : (i : ℕ) (test : ℕ → Bool) → every i test ≡ true → test i ≡ true → every (i + 1) test ≡ true
unfolding every
every_more i test h t = rw add-one (rw (h, t))

pub every-stop : (n i : ℕ) (test : ℕ → Bool) → i < n → test i ≡ false → every n test ≡ false
unfolding every
every-stop zero i test l t = absurd (omega arith)
every-stop (suc n) i test l t =
    below_suc i n l
    (λ lt. rw (every-stop n i test lt t))
    (λ same. rw (sym (ap test same) ∙ t) (and-false (every n test)))
