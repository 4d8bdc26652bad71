-- What a passed test says: the laws of the tests of which the audit is made. Assumes nothing.
use mathlib.Core.Path.{◌≡◌, refl, sym, subst}
use mathlib.Core.Bool.{Bool, true, false, not, ◌&&◌, ◌||◌, false≢true}
use mathlib.Core.Logic.{◌↔◌, ◌⊎◌, inl, inr, ⊎_elim}
use Prim.Native.Nat.{ℕ, zero, suc, ◌≤◌, ◌<◌}
use native.Mathlib.Omega.{arith}
use lib.Dec.{eqb, ltb, leb}
use borrow.Author.Tests.{ltb-true, lt-ltb, leb-true, le-leb, eqb-true, eq-eqb}
use Rattle.audited_meshes.specs.Folds.{every}
use Rattle.audited_meshes.proofs.Folds.{below_suc}

-- the test b passes exactly if A holds
abbrev pub Is : Bool → Type 0 → Type 0
Is b A = (b ≡ true) ↔ A

pub and_is : {a b : Bool} {A B : Type 0} → Is a A → Is b B → Is (a && b) (A × B)
and_is {a} {b} {A} {B} = go a
  where
    go : (a : Bool) → Is a A → Is b B → Is (a && b) (A × B)
    go true h k = (λ e. (h.0 refl, k.0 e), λ ab. k.1 ab.1)
    go false h k = (λ e. absurd (false≢true e), λ ab. h.1 ab.0)

pub or_is : {a b : Bool} {A B : Type 0} → Is a A → Is b B → Is (a || b) (A ⊎ B)
or_is {a} {b} {A} {B} = go a
  where
    go : (a : Bool) → Is a A → Is b B → Is (a || b) (A ⊎ B)
    go true h k = (λ e. inl (h.0 refl), λ ab. refl)
    go false h k = (λ e. inr (k.0 e), λ ab. ⊎_elim (λ x. absurd (false≢true (h.1 x))) k.1 ab)

pub not_is : {a : Bool} {A : Type 0} → Is a A → Is (not a) (¬ A)
not_is {a} {A} = go a
  where
    go : (a : Bool) → Is a A → Is (not a) (¬ A)
    go true h = (λ e. absurd (false≢true e), λ k. absurd (k (h.0 refl)))
    go false h = (λ e x. false≢true (h.1 x), λ k. refl)

-- if A then B
pub if-is : {a b : Bool} {A B : Type 0} → Is a A → Is b B → Is (not a || b) (A → B)
if-is {a} {b} {A} {B} = go a
  where
    go : (a : Bool) → Is a A → Is b B → Is (not a || b) (A → B)
    go true h k = (λ e x. k.0 e, λ f. k.1 (f (h.0 refl)))
    go false h k = (λ e x. absurd (false≢true (h.1 x)), λ f. refl)

pub eqb_is : (a b : ℕ) → Is (eqb a b) (a ≡ b)
eqb_is a b = (eqb-true a b, eq-eqb a b)

pub ltb-is : (a b : ℕ) → Is (ltb a b) (a < b)
ltb-is a b = (ltb-true a b, lt-ltb a b)

pub leb-is : (a b : ℕ) → Is (leb a b) (a ≤ b)
leb-is a b = (leb-true a b, le-leb a b)

-- a test as it stands
pub self-is : (b : Bool) → Is b (b ≡ true)
self-is b = (λ e. e, λ e. e)

-- a test of each number below n
pub every-is : (n : ℕ) {test : ℕ → Bool} {A : ℕ → Type 0} → ((k : ℕ) → Is (test k) (A k)) → Is (every n test) ((k : ℕ) → k < n → A k)
unfolding every
every-is zero h = (λ e k l. absurd (omega arith), λ f. refl)
every-is (suc n) {test} {A} h = go (and_is (every-is n h) (h n))
  where
    go : Is (every n test && test n) (((k : ℕ) → k < n → A k) × A n) → Is (every n test && test n) ((k : ℕ) → k < suc n → A k)
    go both = (
      λ e k l. below_suc k n l ((both.0 e).0 k) (λ same. subst A (sym same) (both.0 e).1),
      λ f. both.1 (λ k l. f k (omega arith), f n (omega arith)),
    )

-- two tests that say the same are the same
pub same_test : {a b : Bool} {A : Type 0} → Is a A → Is b A → a ≡ b
same_test {a} {b} {A} = go a b
  where
    go : (a b : Bool) → Is a A → Is b A → a ≡ b
    go true true h k = refl
    go true false h k = sym (k.1 (h.0 refl))
    go false true h k = h.1 (k.0 refl)
    go false false h k = refl
