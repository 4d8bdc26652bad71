-- The laws of the first number that passes a test. Assumes nothing.
use mathlib.Core.Path.{◌≡◌, refl}
use mathlib.Core.Bool.{Bool, true, false}
use Prim.Native.Nat.{ℕ, zero, suc, ◌+◌, ◌-◌, ◌≤◌, ◌<◌}
use native.Mathlib.Omega.{arith}
use native.Mathlib.Numerals.{add-one}
use native.Mathlib.Decide.{ℕ_discrete}
use Rattle.std.specs.Prelude.{Result, Ok, Err}
use Rattle.crossings.specs.declared.NoCrossing.{NoCrossing}
use Rattle.crossings.specs.declared.NoCrossing.TheVariants.{NotFiniteDepth, NotClosed, Nowhere}
use Rattle.crossings.specs.Crossings.{first_from}

left-suc : (n e : ℕ) → e < n → n - e ≡ suc (n - (e + 1))
left-suc n e l = omega arith

-- one turn of a search that has passed e of n numbers
module _ (test : ℕ → Bool) (n e : ℕ) (l : e < n) where
  pub first-here : test e ≡ true → first_from test (n - e) e ≡ Ok e
  unfolding first_from
  first-here t = rw (left-suc n e l, t)

  pub first-later : test e ≡ false → first_from test (n - e) e ≡ first_from test (n - (e + 1)) (e + 1)
  unfolding first_from
  first-later t = rw (left-suc n e l, t, add-one e)

-- nothing is left of a search that has passed all
pub first-none : (test : ℕ → Bool) (n e : ℕ) → n ≤ e → first_from test (n - e) e ≡ Err Nowhere
unfolding first_from
first-none test n e l = rw (none_left n e l)
  where
    none_left : (n e : ℕ) → n ≤ e → n - e ≡ 0
    none_left n e l = omega arith

-- r is the first of the k numbers from e on that pass, or none of them does
abbrev pub FirstOf : (ℕ → Bool) → ℕ → ℕ → Result ℕ NoCrossing → Type 0
FirstOf test k e (Ok i) = (i < e + k) × (test i ≡ true) × ((j : ℕ) → e ≤ j → j < i → test j ≡ false)
FirstOf test k e (Err Nowhere) = (j : ℕ) → e ≤ j → j < e + k → test j ≡ false
FirstOf test k e (Err NotFiniteDepth) = ⊥
FirstOf test k e (Err NotClosed) = ⊥

-- one number more in front, which does not pass
first-of-more : (test : ℕ → Bool) (k e : ℕ) (r : Result ℕ NoCrossing) → test e ≡ false → FirstOf test k (suc e) r → FirstOf test (suc k) e r
first-of-more test k e r t = go r
  where
    before : (A : ℕ → Type 0) → ((j : ℕ) → suc e ≤ j → A j → test j ≡ false) → (j : ℕ) → e ≤ j → A j → test j ≡ false
    before A h j l a = this (ℕ_discrete j e)
      where
        this : Dec (j ≡ e) → test j ≡ false
        this (yes q) = rw q t
        this (no d) = h j (omega arith) a

    go : (r : Result ℕ NoCrossing) → FirstOf test k (suc e) r → FirstOf test (suc k) e r
    go (Ok i) (l, p, none) = (omega arith, p, before (λ j. j < i) none)
    go (Err Nowhere) none = before (λ j. j < e + suc k) (λ j g l. none j g (omega arith))
    go (Err NotFiniteDepth) h = h
    go (Err NotClosed) h = h

pub first-is : (test : ℕ → Bool) (k e : ℕ) → FirstOf test k e (first_from test k e)
unfolding first_from
first-is test zero e = λ j l h. absurd (none j l h)
  where
    none : (j : ℕ) → e ≤ j → j < e + 0 → ⊥
    none j l h = omega arith
first-is test (suc k) e = go (test e) refl (first-is test k (suc e))
  where
    go : (b : Bool) → test e ≡ b → FirstOf test k (suc e) (first_from test k (suc e)) → FirstOf test (suc k) e (first_from test (suc k) e)
    go true t rest = rw t (omega arith, t, λ j l h. absurd (none j l h))
      where
        none : (j : ℕ) → e ≤ j → j < e → ⊥
        none j l h = omega arith
    go false t rest = rw t (first-of-more test k e (first_from test k (suc e)) t rest)
