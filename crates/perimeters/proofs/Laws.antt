-- The laws of the places of a perimeter. Assumes nothing.
--     around-below, around-same, around-more      a place counted round is a place: itself, or n less
--     next-around                             counted round, the place after j is j + 1
--     next_more, next_last                    the place after a place is the one behind it, and after the last comes the first
--     prev-first, prev_more                   the place before the first is the last, and before another the one in front of it
--     next-below, prev-below                  they are places
--     next-prev, next-injective               the place after the place before is the place itself, and no place comes after two
--     next-differs, next-next-differs         one step and two steps lead elsewhere
use mathlib.Core.Path.{◌≡◌, sym, ◌∙◌, ap}
use mathlib.Core.Logic.{◌⊎◌, inl, inr, ◌≢◌}
use Prim.Native.Nat.{ℕ, suc, ◌+◌, ◌-◌, ◌<◌, ◌≤◌}
use native.Mathlib.Nat.{mod-lt, mod-eq_of_lt, mod_self, mod-add-mod, mod-eq-sub-mod, add-mod_right}
use native.Mathlib.Omega.{arith}
use native.Mathlib.Decide.{dec_lt, ℕ_discrete}
use Rattle.perimeters.specs.Places.{around, next_place, prev_place}

pub around-below : (n j : ℕ) → 0 < n → around n j < n
around-below n j h = mod-lt j h

pub around-same : (n j : ℕ) → j < n → around n j ≡ j
around-same n j h = mod-eq_of_lt h

pub around-more : (n j : ℕ) → n ≤ j → j < n + n → around n j ≡ j - n
around-more n j h l = let b : j - n < n = omega arith in mod-eq-sub-mod h ∙ mod-eq_of_lt b

pub next-around : (n j : ℕ) → next_place n (around n j) ≡ around n (j + 1)
next-around n j = mod-add-mod j n 1

pub next_more : (n i : ℕ) → suc i < n → next_place n i ≡ suc i
next_more n i h = around-same n (i + 1) (omega arith) ∙ omega arith

pub next_last : (n i : ℕ) → suc i ≡ n → next_place n i ≡ 0
next_last n i h = let e : i + 1 ≡ n = omega arith in rw e (mod_self n)

next-is : (n i : ℕ) → i < n → ((suc i ≡ n) × (next_place n i ≡ 0)) ⊎ ((suc i ≢ n) × (next_place n i ≡ suc i))
next-is n i h = go (dec_lt (suc i) n)
  where
    go : Dec (suc i < n) → ((suc i ≡ n) × (next_place n i ≡ 0)) ⊎ ((suc i ≢ n) × (next_place n i ≡ suc i))
    go (yes l) = inr ((λ e. omega arith), next_more n i l)
    go (no l) = let e : suc i ≡ n = omega arith in inl (e, next_last n i e)

pub next-below : (n i : ℕ) → i < n → next_place n i < n
next-below n i h = around-below n (i + 1) (omega arith)

pub prev-first : (n i : ℕ) → i < n → i ≡ 0 → prev_place n i ≡ n - 1
prev-first n i h e = around-same n (i + n - 1) (omega arith) ∙ omega arith

pub prev_more : (n i : ℕ) → i < n → i ≢ 0 → prev_place n i ≡ i - 1
prev_more n i h e =
    let s : i + n - 1 ≡ i - 1 + n = omega arith in
    ap (around n) s ∙ add-mod_right (i - 1) n ∙ around-same n (i - 1) (omega arith)

pub prev-below : (n i : ℕ) → i < n → prev_place n i < n
prev-below n i h = around-below n (i + n - 1) (omega arith)

pub next-prev : (n i : ℕ) → i < n → next_place n (prev_place n i) ≡ i
next-prev n i h = go (ℕ_discrete i 0)
  where
    go : Dec (i ≡ 0) → next_place n (prev_place n i) ≡ i
    go (yes e) = rw (prev-first n i h e) (next_last n (n - 1) (omega arith) ∙ sym e)
    go (no e) = rw (prev_more n i h e) (next_more n (i - 1) (omega arith) ∙ omega arith)

pub next-injective : (n i j : ℕ) → i < n → j < n → next_place n i ≡ next_place n j → i ≡ j
next-injective n i j l k e = go (next-is n i l) (next-is n j k)
  where
    go : ((suc i ≡ n) × (next_place n i ≡ 0)) ⊎ ((suc i ≢ n) × (next_place n i ≡ suc i)) →
        ((suc j ≡ n) × (next_place n j ≡ 0)) ⊎ ((suc j ≢ n) × (next_place n j ≡ suc j)) → i ≡ j
    go (inl a) (inl b) = omega arith
    go (inl a) (inr b) = omega arith
    go (inr a) (inl b) = omega arith
    go (inr a) (inr b) = omega arith

pub next-differs : (n i : ℕ) → 2 ≤ n → i < n → next_place n i ≢ i
next-differs n i two l e = go (next-is n i l)
  where
    go : ((suc i ≡ n) × (next_place n i ≡ 0)) ⊎ ((suc i ≢ n) × (next_place n i ≡ suc i)) → ⊥
    go (inl a) = omega arith
    go (inr a) = omega arith

pub next-next-differs : (n i : ℕ) → 3 ≤ n → i < n → next_place n (next_place n i) ≢ i
next-next-differs n i three l e = go (next_place n i) (next-is n i l) (next-is n (next_place n i) (next-below n i l)) e
  where
    go : (j : ℕ) → ((suc i ≡ n) × (j ≡ 0)) ⊎ ((suc i ≢ n) × (j ≡ suc i)) →
        ((suc j ≡ n) × (next_place n j ≡ 0)) ⊎ ((suc j ≢ n) × (next_place n j ≡ suc j)) → next_place n j ≡ i → ⊥
    go j (inl a) (inl b) f = omega arith
    go j (inl a) (inr b) f = omega arith
    go j (inr a) (inl b) f = omega arith
    go j (inr a) (inr b) f = omega arith
