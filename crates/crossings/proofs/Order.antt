-- Finite numbers are compared as numbers: of any two one is at or below the other. Assumes nothing.
use mathlib.Core.Path.{◌≡◌}
use mathlib.Core.Bool.{Bool, true, false, ◌||◌, false≢true}
use mathlib.Core.Logic.{◌⊎◌, inl, inr}
use Prim.Native.Nat.{ℕ, ◌+◌, ◌*◌, ◌<◌}
use native.Mathlib.Omega.{arith}
use native.Mathlib.Decide.{dec_lt}
use borrow.Author.Tests.{lt-ltb, le-ltb, eq-eqb}
use lib.Ieee.{Float, nan, inf, fin, up, down, below, level, le}
use lib.Ieee.Scale.{finite}

-- ±a is at or below ±b
abbrev at_or_below : Bool → ℕ → Bool → ℕ → Bool
at_or_below s a t b = below s a t b || level s a t b

-- of two numbers with their signs
signed-total : (s t : Bool) (a b : ℕ) → (at_or_below s a t b ≡ true) ⊎ (at_or_below t b s a ≡ true)
signed-total false false a b = go (dec_lt a b) (dec_lt b a)
  where
    go : Dec (a < b) → Dec (b < a) → (at_or_below false a false b ≡ true) ⊎ (at_or_below false b false a ≡ true)
    go (yes l) h = inl (rw (lt-ltb a b l))
    go (no g) (yes l) = inr (rw (lt-ltb b a l))
    go (no g) (no h) = inl (rw (le-ltb a b (omega arith), eq-eqb a b (omega arith)))
signed-total true true a b = go (dec_lt a b) (dec_lt b a)
  where
    go : Dec (a < b) → Dec (b < a) → (at_or_below true a true b ≡ true) ⊎ (at_or_below true b true a ≡ true)
    go (yes l) h = inr (rw (lt-ltb a b l))
    go (no g) (yes l) = inl (rw (lt-ltb b a l))
    go (no g) (no h) = inl (rw (le-ltb b a (omega arith), eq-eqb a b (omega arith)))
signed-total true false a b = go (dec_lt 0 (a + b))
  where
    go : Dec (0 < a + b) → (at_or_below true a false b ≡ true) ⊎ (at_or_below false b true a ≡ true)
    go (yes l) = inl (rw (lt-ltb 0 (a + b) l))
    go (no g) = inl (rw (le-ltb 0 (a + b) (omega arith), eq-eqb a b (omega arith), eq-eqb a 0 (omega arith)))
signed-total false true a b = go (dec_lt 0 (b + a))
  where
    go : Dec (0 < b + a) → (at_or_below false a true b ≡ true) ⊎ (at_or_below true b false a ≡ true)
    go (yes l) = inr (rw (lt-ltb 0 (b + a) l))
    go (no g) = inr (rw (le-ltb 0 (b + a) (omega arith), eq-eqb b a (omega arith), eq-eqb b 0 (omega arith)))

pub le_total : (x y : Float) → finite x ≡ true → finite y ≡ true → (le x y ≡ true) ⊎ (le y x ≡ true)
unfolding le
le_total (fin s m e) (fin t n d) f g = signed-total s t (m * up e * down d) (n * up d * down e)
le_total (fin s m e) nan f g = absurd (false≢true g)
le_total (fin s m e) (inf t) f g = absurd (false≢true g)
le_total nan y f g = absurd (false≢true f)
le_total (inf s) y f g = absurd (false≢true f)
