-- The sign bit of a finite number. Assumes nothing.
--     bits_below              a finite number's bits are below the weight of the sign bit exactly if it can be an interval
--     not-finite-unfit        a number that is not finite cannot be one
--     finite_number           a finite number is no NaN
use mathlib.Core.Path.{◌≡◌, refl, sym, ◌∙◌, ap, subst}
use mathlib.Core.Bool.{Bool, true, false, not, cond, false≢true}
use Prim.Native.Nat.{ℕ, zero, suc, ◌+◌, ◌%◌, ◌/◌}
use lib.Dec.{T, eqb, leb, ltb}
use lib.Ieee.{Float, Format, nan, inf, fin, odd, of_fields, of_bits, to_bits, fits, is_nan, prec, low, ones, hid, top, binary64}
use borrow.Author.Tests.{leb-true, leb-false, le-ltb, lt-ltb}
use lib.Ieee.Scale.{finite}
use lib.Ieee.Bits.{of_bits-to_bits}
use Rattle.audited_meshes.specs.Audit.{interval_fit}

-- what the sign bit says of a value that is a number
abbrev Signed : Float → Bool → Type 0
Signed nan s = Unit
Signed (inf t) s = t ≡ s
Signed (fin t m e) s = t ≡ s

odd-signed : (d : ℕ) (s : Bool) (q k l : ℕ) → Signed (odd d s q k l) s
unfolding odd
odd-signed d s zero k l = refl
odd-signed d s (suc q) k l = refl

fields-signed : (f : Format) (s : Bool) (x t : ℕ) → Signed (of_fields f s x t) s
unfolding of_fields
fields-signed f s zero t = odd-signed (prec f) s t 0 (low f)
fields-signed f s (suc x) t = go (eqb (suc x) (ones f)) (eqb t 0)
  where
    go : (a b : Bool) → Signed (cond a (cond b (inf s) nan) (odd (prec f) s (hid f + t) x (low f))) s
    go true true = refl
    go true false = tt
    go false b = odd-signed (prec f) s (hid f + t) x (low f)

bits-signed : (v : Float) → T (fits binary64 v) → Signed v (leb (top binary64) (to_bits binary64 v))
unfolding of_bits
bits-signed v h =
    let b : ℕ = to_bits binary64 v in
    subst (λ w. Signed w (leb (top binary64) b)) (of_bits-to_bits binary64 v h)
    (fields-signed binary64 (leb (top binary64) b) (b % top binary64 / hid binary64) (b % hid binary64))

not-leb : (a b : ℕ) → not (leb a b) ≡ ltb b a
not-leb a b = go (leb a b) refl
  where
    go : (t : Bool) → leb a b ≡ t → not t ≡ ltb b a
    go true e = sym (le-ltb b a (leb-true a b e))
    go false e = sym (lt-ltb b a (leb-false a b e))

-- a finite number's bits are below the weight of the sign bit exactly if that bit is clear
pub bits_below : (v : Float) → finite v ≡ true → fits binary64 v ≡ true → ltb (to_bits binary64 v) 9223372036854775808 ≡ interval_fit v
bits_below nan e h = absurd (false≢true e)
bits_below (inf s) e h = absurd (false≢true e)
bits_below (fin s m k) e h =
    sym (not-leb (top binary64) (to_bits binary64 (fin s m k))) ∙ ap not (sym (bits-signed (fin s m k) (subst T (sym h) tt)))

pub not-finite-unfit : (v : Float) → finite v ≡ false → interval_fit v ≡ false
not-finite-unfit nan e = refl
not-finite-unfit (inf s) e = refl
not-finite-unfit (fin s m k) e = absurd (false≢true (sym e))

pub finite_number : (v : Float) → finite v ≡ true → T (not (is_nan v))
unfolding is_nan
finite_number nan e = absurd (false≢true e)
finite_number (inf s) e = tt
finite_number (fin s m k) e = tt
