-- Which bit patterns of a binary64 are NaNs.
use mathlib.Core.Path.{◌≡◌, refl, sym, ◌∙◌}
use mathlib.Core.Bool.{true, not}
use Prim.Native.Nat.{ℕ, ◌%◌, ◌≤◌, ◌<◌}
use lib.Dec.{T}
use lib.Ieee.{Float, nan, inf, fin, binary64, of_bits, div, is_nan, nan_bits}
use lib.Ieee.Bits.{nan_bits_above, nan_bits_is}
use borrow.Author.Tests.{lt-ltb, le-ltb}

is-nan : (x : Float) → is_nan x ≡ true → x ≡ nan
unfolding is_nan
is-nan nan e = refl
is-nan (inf s) e = cc
is-nan (fin s m e) h = cc

pub nan-above : (b : ℕ) → 0x7ff0000000000000 < b % 0x8000000000000000 → of_bits binary64 b ≡ nan
nan-above b h = is-nan (of_bits binary64 b) (sym (nan_bits_is binary64 b) ∙ nan_bits_above binary64 b ∙ lt-ltb 0x7ff0000000000000 (b % 0x8000000000000000) h)

pub no-nan-below : (b : ℕ) → b % 0x8000000000000000 ≤ 0x7ff0000000000000 → T (not (nan_bits binary64 b))
no-nan-below b h = rw (nan_bits_above binary64 b, le-ltb 0x7ff0000000000000 (b % 0x8000000000000000) h) tt

pub zero_by_zero : div binary64 (of_bits binary64 0) (of_bits binary64 0) ≡ nan
unfolding of_bits div
zero_by_zero = refl
