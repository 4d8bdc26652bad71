-- The laws of positions: a number is finite exactly if its difference from itself is 0. Assumes nothing.
use mathlib.Core.Path.{◌≡◌, refl, ◌∙◌, ap, sym}
use mathlib.Core.Bool.{Bool, true, false, not}
use Prim.Native.Nat.{ℕ, ◌*◌, ◌<◌}
use native.Mathlib.Nat.{mul-pos, sub_self, le_refl, zero-mul}
use native.Mathlib.Omega.{arith}
use borrow.Author.Tests.{le-ltb}
use lib.Pow.{pow_pos}
use lib.IntN.{ℤ, pos, negsuc}
use lib.Ieee.{Float, nan, inf, fin, binary64, up, down, add, sub, neg, eq, sum, round, of_bits}
use lib.Ieee.Scale.{finite, round_same}

down_pos : (e : ℤ) → 0 < down e
down_pos (pos k) = omega arith
down_pos (negsuc k) = pow_pos _

round-zero : (c : ℕ) → 0 < c → round binary64 false 0 c ≡ round binary64 false 0 1
round-zero c h = round_same binary64 false 0 c 0 1 h (omega arith) (zero-mul 1 ∙ sym (zero-mul c))

-- the difference of a number from itself is +0, whatever its sign
level-sum : (s : Bool) (a c : ℕ) → 0 < c → sum binary64 s a (not s) a c ≡ round binary64 false 0 1
unfolding sum
level-sum true a c h = rw (le-ltb a a (le_refl a), sub_self a) (round-zero c h)
level-sum false a c h = rw (le-ltb a a (le_refl a), sub_self a) (round-zero c h)

round-zero-level : eq (round binary64 false 0 1) (of_bits binary64 0) ≡ true
unfolding round eq of_bits
round-zero-level = refl

pub sub-self-zero : (v : Float) → eq (sub binary64 v v) (of_bits binary64 0) ≡ finite v
unfolding sub add neg eq of_bits
sub-self-zero nan = refl
sub-self-zero (inf true) = refl
sub-self-zero (inf false) = refl
sub-self-zero (fin s m e) =
    ap (λ (d : Float). eq d (of_bits binary64 0)) (level-sum s (m * up e * down e) (down e * down e) (mul-pos (down_pos e) (down_pos e)))
    ∙ round-zero-level
