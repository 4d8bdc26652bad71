-- Lists to compute building on.
--     cube                   document 01's cube
--     back_to_back n ks ts     two faces back to back
--     even n                 the same, with n points on the first and on the third side
--     with_firsts fs l        the lists l in version 2, with the first points fs
use Rattle.std.specs.Prelude.{cond, List, [], ◌∷◌, ◌++◌, ℕ, zero, suc, ◌+◌, ◌*◌, ◌/◌, ◌%◌, replicate, eqb, Float}
use Rattle.std.specs.Float.Ieee.{of_bits}
use Rattle.std.specs.Float.{binary64}
use Rattle.tables.specs.Layout.{position_width}
use Rattle.built_meshes.specs.Lists.{Lists}
use Rattle.built_meshes.specs.declared.Version.TheVariants.{One, Two}

abbrev pub unit : Float
unit = of_bits binary64 0x3ff0000000000000

abbrev pub two : Float
two = of_bits binary64 0x4000000000000000

abbrev pub nought : Float
nought = of_bits binary64 0

-- t, the binary64 nearest 0.000001, and the next binary64 above it
abbrev pub tiny : Float
tiny = of_bits binary64 0x3eb0c6f7a0b5ed8d

abbrev pub above_tiny : Float
above_tiny = of_bits binary64 0x3eb0c6f7a0b5ed8e

-- 1 if the number is odd, else -1
abbrev pub odd_sign : ℕ → Float
odd_sign k = cond (eqb (k % 2) 1) unit (of_bits binary64 0xbff0000000000000)

-- the coordinates of the first k points of the cube, by the bits of their numbers
abbrev pub cube_points : ℕ → List Float
cube_points zero = []
cube_points (suc k) = cube_points k ++ (odd_sign k ∷ odd_sign (k / 2) ∷ odd_sign (k / 4) ∷ [])

abbrev pub cube : Lists
cube =
    record {
      version = One;
      coordinates = cube_points 8;
      sides = replicate 24 1;
      firsts = [];
      listed = 2 ∷ 3 ∷ 1 ∷ 0 ∷ 5 ∷ 7 ∷ 6 ∷ 4 ∷ 1 ∷ 5 ∷ 4 ∷ 0 ∷ 6 ∷ 7 ∷ 3 ∷ 2 ∷ 4 ∷ 6 ∷ 2 ∷ 0 ∷ 3 ∷ 7 ∷ 5 ∷ 1 ∷ [];
      intervals = replicate 24 unit;
    }

-- k, k + 1, .. of n numbers, and n numbers down to k
abbrev pub up_from : ℕ → ℕ → List ℕ
up_from k zero = []
up_from k (suc n) = k ∷ up_from (suc k) n

abbrev pub down_to : ℕ → ℕ → List ℕ
down_to k zero = []
down_to k (suc n) = (k + n) ∷ down_to k n

-- two faces back to back, with the same side lengths and intervals
abbrev pub back_to_back : ℕ → List ℕ → List Float → Lists
back_to_back n ks ts =
    record {
      version = One;
      coordinates = replicate (n * position_width) unit;
      sides = ks ++ ks;
      firsts = [];
      listed = up_from 0 n ++ down_to 0 n;
      intervals = ts ++ ts;
    }

-- a face with n points on its first and on its third side each
abbrev pub even : ℕ → Lists
even n = back_to_back (n + n) (n ∷ 0 ∷ n ∷ 0 ∷ []) (replicate (n + n) unit)

abbrev pub with_firsts : List ℕ → Lists → Lists
with_firsts fs l =
    record { version = Two; coordinates = l.coordinates; sides = l.sides; firsts = fs; listed = l.listed; intervals = l.intervals }
