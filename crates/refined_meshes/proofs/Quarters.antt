-- The joining interval of the second edition, computed: of intervals 1 and 1 it is 0.5, as document 02 has it of the cube; of 1 and 3 it is 1.
use mathlib.Core.Path.{◌≡◌, refl}
use lib.Ieee.{of_bits, add, mul, binary64}
use Rattle.refined_meshes.specs.Settled.{quarter}

of_ones : quarter (of_bits binary64 0x3ff0000000000000) (of_bits binary64 0x3ff0000000000000) ≡ of_bits binary64 0x3fe0000000000000
unfolding mul add of_bits
of_ones = refl

of-one-and-three : quarter (of_bits binary64 0x3ff0000000000000) (of_bits binary64 0x4008000000000000) ≡ of_bits binary64 0x3ff0000000000000
unfolding mul add of_bits
of-one-and-three = refl
