-- Positions.
--     zeros                     the origin
--     plus p q                  coordinate by coordinate, as product p w and quotient p w by a number
--     tolerance, small v        document 01's t, and what it calls small
--     finite_position p          all three coordinates are finite
--     placed_at p                the answer of a position rule: the three coordinates, or the word that one is not finite
use Rattle.std.specs.Prelude.{Bool, true, false, ◌&&◌, Float}
use Rattle.std.specs.Float.Ieee.{add, mul, div, neg, le, of_bits}
use Rattle.std.specs.Float.{binary64}
use Rattle.std.specs.Float.Ieee.Scale.{finite}
use Rattle.positions.specs.declared.Position.{Position}
use Rattle.positions.specs.declared.Placed.{Placed}
use Rattle.positions.specs.declared.Placed.TheVariants.{At, NotFinite}

abbrev pub zeros : Position
zeros = record { x = of_bits binary64 0; y = of_bits binary64 0; z = of_bits binary64 0 }

abbrev pub plus : Position → Position → Position
plus p q = record { x = add binary64 p.x q.x; y = add binary64 p.y q.y; z = add binary64 p.z q.z }

abbrev pub product : Position → Float → Position
product p w = record { x = mul binary64 p.x w; y = mul binary64 p.y w; z = mul binary64 p.z w }

abbrev pub quotient : Position → Float → Position
quotient p w = record { x = div binary64 p.x w; y = div binary64 p.y w; z = div binary64 p.z w }

-- t, the binary64 number nearest 0.000001
abbrev pub tolerance : Float
tolerance = of_bits binary64 0x3eb0c6f7a0b5ed8d

-- from -t to t, ends included
abbrev pub small : Float → Bool
small v = le (neg tolerance) v && le v tolerance

abbrev pub finite_position : Position → Bool
finite_position p = finite p.x && (finite p.y && finite p.z)

abbrev pub placed_if : Bool → Position → Placed
placed_if true p = At p.x p.y p.z
placed_if false p = NotFinite

abbrev pub placed_at : Position → Placed
placed_at p = placed_if (finite_position p) p
