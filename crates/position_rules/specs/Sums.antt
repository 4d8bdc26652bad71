-- Weighted sums of positions.
--     with_term s p w       the sum s with the position p added at the weight w, and w added to its weight
use Rattle.std.specs.Prelude.{Float}
use Rattle.std.specs.Float.Ieee.{add}
use Rattle.std.specs.Float.{binary64}
use Rattle.positions.specs.declared.Position.{Position}
use Rattle.positions.specs.Position.{plus, product}
use Rattle.position_rules.specs.declared.WeightedSum.{WeightedSum}

abbrev pub with_term : WeightedSum → Position → Float → WeightedSum
with_term s p w = record { sum = plus s.sum (product p w); weight = add binary64 s.weight w }
