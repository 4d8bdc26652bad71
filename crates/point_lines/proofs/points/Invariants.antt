-- `points` meets its contract. The invariant is `Points`; the measure is what is left of the text.
use Prim.Native.Nat.{◌-◌}
use lib.ListN.{length}
use Rattle.point_lines.proofs.points.Answers.Turn.{Points}
use Rattle.point_lines.proofs.points.Given as goal

abbrev pub invariant-loop-xs : goal.invariant-loop-xs
invariant-loop-xs l = Points l.s l.at l.initial.xs l.xs l.i l.k

abbrev pub decreases-loop-xs : goal.decreases-loop-xs
decreases-loop-xs l = length l.s - l.i
