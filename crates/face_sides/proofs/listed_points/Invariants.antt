-- `listed_points` meets its contract. The invariant is `ListedSoFar`; the measure is what is left of the text.
use Prim.Native.Nat.{◌-◌}
use lib.ListN.{length}
use Rattle.face_sides.proofs.listed_points.Answers.Turn.{ListedSoFar}
use Rattle.face_sides.proofs.listed_points.Given as goal

abbrev pub invariant-loop-i : goal.invariant-loop-i
invariant-loop-i l = ListedSoFar l.s l.at l.initial.ps l.initial.ds l.n l.ps l.ds l.i l.k

abbrev pub decreases-loop-i : goal.decreases-loop-i
decreases-loop-i l = length l.s - l.i
