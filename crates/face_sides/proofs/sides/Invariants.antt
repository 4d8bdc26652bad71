-- `sides` meets its contract. The invariant is `SidesSoFar`.
use Rattle.face_sides.proofs.sides.Answers.Turn.{SidesSoFar}
use Rattle.face_sides.proofs.sides.Given as goal

abbrev pub invariant-loop-k : goal.invariant-loop-k
invariant-loop-k l = SidesSoFar l.s l.at l.initial.ls l.initial.qs l.f l.initial.ps l.initial.ds l.n l.ls l.qs l.ps l.ds l.i l.c l.k
