-- `faces` meets its contract. The invariant is `FacesSoFar`; the measure is what is left of the text.
use Prim.Native.Nat.{◌-◌}
use lib.ListN.{length}
use Rattle.face_lines.proofs.faces.Answers.Turn.{FacesSoFar}
use Rattle.face_lines.proofs.faces.Given as goal

abbrev pub invariant-loop-ls : goal.invariant-loop-ls
invariant-loop-ls l = FacesSoFar l.s l.at l.initial.ls l.initial.qs l.initial.ps l.initial.ds l.ls l.qs l.ps l.ds l.i l.k l.c

abbrev pub decreases-loop-ls : goal.decreases-loop-ls
decreases-loop-ls l = length l.s - l.i
