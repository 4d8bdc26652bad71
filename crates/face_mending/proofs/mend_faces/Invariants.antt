-- mend_faces meets its contract. The invariant: the faces passed are entered and were fit.
use Rattle.face_mending.proofs.Laws.{FacesEntered}
use Rattle.face_mending.proofs.mend_faces.Given as goal

abbrev pub invariant-loop-f : goal.invariant-loop-f
invariant-loop-f l =
    FacesEntered l.sides l.firsts l.listed l.beside l.tos l.initial.heads l.initial.links l.initial.mates l.initial.seconds l.heads l.links l.mates l.seconds l.np l.a l.f
