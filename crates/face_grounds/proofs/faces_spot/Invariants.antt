-- faces_spot meets its contract. The invariant: the faces passed are entered, and nothing was met.
use Rattle.face_grounds.proofs.Laws.{FacesEntered}
use Rattle.face_grounds.proofs.faces_spot.Given as goal

abbrev pub invariant-loop-f : goal.invariant-loop-f
invariant-loop-f l = FacesEntered l.version l.sides l.firsts l.listed l.beside l.tos l.initial.heads l.initial.links
    l.initial.mates l.initial.seconds l.heads l.links l.mates l.seconds l.np l.a l.f
