-- enter_edges meets its contract. The invariant: the places passed are entered, and nothing was met.
use Rattle.face_grounds.proofs.Laws.{EdgesEntered}
use Rattle.face_grounds.proofs.enter_edges.Given as goal

abbrev pub invariant-loop-i : goal.invariant-loop-i
invariant-loop-i l = EdgesEntered l.listed l.tos l.initial.heads l.initial.links l.initial.mates l.initial.seconds l.heads l.links l.mates l.seconds l.f l.a l.n l.i
