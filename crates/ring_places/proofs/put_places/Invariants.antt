-- put_places meets its contract. The invariant: the three arrays are filled up to i.
use Rattle.ring_places.proofs.Filling.{Filled}
use Rattle.ring_places.proofs.put_places.Given as goal

abbrev pub invariant-loop-i : goal.invariant-loop-i
invariant-loop-i l = Filled l.edges l.newedges l.perimeter l.f l.n l.initial.firsts l.initial.seconds l.initial.mids l.firsts l.seconds l.mids l.i
