-- enter_places meets its contract. The invariant `Passing`: what is left of the definition's places, from the ring at place i, is all of
-- them from the beginning.
use Rattle.building_faces.proofs.Passing.{Passing}
use Rattle.building_faces.proofs.enter_places.Given as goal

abbrev pub invariant-loop-i : goal.invariant-loop-i
invariant-loop-i l =
    Passing l.version l.np l.listed l.beside l.f l.a l.n l.k l.initial.points l.initial.edges l.initial.intervals l.initial.chain l.points l.edges l.intervals l.chain l.ring l.i
