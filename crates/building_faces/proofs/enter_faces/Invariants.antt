-- enter_faces meets its contract. The invariant `FacePassing`: what is left of the definition's faces, from the state at face f, is all of
-- them from the beginning.
use Rattle.building_faces.proofs.FacePassing.{FacePassing}
use Rattle.building_faces.proofs.enter_faces.Given as goal

abbrev pub invariant-loop-f : goal.invariant-loop-f
invariant-loop-f l = FacePassing l.version l.np l.sides l.firsts l.listed l.beside l.initial.points l.initial.edges
    l.initial.intervals l.initial.faces l.initial.chain l.points l.edges l.intervals l.faces l.chain l.k l.a l.f
