-- spread_face meets its contract. The invariant: the places passed are spread.
use Prim.Native.Nat.{◌-◌}
use Rattle.face_places.proofs.Laws.{Spreading}
use Rattle.face_places.proofs.spread_face.Given as goal

abbrev pub invariant-loop-i : goal.invariant-loop-i
invariant-loop-i l = Spreading l.listed l.f l.a l.n l.initial.tos l.initial.faces l.tos l.faces l.i
