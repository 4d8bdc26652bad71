-- spread meets its contract. The invariant: the faces passed are spread.
use Prim.Native.Nat.{◌-◌}
use Rattle.face_places.proofs.Laws.{SpreadFaces}
use Rattle.face_places.proofs.spread.Given as goal

abbrev pub invariant-loop-f : goal.invariant-loop-f
invariant-loop-f l = SpreadFaces l.sides l.listed l.initial.tos l.initial.faces l.tos l.faces l.a l.f
