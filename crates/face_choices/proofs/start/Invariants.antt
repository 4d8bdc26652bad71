-- start meets its contract. The invariant: the faces passed point to themselves.
use Prim.Native.Nat.{◌-◌}
use lib.ListN.{length}
use Rattle.face_choices.proofs.Laws.{Pointing}
use Rattle.face_choices.proofs.start.Given as goal

abbrev pub invariant-loop-f : goal.invariant-loop-f
invariant-loop-f l = Pointing l.initial.ups l.initial.odds l.ups l.odds l.f
