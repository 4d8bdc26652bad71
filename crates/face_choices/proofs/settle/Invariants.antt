-- settle meets its contract. The invariant: the faces passed are told of, and the lists keep the same parts; the measure is what is left.
use Prim.Native.Nat.{◌-◌, ◌≤◌}
use lib.ListN.{length}
use Rattle.face_choices.proofs.Laws.{Settling}
use Rattle.face_choices.proofs.settle.Given as goal

abbrev pub invariant-loop-f : goal.invariant-loop-f
invariant-loop-f l = Settling l.initial.ups l.initial.odds l.initial.turned l.ups l.odds l.turned l.f
