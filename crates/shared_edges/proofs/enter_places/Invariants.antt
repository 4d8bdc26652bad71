-- enter_places meets its contract. The invariant: the places passed are entered, and none was the third on its edge; the measure is what
-- is left of them.
use Prim.Native.Nat.{◌-◌}
use Rattle.shared_edges.proofs.Laws.{Entering}
use Rattle.shared_edges.proofs.enter_places.Given as goal

abbrev pub invariant-loop-i : goal.invariant-loop-i
invariant-loop-i l = Entering l.listed l.tos l.initial.heads l.initial.links l.initial.mates l.initial.seconds l.heads l.links l.mates l.seconds l.a l.n l.i
