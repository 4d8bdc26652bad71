-- join_places meets its contract. The invariant: the faces of the places passed are joined.
use Prim.Native.Nat.{◌-◌, ◌≤◌}
use lib.ListN.{length}
use Rattle.face_choices.specs.Mates.{JoinedTo}
use Rattle.face_choices.proofs.join_places.Given as goal

abbrev pub invariant-loop-k : goal.invariant-loop-k
invariant-loop-k l = JoinedTo l.listed l.faces l.mates l.k (length l.initial.ups) l.ups l.odds l.twisted
