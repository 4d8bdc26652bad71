-- find_part meets its contract. The invariant: the way so far leads from face f to face g, and the lists keep the same parts; faces fall, so
-- the face is the measure.
use mathlib.Core.Path.{◌≡◌}
use Prim.Native.Nat.{◌<◌}
use lib.ListN.{length, get_or}
use Rattle.face_parts.proofs.Laws.{Finding}
use Rattle.face_parts.proofs.find_part.Given as goal

abbrev pub invariant-loop-up : goal.invariant-loop-up
invariant-loop-up l = (l.f < length l.initial.ups) × Finding l.initial.ups l.initial.odds l.ups l.odds l.f l.g l.odd × (l.up ≡ get_or l.ups l.g 0)

abbrev pub decreases-loop-up : goal.decreases-loop-up
decreases-loop-up l = l.g
