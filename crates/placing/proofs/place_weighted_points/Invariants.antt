-- place_weighted_points meets its contract. The invariant: what weighs for the first e edges is put.
use Prim.Native.Nat.{◌+◌, ◌*◌}
use mathlib.Core.Path.{◌≡◌}
use lib.ListN.{length, get_or}
use Rattle.position_rules.specs.Places.{face_point_at}
use Rattle.position_rules.specs.EdgePoint.{weighted_point}
use Rattle.steps.specs.Positions.{so_far, placed_by}
use Rattle.placing.proofs.place_weighted_points.Given as goal

abbrev pub invariant-loop-e : goal.invariant-loop-e
invariant-loop-e l = (length l.newpositions ≡ length l.initial.newpositions) ×
    (placed_by l.e (λ k. get_or l.newedges (k * 8 + 1) 0)
    (λ k ps. weighted_point l.edition l.positions l.edges l.intervals (face_point_at ps l.newfaces) k)
    (so_far l.initial.newpositions) ≡ so_far l.newpositions)
