-- place_old_points meets its contract. The invariant: the first p old points are put.
use mathlib.Core.Path.{◌≡◌}
use lib.ListN.{length}
use Rattle.position_rules.specs.Places.{edge_point_at, face_point_at}
use Rattle.position_rules.specs.OldPoint.{old_point}
use Rattle.steps.specs.Positions.{so_far, placed_by}
use Rattle.placing.proofs.place_old_points.Given as goal

abbrev pub invariant-loop-p : goal.invariant-loop-p
invariant-loop-p l = (length l.newpositions ≡ length l.initial.newpositions) ×
    (placed_by l.p (λ k. k) (λ k ps. old_point l.positions l.points l.edges l.intervals (edge_point_at ps l.newedges)
    (face_point_at ps l.newfaces) k) (so_far l.initial.newpositions) ≡ so_far l.newpositions)
