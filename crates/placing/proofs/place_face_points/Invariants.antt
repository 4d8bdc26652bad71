-- place_face_points meets its contract. The invariant: the first f face points are put.
use Prim.Native.Nat.{◌+◌, ◌*◌}
use mathlib.Core.Path.{◌≡◌}
use lib.ListN.{length, get_or}
use Rattle.position_rules.specs.FacePoint.{face_point_in}
use Rattle.tables.specs.Parts.{without_points}
use Rattle.steps.specs.Positions.{so_far, placed_by}
use Rattle.placing.proofs.place_face_points.Given as goal

abbrev pub invariant-loop-f : goal.invariant-loop-f
invariant-loop-f l = (length l.newpositions ≡ length l.initial.newpositions) ×
    ((length l.perimeter ≡ 64) × (length l.points ≡ 68)) ×
    (placed_by l.f (λ k. get_or l.newfaces (k * 5 + 1) 0)
    (λ k ps. face_point_in (without_points l.positions l.edges l.intervals l.faces) l.ne k)
    (so_far l.initial.newpositions) ≡ so_far l.newpositions)
