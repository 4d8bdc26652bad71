-- face_walks_fit meets its contract. The invariant: the walks about the first f faces come back, and their sizes add up to the sum, which
-- is not past the total, and the arrays for a border have their lengths.
use mathlib.Core.Path.{◌≡◌}
use lib.ListN.{length}
use Rattle.audit_faces.proofs.FaceTests.{Added}
use Rattle.tables.specs.Parts.{face_tables}
use Rattle.audit_faces.proofs.face_walks_fit.Given as goal

abbrev pub invariant-loop-f : goal.invariant-loop-f
invariant-loop-f l =
    Added (face_tables l.edges l.faces) l.ne l.total l.f l.sum × (length l.perimeter ≡ 64) × (length l.points ≡ 68)
