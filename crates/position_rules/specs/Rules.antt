-- The positions after one refinement, as functions of the mesh before it alone: no row number of a new point is in them, and no
-- visiting order.
--     face_point_in m ne f     the face point of face f (`specs/FacePoint.antt`)
--     edge_point_in m ne e     the edge point of edge e
--     weighted_in ed m ne e   what the rule for old points weighs for edge e in the edition ed
--     old_point_in ed m ne p   where the point p goes in the edition ed
use Rattle.std.specs.Prelude.{ℕ}
use Rattle.positions.specs.declared.Position.{Position}
use Rattle.tables.specs.Mesh.{Mesh}
use Rattle.refined_meshes.specs.declared.Edition.{Edition}
use Rattle.position_rules.specs.FacePoint.{face_point_in}
use Rattle.position_rules.specs.EdgePoint.{edge_point, weighted_point}
use Rattle.position_rules.specs.OldPoint.{old_point}

unfoldable pub edge_point_in : Mesh → ℕ → ℕ → Position
edge_point_in m ne e = edge_point m.positions m.edges m.intervals (face_point_in m ne) e

abbrev pub weighted_in : Edition → Mesh → ℕ → ℕ → Position
weighted_in ed m ne e = weighted_point ed m.positions m.edges m.intervals (face_point_in m ne) e

unfoldable pub old_point_in : Edition → Mesh → ℕ → ℕ → Position
old_point_in ed m ne p = old_point m.positions m.points m.edges m.intervals (weighted_in ed m ne) (face_point_in m ne) p
