-- Room for the rows that counts count.
--     Room c t              the tables t have these rows, as lengths of their lists
use Rattle.std.specs.Prelude.{◌*◌, ◌≤◌, length}
use Rattle.tables.specs.Layout.{position_width, point_width, edge_width, face_width}
use Rattle.tables.specs.Mesh.{Mesh}
use Rattle.tables.specs.declared.Counts.{Counts}

pub record Room (c : Counts) (t : Mesh) : Type 0 where
  pub positions : c.points * position_width ≤ length t.positions
  pub points : c.points * point_width ≤ length t.points
  pub edges : c.edges * edge_width ≤ length t.edges
  pub intervals : c.edges ≤ length t.intervals
  pub faces : c.faces * face_width ≤ length t.faces
