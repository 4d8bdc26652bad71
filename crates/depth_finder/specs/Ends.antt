-- The tables that a search looks at.
--     end_tables xs es        the tables of positions xs and of edges es, the others empty
--     EndsStand xs es e      the ends of edge e have their rows of positions
use Rattle.std.specs.Prelude.{List, [], ℕ, ◌+◌, ◌*◌, ◌≤◌, length, Float}
use Rattle.tables.specs.Layout.{position_width}
use Rattle.tables.specs.Mesh.{Mesh, mesh_of, origin, dest}

abbrev pub end_tables : List Float → List ℕ → Mesh
end_tables xs es = mesh_of xs [] es [] []

pub record EndsStand (xs : List Float) (es : List ℕ) (e : ℕ) : Type 0 where
  pub origin-stands : origin (end_tables xs es) e * position_width + position_width ≤ length xs
  pub dest-stands : dest (end_tables xs es) e * position_width + position_width ≤ length xs
