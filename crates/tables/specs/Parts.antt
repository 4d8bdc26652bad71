-- Meshes of which some tables alone are looked at: the others are empty.
--     position_tables xs ps       the tables of positions and points
--     point_tables ps es          the tables of points and edges
--     edge_tables es is           the tables of edges and intervals
--     face_tables es fs           the tables of edges and faces
--     without_points xs es is fs  all but the table of points
use Rattle.std.specs.Prelude.{List, [], ℕ, Float}
use Rattle.tables.specs.Mesh.{Mesh, mesh_of}

abbrev pub position_tables : List Float → List ℕ → Mesh
position_tables xs ps = mesh_of xs ps [] [] []

abbrev pub point_tables : List ℕ → List ℕ → Mesh
point_tables ps es = mesh_of [] ps es [] []

abbrev pub edge_tables : List ℕ → List Float → Mesh
edge_tables es is = mesh_of [] [] es is []

abbrev pub face_tables : List ℕ → List ℕ → Mesh
face_tables es fs = mesh_of [] [] es [] fs

abbrev pub without_points : List Float → List ℕ → List Float → List ℕ → Mesh
without_points xs es is fs = mesh_of xs [] es is fs
