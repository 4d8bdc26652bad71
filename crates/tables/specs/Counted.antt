-- The rows of five tables that counts count. All further rows are untouched: `zeroed_rows` and `over_rows` leave them as they are.
--     counts_of np ne nf        the counts of np points, ne edges and nf faces
--     rows_for c t              the tables t have the rows of a mesh with the counts c
--     first_rows c t            the rows of the tables t that the counts c count: of a mesh with its counts, the mesh
--     zeroed_rows c t           the tables t with these rows zeroed
--     over_rows c n t           the tables t with these rows taken from n
use Rattle.std.specs.Prelude.{Bool, ◌&&◌, ℕ, ◌*◌, leb, take}
use Rattle.std.specs.Float.Ieee.{of_bits}
use Rattle.std.specs.Float.{binary64}
use Rattle.tables.specs.Layout.{position_width, point_width, edge_width, face_width}
use Rattle.tables.specs.Mesh.{Mesh, mesh_of, point_rows, edge_rows, face_rows}
use Rattle.tables.specs.Rows.{over, zeroed}
use Rattle.tables.specs.declared.Counts.{Counts}

abbrev pub counts_of : ℕ → ℕ → ℕ → Counts
counts_of np ne nf = record { points = np; edges = ne; faces = nf }

unfoldable pub rows_for : Counts → Mesh → Bool
rows_for c t = leb c.points (point_rows t) && leb c.edges (edge_rows t) && leb c.faces (face_rows t)

unfoldable pub first_rows : Counts → Mesh → Mesh
first_rows c t =
    mesh_of (take (c.points * position_width) t.positions) (take (c.points * point_width) t.points) (take (c.edges * edge_width) t.edges)
    (take c.edges t.intervals) (take (c.faces * face_width) t.faces)

unfoldable pub zeroed_rows : Counts → Mesh → Mesh
unfolding zeroed
zeroed_rows c t =
    mesh_of (zeroed (c.points * position_width) (of_bits binary64 0) t.positions) (zeroed (c.points * point_width) 0 t.points)
    (zeroed (c.edges * edge_width) 0 t.edges) (zeroed c.edges (of_bits binary64 0) t.intervals)
    (zeroed (c.faces * face_width) 0 t.faces)

unfoldable pub over_rows : Counts → Mesh → Mesh → Mesh
unfolding over
over_rows c n t =
    mesh_of (over (c.points * position_width) n.positions t.positions) (over (c.points * point_width) n.points t.points)
    (over (c.edges * edge_width) n.edges t.edges) (over c.edges n.intervals t.intervals)
    (over (c.faces * face_width) n.faces t.faces)
