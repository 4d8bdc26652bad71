-- The five tables of a mesh that are lent together.
--     tables_of t      what they hold
use Rattle.tables.specs.Mesh.{Mesh, mesh_of}
use Rattle.tables.specs.declared.MeshTables.{MeshTables}

abbrev pub tables_of : MeshTables → Mesh
tables_of t = mesh_of t.positions.now t.points.now t.edges.now t.intervals.now t.faces.now
