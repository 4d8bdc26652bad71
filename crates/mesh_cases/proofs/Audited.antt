-- The audit computed: true on closed meshes, false on spoilt ones, each with the clauses that it breaks. For every clause there
-- is a mesh that breaks it alone, but for the links: a mesh with a wrong link has a wrong walk too.
use mathlib.Core.Path.{◌≡◌, refl}
use mathlib.Core.Bool.{Bool, true, false}
use mathlib.Core.List.{List, [], ◌∷◌}
use Prim.Native.Nat.{ℕ}
use lib.ListN.{set, take}
use lib.IntN.{pos}
use lib.Ieee.{nan, inf, fin}
use Rattle.tables.specs.Counted.{counts_of, rows_for}
use Rattle.tables.specs.Mesh.{Mesh}
use Rattle.audited_meshes.specs.Folds.{every}
use Rattle.audited_meshes.specs.Walks.{face_walk, point_walk}
use Rattle.audited_meshes.specs.Audit.{audit, in_range, numbers_fit, edges_differ, linked, face_walked, point_walked, corners_fit, marks_fit}
use Rattle.mesh_cases.proofs.Meshes.{tetrahedron, cube, two_triangles, torus, polygon, double_edge, merged_faces}
use Rattle.mesh_cases.proofs.Meshes.{pinched, bow_tie, with_positions, with_points, with_edges, with_intervals, with_faces}

-- the clauses of the audit in their order: counts, references, numbers, edges, links, faces, points, corners, marks
abbrev clauses : Mesh → ℕ → ℕ → ℕ → List Bool
unfolding every rows_for in_range numbers_fit edges_differ linked face_walked face_walk point_walked point_walk corners_fit marks_fit
clauses m np ne nf =
    rows_for (counts_of np ne nf) m
    ∷ in_range m np ne nf
    ∷ numbers_fit m np ne
    ∷ edges_differ m ne
    ∷ every ne (λ e. linked m e)
    ∷ every nf (λ f. face_walked m ne f (face_walk m ne f))
    ∷ every np (λ p. point_walked m ne p (point_walk m ne ne p))
    ∷ corners_fit m np nf
    ∷ marks_fit m np
    ∷ []

-- the audit refuses the mesh, and the clauses come out as listed
record Refused (m : Mesh) (np ne nf : ℕ) (cs : List Bool) : Type 0 where
  fails : audit m np ne nf ≡ false
  breaks : clauses m np ne nf ≡ cs

-- ---- closed meshes

tetrahedron-passes : audit tetrahedron 4 6 4 ≡ true
unfolding audit
tetrahedron-passes = refl

cube-passes : audit cube 8 12 6 ≡ true
unfolding audit
cube-passes = refl

two-triangles-pass : audit two_triangles 3 3 2 ≡ true
unfolding audit
two-triangles-pass = refl

torus-passes : audit torus 9 18 9 ≡ true
unfolding audit
torus-passes = refl

polygon-64-passes : audit (polygon 64) 64 64 2 ≡ true
unfolding audit
polygon-64-passes = refl

-- ---- spoilt meshes

-- The last face row lacks a word.
face-row-cut : Refused (with_faces (take 19 tetrahedron.faces)) 4 6 4 (false ∷ true ∷ true ∷ true ∷ true ∷ true ∷ true ∷ true ∷ true ∷ [])
unfolding audit
face-row-cut = record { fails = refl; breaks = refl }

-- One point fewer is counted than the edges name.
origin-out-of-range : Refused tetrahedron 3 6 4 (true ∷ false ∷ true ∷ true ∷ true ∷ true ∷ true ∷ false ∷ true ∷ [])
unfolding audit
origin-out-of-range = record { fails = refl; breaks = refl }

-- One face fewer is counted than the edges name.
face-out-of-range : Refused tetrahedron 4 6 3 (true ∷ false ∷ true ∷ true ∷ true ∷ true ∷ true ∷ true ∷ true ∷ [])
unfolding audit
face-out-of-range = record { fails = refl; breaks = refl }

-- A coordinate is not a number.
coordinate-nan : Refused (with_positions (set tetrahedron.positions 7 nan)) 4 6 4 (true ∷ true ∷ false ∷ true ∷ true ∷ true ∷ true ∷ true ∷ true ∷ [])
unfolding audit
coordinate-nan = record { fails = refl; breaks = refl }

-- An interval is infinite.
interval-infinite : Refused (with_intervals (set tetrahedron.intervals 5 (inf false))) 4 6 4 (true ∷ true ∷ false ∷ true ∷ true ∷ true ∷ true ∷ true ∷ true ∷ [])
unfolding audit
interval-infinite = record { fails = refl; breaks = refl }

-- An interval is -0: its sign bit is set.
interval-negative-zero : Refused (with_intervals (set tetrahedron.intervals 2 (fin true 0 (pos 0)))) 4 6 4 (true ∷ true ∷ false ∷ true ∷ true ∷ true ∷ true ∷ true ∷ true ∷ [])
unfolding audit
interval-negative-zero = record { fails = refl; breaks = refl }

-- Edge 0 ends where it begins.
ends_same : Refused (with_edges (set tetrahedron.edges 1 0)) 4 6 4 (true ∷ true ∷ true ∷ false ∷ false ∷ false ∷ false ∷ true ∷ true ∷ [])
unfolding audit
ends_same = record { fails = refl; breaks = refl }

-- Edge 0 has one face on both sides.
sides-same : Refused (with_edges (set tetrahedron.edges 3 0)) 4 6 4 (true ∷ true ∷ true ∷ false ∷ false ∷ false ∷ true ∷ true ∷ true ∷ [])
unfolding audit
sides-same = record { fails = refl; breaks = refl }

-- Two edges join the same two points.
double-edge : Refused double_edge 4 6 4 (true ∷ true ∷ true ∷ false ∷ true ∷ true ∷ true ∷ true ∷ true ∷ [])
unfolding audit
double-edge = record { fails = refl; breaks = refl }

-- Edge 0 runs the other way.
direction-turned : Refused (with_edges (set (set tetrahedron.edges 0 1) 1 0)) 4 6 4 (true ∷ true ∷ true ∷ true ∷ false ∷ false ∷ false ∷ true ∷ true ∷ [])
unfolding audit
direction-turned = record { fails = refl; breaks = refl }

-- LeftCw of edge 0 goes to edge 1.
link-wrong : Refused (with_edges (set tetrahedron.edges 4 1)) 4 6 4 (true ∷ true ∷ true ∷ true ∷ false ∷ true ∷ false ∷ true ∷ true ∷ [])
unfolding audit
link-wrong = record { fails = refl; breaks = refl }

-- The walk about face 0 passes 3 of its 6 edges.
face-edges-missed : Refused merged_faces 8 12 7 (true ∷ true ∷ true ∷ true ∷ true ∷ false ∷ true ∷ true ∷ true ∷ [])
unfolding audit
face-edges-missed = record { fails = refl; breaks = refl }

-- Face 2 passes a point twice.
face-point-twice : Refused bow_tie 5 6 3 (true ∷ true ∷ true ∷ true ∷ true ∷ false ∷ true ∷ true ∷ true ∷ [])
unfolding audit
face-point-twice = record { fails = refl; breaks = refl }

-- Face 0 starts at an edge that does not border it.
face-start-elsewhere : Refused (with_faces (set tetrahedron.faces 0 5)) 4 6 4 (true ∷ true ∷ true ∷ true ∷ true ∷ false ∷ true ∷ true ∷ true ∷ [])
unfolding audit
face-start-elsewhere = record { fails = refl; breaks = refl }

-- Two faces of 65 edges.
face-of-65 : Refused (polygon 65) 65 65 2 (true ∷ true ∷ true ∷ true ∷ true ∷ false ∷ true ∷ true ∷ true ∷ [])
unfolding audit
face-of-65 = record { fails = refl; breaks = refl }

-- Two faces of 2 edges.
face-of-2 : Refused (polygon 2) 2 2 2 (true ∷ true ∷ true ∷ false ∷ true ∷ false ∷ true ∷ true ∷ true ∷ [])
unfolding audit
face-of-2 = record { fails = refl; breaks = refl }

-- The walk about point 0 passes 3 of its 6 edges.
point-edges-missed : Refused pinched 7 12 8 (true ∷ true ∷ true ∷ true ∷ true ∷ true ∷ false ∷ true ∷ true ∷ [])
unfolding audit
point-edges-missed = record { fails = refl; breaks = refl }

-- The valence of point 0 is not the number of its edges.
valence-wrong : Refused (with_points (set tetrahedron.points 0 4)) 4 6 4 (true ∷ true ∷ true ∷ true ∷ true ∷ true ∷ false ∷ true ∷ true ∷ [])
unfolding audit
valence-wrong = record { fails = refl; breaks = refl }

-- Point 0 starts at an edge that does not touch it.
point-start-elsewhere : Refused (with_points (set tetrahedron.points 1 1)) 4 6 4 (true ∷ true ∷ true ∷ true ∷ true ∷ true ∷ false ∷ true ∷ true ∷ [])
unfolding audit
point-start-elsewhere = record { fails = refl; breaks = refl }

-- A corner is neither a point number nor the none mark.
corner-wrong : Refused (with_faces (set tetrahedron.faces 4 4)) 4 6 4 (true ∷ true ∷ true ∷ true ∷ true ∷ true ∷ true ∷ false ∷ true ∷ [])
unfolding audit
corner-wrong = record { fails = refl; breaks = refl }

-- A mark is 2.
mark-wrong : Refused (with_points (set tetrahedron.points 2 2)) 4 6 4 (true ∷ true ∷ true ∷ true ∷ true ∷ true ∷ true ∷ true ∷ false ∷ [])
unfolding audit
mark-wrong = record { fails = refl; breaks = refl }
