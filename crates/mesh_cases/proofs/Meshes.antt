-- The meshes on which the audit is computed: closed ones, ones that break a single clause, and copies of the tetrahedron with
-- one word spoilt. Their numbers are all 1.
--     tetrahedron cube two_triangles torus      closed
--     polygon n                                two faces of n edges back to back
--     double_edge                               two edges join the same two points
--     merged_faces                              two tetrahedra, a face of one and a face of the other in one row
--     pinched                                  two tetrahedra, a point of one and a point of the other in one row
--     bow_tie                                   two triangles that share a point, and one face round both, which passes it twice
--     with_positions .. with_faces               the tetrahedron with another table
use mathlib.Core.List.{List, [], ◌∷◌, ◌++◌}
use Prim.Native.Nat.{ℕ, zero, suc, ◌+◌, ◌*◌, ◌-◌, ◌%◌}
use lib.ListN.{replicate}
use lib.IntN.{pos}
use mathlib.Core.Bool.{false}
use lib.Ieee.{Float, fin}
use Rattle.tables.specs.Mesh.{Mesh, none}

abbrev pub unit : Float
unit = fin false 1 (pos 0)

-- a tetrahedron: 4 points, 6 edges, 4 faces
abbrev pub tetrahedron : Mesh
tetrahedron = record {
  positions = replicate 12 unit;
  points = 3 ∷ 3 ∷ 1 ∷ 3 ∷ 4 ∷ 1 ∷ 3 ∷ 5 ∷ 1 ∷ 3 ∷ 5 ∷ 1 ∷ [];
  edges = 0 ∷ 1 ∷ 0 ∷ 1 ∷ 2 ∷ 1 ∷ 4 ∷ 3 ∷ 1 ∷ 2 ∷ 0 ∷ 2 ∷ 0 ∷ 2 ∷ 5 ∷ 4 ∷ 2 ∷ 0 ∷ 0 ∷ 3 ∷ 1 ∷ 0 ∷ 3 ∷ 5 ∷ 0 ∷ 3 ∷ 1
      ∷ 3 ∷ 0 ∷ 4 ∷ 5 ∷ 2 ∷ 3 ∷ 1 ∷ 1 ∷ 2 ∷ 3 ∷ 0 ∷ 1 ∷ 5 ∷ 3 ∷ 2 ∷ 2 ∷ 3 ∷ 4 ∷ 1 ∷ 2 ∷ 3 ∷ [];
  intervals = replicate 6 unit;
  faces = 0 ∷ 0 ∷ 1 ∷ 2 ∷ 4294967295 ∷ 3 ∷ 0 ∷ 3 ∷ 1 ∷ 4294967295 ∷ 4 ∷ 1 ∷ 3 ∷ 2 ∷ 4294967295 ∷ 5 ∷ 2 ∷ 3 ∷ 0
      ∷ 4294967295 ∷ [];
}

-- document 01's cube: 8 points, 12 edges, 6 faces
abbrev pub cube : Mesh
cube = record {
  positions = replicate 24 unit;
  points = 3 ∷ 9 ∷ 1 ∷ 3 ∷ 8 ∷ 1 ∷ 3 ∷ 10 ∷ 1 ∷ 3 ∷ 11 ∷ 1 ∷ 3 ∷ 9 ∷ 1 ∷ 3 ∷ 8 ∷ 1 ∷ 3 ∷ 10 ∷ 1 ∷ 3 ∷ 11 ∷ 1 ∷ [];
  edges = 0 ∷ 2 ∷ 0 ∷ 4 ∷ 3 ∷ 1 ∷ 10 ∷ 9 ∷ 2 ∷ 3 ∷ 0 ∷ 3 ∷ 0 ∷ 2 ∷ 11 ∷ 10 ∷ 3 ∷ 1 ∷ 0 ∷ 5 ∷ 1 ∷ 3 ∷ 8 ∷ 11 ∷ 1 ∷ 0
      ∷ 0 ∷ 2 ∷ 2 ∷ 0 ∷ 9 ∷ 8 ∷ 4 ∷ 5 ∷ 1 ∷ 2 ∷ 7 ∷ 5 ∷ 8 ∷ 9 ∷ 5 ∷ 7 ∷ 1 ∷ 5 ∷ 4 ∷ 6 ∷ 11 ∷ 8 ∷ 7 ∷ 6 ∷ 1 ∷ 3 ∷ 5 ∷ 7
      ∷ 10 ∷ 11 ∷ 6 ∷ 4 ∷ 1 ∷ 4 ∷ 6 ∷ 4 ∷ 9 ∷ 10 ∷ 1 ∷ 5 ∷ 2 ∷ 5 ∷ 3 ∷ 4 ∷ 5 ∷ 2 ∷ 4 ∷ 0 ∷ 2 ∷ 4 ∷ 4 ∷ 3 ∷ 0 ∷ 7 ∷ 2 ∷ 6
      ∷ 3 ∷ 4 ∷ 1 ∷ 6 ∷ 7 ∷ 0 ∷ 7 ∷ 3 ∷ 3 ∷ 5 ∷ 6 ∷ 1 ∷ 2 ∷ 5 ∷ [];
  intervals = replicate 12 unit;
  faces = 0 ∷ 0 ∷ 2 ∷ 3 ∷ 1 ∷ 4 ∷ 4 ∷ 5 ∷ 7 ∷ 6 ∷ 3 ∷ 0 ∷ 1 ∷ 5 ∷ 4 ∷ 10 ∷ 2 ∷ 6 ∷ 7 ∷ 3 ∷ 9 ∷ 0 ∷ 4 ∷ 6 ∷ 2 ∷ 2 ∷ 1
      ∷ 3 ∷ 7 ∷ 5 ∷ [];
}

-- two triangles back to back: 3 points, 3 edges, 2 faces
abbrev pub two_triangles : Mesh
two_triangles =
    record {
      positions = replicate 9 unit;
      points = 2 ∷ 2 ∷ 1 ∷ 2 ∷ 1 ∷ 1 ∷ 2 ∷ 2 ∷ 1 ∷ [];
      edges = 0 ∷ 1 ∷ 0 ∷ 1 ∷ 2 ∷ 1 ∷ 1 ∷ 2 ∷ 1 ∷ 2 ∷ 0 ∷ 1 ∷ 0 ∷ 2 ∷ 2 ∷ 0 ∷ 2 ∷ 0 ∷ 0 ∷ 1 ∷ 1 ∷ 0 ∷ 0 ∷ 1 ∷ [];
      intervals = replicate 3 unit;
      faces = 0 ∷ 0 ∷ 1 ∷ 2 ∷ 4294967295 ∷ 2 ∷ 0 ∷ 2 ∷ 1 ∷ 4294967295 ∷ [];
    }

-- three by three squares: 9 points, 18 edges, 9 faces
abbrev pub torus : Mesh
torus = record {
  positions = replicate 27 unit;
  points = 4 ∷ 15 ∷ 0 ∷ 4 ∷ 16 ∷ 0 ∷ 4 ∷ 17 ∷ 0 ∷ 4 ∷ 9 ∷ 0 ∷ 4 ∷ 11 ∷ 0 ∷ 4 ∷ 13 ∷ 0 ∷ 4 ∷ 15 ∷ 0 ∷ 4 ∷ 16 ∷ 0 ∷ 4
      ∷ 17 ∷ 0 ∷ [];
  edges = 0 ∷ 3 ∷ 0 ∷ 2 ∷ 3 ∷ 1 ∷ 7 ∷ 8 ∷ 3 ∷ 4 ∷ 0 ∷ 3 ∷ 0 ∷ 2 ∷ 11 ∷ 9 ∷ 4 ∷ 1 ∷ 0 ∷ 1 ∷ 1 ∷ 3 ∷ 6 ∷ 4 ∷ 1 ∷ 0 ∷ 0
      ∷ 6 ∷ 2 ∷ 0 ∷ 15 ∷ 16 ∷ 4 ∷ 5 ∷ 1 ∷ 4 ∷ 2 ∷ 5 ∷ 13 ∷ 11 ∷ 5 ∷ 2 ∷ 1 ∷ 2 ∷ 4 ∷ 6 ∷ 8 ∷ 7 ∷ 2 ∷ 1 ∷ 1 ∷ 7 ∷ 5 ∷ 2 ∷ 16
      ∷ 17 ∷ 5 ∷ 3 ∷ 2 ∷ 5 ∷ 5 ∷ 0 ∷ 9 ∷ 13 ∷ 0 ∷ 2 ∷ 2 ∷ 8 ∷ 0 ∷ 5 ∷ 17 ∷ 15 ∷ 3 ∷ 6 ∷ 3 ∷ 5 ∷ 1 ∷ 10 ∷ 14 ∷ 7 ∷ 6 ∷ 7
      ∷ 3 ∷ 6 ∷ 9 ∷ 11 ∷ 16 ∷ 15 ∷ 7 ∷ 4 ∷ 3 ∷ 4 ∷ 10 ∷ 1 ∷ 4 ∷ 12 ∷ 7 ∷ 8 ∷ 4 ∷ 7 ∷ 11 ∷ 13 ∷ 17 ∷ 16 ∷ 8 ∷ 5 ∷ 4 ∷ 5
      ∷ 12 ∷ 4 ∷ 7 ∷ 14 ∷ 8 ∷ 6 ∷ 5 ∷ 8 ∷ 13 ∷ 9 ∷ 15 ∷ 17 ∷ 6 ∷ 0 ∷ 6 ∷ 8 ∷ 10 ∷ 3 ∷ 8 ∷ 14 ∷ 1 ∷ 7 ∷ 6 ∷ 7 ∷ 3 ∷ 10 ∷ 12
      ∷ 6 ∷ 2 ∷ 8 ∷ 7 ∷ 8 ∷ 6 ∷ 12 ∷ 14 ∷ 8 ∷ [];
  intervals = replicate 18 unit;
  faces = 0 ∷ 0 ∷ 3 ∷ 4 ∷ 1 ∷ 2 ∷ 1 ∷ 4 ∷ 5 ∷ 2 ∷ 5 ∷ 2 ∷ 5 ∷ 3 ∷ 0 ∷ 9 ∷ 3 ∷ 6 ∷ 7 ∷ 4 ∷ 11 ∷ 4 ∷ 7 ∷ 8 ∷ 5 ∷ 13 ∷ 5
      ∷ 8 ∷ 6 ∷ 3 ∷ 15 ∷ 6 ∷ 0 ∷ 1 ∷ 7 ∷ 16 ∷ 7 ∷ 1 ∷ 2 ∷ 8 ∷ 17 ∷ 8 ∷ 2 ∷ 0 ∷ 6 ∷ [];
}

-- two edges join the points 0 and 1: 4 points, 6 edges, 4 faces
abbrev pub double_edge : Mesh
double_edge = record {
  positions = replicate 12 unit;
  points = 4 ∷ 4 ∷ 0 ∷ 4 ∷ 5 ∷ 0 ∷ 2 ∷ 3 ∷ 1 ∷ 2 ∷ 5 ∷ 1 ∷ [];
  edges = 0 ∷ 1 ∷ 0 ∷ 3 ∷ 2 ∷ 3 ∷ 5 ∷ 4 ∷ 0 ∷ 1 ∷ 2 ∷ 1 ∷ 4 ∷ 5 ∷ 3 ∷ 2 ∷ 0 ∷ 2 ∷ 1 ∷ 0 ∷ 1 ∷ 3 ∷ 3 ∷ 0 ∷ 2 ∷ 1 ∷ 1
      ∷ 0 ∷ 2 ∷ 1 ∷ 0 ∷ 2 ∷ 0 ∷ 3 ∷ 3 ∷ 2 ∷ 0 ∷ 5 ∷ 5 ∷ 1 ∷ 3 ∷ 1 ∷ 3 ∷ 2 ∷ 4 ∷ 0 ∷ 1 ∷ 4 ∷ [];
  intervals = replicate 6 unit;
  faces = 0 ∷ 0 ∷ 1 ∷ 2 ∷ 4294967295 ∷ 2 ∷ 0 ∷ 2 ∷ 1 ∷ 4294967295 ∷ 1 ∷ 0 ∷ 1 ∷ 3 ∷ 4294967295 ∷ 4 ∷ 0 ∷ 3 ∷ 1
      ∷ 4294967295 ∷ [];
}

-- face 0 has the borders of two triangles: 8 points, 12 edges, 7 faces
abbrev pub merged_faces : Mesh
merged_faces = record {
  positions = replicate 24 unit;
  points = 3 ∷ 3 ∷ 1 ∷ 3 ∷ 4 ∷ 1 ∷ 3 ∷ 5 ∷ 1 ∷ 3 ∷ 5 ∷ 1 ∷ 3 ∷ 9 ∷ 1 ∷ 3 ∷ 10 ∷ 1 ∷ 3 ∷ 11 ∷ 1 ∷ 3 ∷ 11 ∷ 1 ∷ [];
  edges = 0 ∷ 1 ∷ 0 ∷ 1 ∷ 2 ∷ 1 ∷ 4 ∷ 3 ∷ 1 ∷ 2 ∷ 0 ∷ 2 ∷ 0 ∷ 2 ∷ 5 ∷ 4 ∷ 2 ∷ 0 ∷ 0 ∷ 3 ∷ 1 ∷ 0 ∷ 3 ∷ 5 ∷ 0 ∷ 3 ∷ 1
      ∷ 3 ∷ 0 ∷ 4 ∷ 5 ∷ 2 ∷ 3 ∷ 1 ∷ 1 ∷ 2 ∷ 3 ∷ 0 ∷ 1 ∷ 5 ∷ 3 ∷ 2 ∷ 2 ∷ 3 ∷ 4 ∷ 1 ∷ 2 ∷ 3 ∷ 4 ∷ 5 ∷ 0 ∷ 4 ∷ 8 ∷ 7 ∷ 10 ∷ 9
      ∷ 5 ∷ 6 ∷ 0 ∷ 5 ∷ 6 ∷ 8 ∷ 11 ∷ 10 ∷ 6 ∷ 4 ∷ 0 ∷ 6 ∷ 7 ∷ 6 ∷ 9 ∷ 11 ∷ 4 ∷ 7 ∷ 4 ∷ 6 ∷ 6 ∷ 10 ∷ 11 ∷ 8 ∷ 7 ∷ 5 ∷ 4 ∷ 5
      ∷ 9 ∷ 6 ∷ 7 ∷ 11 ∷ 7 ∷ 6 ∷ 5 ∷ 6 ∷ 10 ∷ 7 ∷ 8 ∷ 9 ∷ [];
  intervals = replicate 12 unit;
  faces = 0 ∷ 0 ∷ 1 ∷ 2 ∷ 4294967295 ∷ 3 ∷ 0 ∷ 3 ∷ 1 ∷ 4294967295 ∷ 4 ∷ 1 ∷ 3 ∷ 2 ∷ 4294967295 ∷ 5 ∷ 2 ∷ 3 ∷ 0
      ∷ 4294967295 ∷ 9 ∷ 4 ∷ 7 ∷ 5 ∷ 4294967295 ∷ 10 ∷ 5 ∷ 7 ∷ 6 ∷ 4294967295 ∷ 11 ∷ 6 ∷ 7 ∷ 4 ∷ 4294967295 ∷ [];
}

-- the walk about point 0 passes 3 of its 6 edges, and 3 stands for its valence: 7 points, 12 edges, 8 faces
abbrev pub pinched : Mesh
pinched = record {
  positions = replicate 21 unit;
  points = 3 ∷ 3 ∷ 1 ∷ 3 ∷ 4 ∷ 1 ∷ 3 ∷ 5 ∷ 1 ∷ 3 ∷ 5 ∷ 1 ∷ 3 ∷ 10 ∷ 1 ∷ 3 ∷ 11 ∷ 1 ∷ 3 ∷ 11 ∷ 1 ∷ [];
  edges = 0 ∷ 1 ∷ 0 ∷ 1 ∷ 2 ∷ 1 ∷ 4 ∷ 3 ∷ 1 ∷ 2 ∷ 0 ∷ 2 ∷ 0 ∷ 2 ∷ 5 ∷ 4 ∷ 2 ∷ 0 ∷ 0 ∷ 3 ∷ 1 ∷ 0 ∷ 3 ∷ 5 ∷ 0 ∷ 3 ∷ 1
      ∷ 3 ∷ 0 ∷ 4 ∷ 5 ∷ 2 ∷ 3 ∷ 1 ∷ 1 ∷ 2 ∷ 3 ∷ 0 ∷ 1 ∷ 5 ∷ 3 ∷ 2 ∷ 2 ∷ 3 ∷ 4 ∷ 1 ∷ 2 ∷ 3 ∷ 0 ∷ 4 ∷ 4 ∷ 5 ∷ 8 ∷ 7 ∷ 10 ∷ 9
      ∷ 4 ∷ 5 ∷ 4 ∷ 6 ∷ 6 ∷ 8 ∷ 11 ∷ 10 ∷ 5 ∷ 0 ∷ 4 ∷ 7 ∷ 7 ∷ 6 ∷ 9 ∷ 11 ∷ 0 ∷ 6 ∷ 5 ∷ 7 ∷ 6 ∷ 10 ∷ 11 ∷ 8 ∷ 6 ∷ 4 ∷ 5 ∷ 6
      ∷ 9 ∷ 6 ∷ 7 ∷ 11 ∷ 6 ∷ 5 ∷ 6 ∷ 7 ∷ 10 ∷ 7 ∷ 8 ∷ 9 ∷ [];
  intervals = replicate 12 unit;
  faces = 0 ∷ 0 ∷ 1 ∷ 2 ∷ 4294967295 ∷ 3 ∷ 0 ∷ 3 ∷ 1 ∷ 4294967295 ∷ 4 ∷ 1 ∷ 3 ∷ 2 ∷ 4294967295 ∷ 5 ∷ 2 ∷ 3 ∷ 0
      ∷ 4294967295 ∷ 6 ∷ 0 ∷ 4 ∷ 5 ∷ 4294967295 ∷ 9 ∷ 0 ∷ 6 ∷ 4 ∷ 4294967295 ∷ 10 ∷ 4 ∷ 6 ∷ 5 ∷ 4294967295 ∷ 11 ∷ 5 ∷ 6
      ∷ 0 ∷ 4294967295 ∷ [];
}

-- face 2 passes point 2 twice: 5 points, 6 edges, 3 faces
abbrev pub bow_tie : Mesh
bow_tie = record {
  positions = replicate 15 unit;
  points = 2 ∷ 2 ∷ 1 ∷ 2 ∷ 1 ∷ 1 ∷ 4 ∷ 5 ∷ 0 ∷ 2 ∷ 4 ∷ 1 ∷ 2 ∷ 5 ∷ 1 ∷ [];
  edges = 0 ∷ 1 ∷ 0 ∷ 2 ∷ 2 ∷ 1 ∷ 1 ∷ 2 ∷ 1 ∷ 2 ∷ 0 ∷ 2 ∷ 0 ∷ 2 ∷ 3 ∷ 0 ∷ 2 ∷ 0 ∷ 0 ∷ 2 ∷ 1 ∷ 0 ∷ 0 ∷ 5 ∷ 2 ∷ 3 ∷ 1
      ∷ 2 ∷ 5 ∷ 4 ∷ 4 ∷ 1 ∷ 3 ∷ 4 ∷ 1 ∷ 2 ∷ 3 ∷ 5 ∷ 5 ∷ 3 ∷ 4 ∷ 2 ∷ 1 ∷ 2 ∷ 4 ∷ 3 ∷ 2 ∷ 4 ∷ [];
  intervals = replicate 6 unit;
  faces = 0 ∷ 0 ∷ 1 ∷ 2 ∷ 4294967295 ∷ 3 ∷ 2 ∷ 3 ∷ 4 ∷ 4294967295 ∷ 2 ∷ 0 ∷ 2 ∷ 4 ∷ 3 ∷ [];
}

-- the edge rows from 0 below k of two faces of n edges back to back
abbrev pub polygon_edges : ℕ → ℕ → List ℕ
polygon_edges n zero = []
polygon_edges n (suc k) =
    let after = (k + 1) % n in
    let before = (k + (n - 1)) % n in
    polygon_edges n k ++ (k ∷ after ∷ 0 ∷ 1 ∷ before ∷ after ∷ after ∷ before ∷ [])

-- the point rows from 0 below k
abbrev pub polygon_points : ℕ → List ℕ
polygon_points zero = []
polygon_points (suc k) = polygon_points k ++ (2 ∷ k ∷ 1 ∷ [])

abbrev pub polygon : ℕ → Mesh
polygon n =
    record {
      positions = replicate (3 * n) unit;
      points = polygon_points n;
      edges = polygon_edges n n;
      intervals = replicate n unit;
      faces = 0 ∷ none ∷ none ∷ none ∷ none ∷ 0 ∷ none ∷ none ∷ none ∷ none ∷ [];
    }

abbrev pub with_positions : List Float → Mesh
with_positions t =
    record {
      positions = t;
      points = tetrahedron.points;
      edges = tetrahedron.edges;
      intervals = tetrahedron.intervals;
      faces = tetrahedron.faces;
    }

abbrev pub with_points : List ℕ → Mesh
with_points t =
    record {
      positions = tetrahedron.positions;
      points = t;
      edges = tetrahedron.edges;
      intervals = tetrahedron.intervals;
      faces = tetrahedron.faces;
    }

abbrev pub with_edges : List ℕ → Mesh
with_edges t =
    record {
      positions = tetrahedron.positions;
      points = tetrahedron.points;
      edges = t;
      intervals = tetrahedron.intervals;
      faces = tetrahedron.faces;
    }

abbrev pub with_intervals : List Float → Mesh
with_intervals t =
    record {
      positions = tetrahedron.positions;
      points = tetrahedron.points;
      edges = tetrahedron.edges;
      intervals = t;
      faces = tetrahedron.faces;
    }

abbrev pub with_faces : List ℕ → Mesh
with_faces t =
    record {
      positions = tetrahedron.positions;
      points = tetrahedron.points;
      edges = tetrahedron.edges;
      intervals = tetrahedron.intervals;
      faces = t;
    }
