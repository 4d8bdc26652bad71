-- The rules computed on recorded meshes: every position after one step is bit for bit what the Rust gives. With even intervals the
-- order of rounding does not show; the uneven cube shows it, the two triangles have valence 2 and windows that overlap
-- themselves, and the small cube meets both small denominators of an edge. Each stage is computed from the literal positions of
-- the one before, and the cube's point 0 from the mesh alone, in both editions. With its intervals all 0 no face point of the cube is finite.
use mathlib.Core.Path.{◌≡◌, refl}
use mathlib.Core.List.{List, [], ◌∷◌, map}
use Prim.Native.Nat.{ℕ, zero, suc}
use lib.ListN.{get_or, replicate}
use lib.Ieee.{Float, add, sub, mul, div, neg, le, of_int, of_bits, binary64}
use Rattle.positions.specs.declared.Position.{Position}
use Rattle.positions.specs.declared.Placed.{Placed}
use Rattle.positions.specs.declared.Placed.TheVariants.{At, NotFinite}
use Rattle.positions.specs.Position.{zeros, placed_at}
use Rattle.tables.specs.Mesh.{Mesh}
use Rattle.audited_meshes.specs.Walks.{face_walk}
use Rattle.audited_meshes.specs.Folds.{again}
use Rattle.position_rules.specs.Intervals.{acw_about, cw_about, three_terms}
use Rattle.refined_meshes.specs.declared.Edition.TheVariants.{First, Second}
use Rattle.refined_meshes.specs.Turns.{turns}
use Rattle.position_rules.specs.FacePoint.{six_terms, window_weight, window_sum, face_point_over, face_point_about, face_point_in}
use Rattle.position_rules.specs.EdgePoint.{shares, edge_middle, edge_point}
use Rattle.position_rules.specs.OldPoint.{radial_edge, edge_weight, face_weight, radial_terms, radial_sum, old_point}
use Rattle.position_rules.specs.Rules.{edge_point_in, old_point_in}

-- numbers by their bits
abbrev numbers : List ℕ → List Float
numbers bs = map (of_bits binary64) bs

-- three finite coordinates, by their bits
abbrev at : ℕ → ℕ → ℕ → Placed
at x y z = At (of_bits binary64 x) (of_bits binary64 y) (of_bits binary64 z)

-- the answers for the numbers from i on, n of them
abbrev answers : (ℕ → Position) → ℕ → ℕ → List Placed
answers rule i zero = []
answers rule i (suc n) = placed_at (rule i) ∷ answers rule (suc i) n

-- the position of an answer
abbrev place_of : Placed → Position
place_of (At x y z) = record { x = x; y = y; z = z }
place_of NotFinite = zeros

abbrev place_in : List Placed → ℕ → Position
place_in placed i = place_of (get_or placed i NotFinite)

-- the rules with the points of the faces, and of the edges and faces, as listed
abbrev edge_rule : Mesh → List Placed → ℕ → Position
edge_rule m fs = edge_point m.positions m.edges m.intervals (place_in fs)

abbrev old_rule : Mesh → List Placed → List Placed → ℕ → Position
old_rule m es fs = old_point m.positions m.points m.edges m.intervals (place_in es) (place_in fs)

-- ---- document 01's cube, all intervals 1

abbrev cube : Mesh
cube =
    record {
      positions =
          numbers
          (0xbff0000000000000 ∷ 0xbff0000000000000 ∷ 0xbff0000000000000 ∷ 0x3ff0000000000000 ∷ 0xbff0000000000000 ∷ 0xbff0000000000000
          ∷ 0xbff0000000000000 ∷ 0x3ff0000000000000 ∷ 0xbff0000000000000 ∷ 0x3ff0000000000000 ∷ 0x3ff0000000000000 ∷ 0xbff0000000000000
          ∷ 0xbff0000000000000 ∷ 0xbff0000000000000 ∷ 0x3ff0000000000000 ∷ 0x3ff0000000000000 ∷ 0xbff0000000000000 ∷ 0x3ff0000000000000
          ∷ 0xbff0000000000000 ∷ 0x3ff0000000000000 ∷ 0x3ff0000000000000 ∷ 0x3ff0000000000000 ∷ 0x3ff0000000000000 ∷ 0x3ff0000000000000 ∷ []);
      points =
          3 ∷ 9 ∷ 1 ∷ 3 ∷ 8 ∷ 1 ∷ 3 ∷ 11 ∷ 1 ∷ 3 ∷ 10 ∷ 1 ∷ 3 ∷ 9 ∷ 1 ∷ 3 ∷ 8 ∷ 1 ∷ 3 ∷ 11 ∷ 1 ∷ 3 ∷ 10 ∷ 1 ∷ [];
      edges =
          2 ∷ 3 ∷ 0 ∷ 3 ∷ 3 ∷ 1 ∷ 10 ∷ 11 ∷ 3 ∷ 1 ∷ 0 ∷ 5 ∷ 0 ∷ 2 ∷ 8 ∷ 10
          ∷ 1 ∷ 0 ∷ 0 ∷ 2 ∷ 1 ∷ 3 ∷ 9 ∷ 8 ∷ 0 ∷ 2 ∷ 0 ∷ 4 ∷ 2 ∷ 0 ∷ 11 ∷ 9
          ∷ 5 ∷ 7 ∷ 1 ∷ 5 ∷ 7 ∷ 5 ∷ 10 ∷ 8 ∷ 7 ∷ 6 ∷ 1 ∷ 3 ∷ 4 ∷ 6 ∷ 11 ∷ 10
          ∷ 6 ∷ 4 ∷ 1 ∷ 4 ∷ 5 ∷ 7 ∷ 9 ∷ 11 ∷ 4 ∷ 5 ∷ 1 ∷ 2 ∷ 6 ∷ 4 ∷ 8 ∷ 9
          ∷ 1 ∷ 5 ∷ 2 ∷ 5 ∷ 2 ∷ 7 ∷ 4 ∷ 1 ∷ 4 ∷ 0 ∷ 2 ∷ 4 ∷ 7 ∷ 2 ∷ 3 ∷ 6
          ∷ 7 ∷ 3 ∷ 3 ∷ 5 ∷ 5 ∷ 0 ∷ 1 ∷ 4 ∷ 2 ∷ 6 ∷ 3 ∷ 4 ∷ 0 ∷ 5 ∷ 6 ∷ 3 ∷ [];
      intervals =
          numbers
          (0x3ff0000000000000 ∷ 0x3ff0000000000000 ∷ 0x3ff0000000000000 ∷ 0x3ff0000000000000 ∷ 0x3ff0000000000000 ∷ 0x3ff0000000000000
          ∷ 0x3ff0000000000000 ∷ 0x3ff0000000000000 ∷ 0x3ff0000000000000 ∷ 0x3ff0000000000000 ∷ 0x3ff0000000000000 ∷ 0x3ff0000000000000 ∷ []);
      faces =
          0 ∷ 4294967295 ∷ 4294967295 ∷ 4294967295 ∷ 4294967295 ∷ 4 ∷ 4294967295 ∷ 4294967295 ∷ 4294967295 ∷ 4294967295
          ∷ 8 ∷ 4294967295 ∷ 4294967295 ∷ 4294967295 ∷ 4294967295 ∷ 5 ∷ 4294967295 ∷ 4294967295 ∷ 4294967295 ∷ 4294967295
          ∷ 6 ∷ 4294967295 ∷ 4294967295 ∷ 4294967295 ∷ 4294967295 ∷ 10 ∷ 4294967295 ∷ 4294967295 ∷ 4294967295 ∷ 4294967295 ∷ [];
    }

abbrev cube-face_points : List Placed
cube-face_points =
    at 0x0000000000000000 0x0000000000000000 0xbff0000000000000
    ∷ at 0x0000000000000000 0x0000000000000000 0x3ff0000000000000
    ∷ at 0x0000000000000000 0xbff0000000000000 0x0000000000000000
    ∷ at 0x0000000000000000 0x3ff0000000000000 0x0000000000000000
    ∷ at 0xbff0000000000000 0x0000000000000000 0x0000000000000000
    ∷ at 0x3ff0000000000000 0x0000000000000000 0x0000000000000000
    ∷ []

abbrev cube-edge_points : List Placed
cube-edge_points =
    at 0x0000000000000000 0x3fe8000000000000 0xbfe8000000000000
    ∷ at 0x3fe8000000000000 0x0000000000000000 0xbfe8000000000000
    ∷ at 0x0000000000000000 0xbfe8000000000000 0xbfe8000000000000
    ∷ at 0xbfe8000000000000 0x0000000000000000 0xbfe8000000000000
    ∷ at 0x3fe8000000000000 0x0000000000000000 0x3fe8000000000000
    ∷ at 0x0000000000000000 0x3fe8000000000000 0x3fe8000000000000
    ∷ at 0xbfe8000000000000 0x0000000000000000 0x3fe8000000000000
    ∷ at 0x0000000000000000 0xbfe8000000000000 0x3fe8000000000000
    ∷ at 0x3fe8000000000000 0xbfe8000000000000 0x0000000000000000
    ∷ at 0xbfe8000000000000 0xbfe8000000000000 0x0000000000000000
    ∷ at 0x3fe8000000000000 0x3fe8000000000000 0x0000000000000000
    ∷ at 0xbfe8000000000000 0x3fe8000000000000 0x0000000000000000
    ∷ []

abbrev cube-old_points : List Placed
cube-old_points =
    at 0xbfdc71c71c71c71c 0xbfdc71c71c71c71c 0xbfdc71c71c71c71c
    ∷ at 0x3fdc71c71c71c71c 0xbfdc71c71c71c71c 0xbfdc71c71c71c71c
    ∷ at 0xbfdc71c71c71c71c 0x3fdc71c71c71c71c 0xbfdc71c71c71c71c
    ∷ at 0x3fdc71c71c71c71c 0x3fdc71c71c71c71c 0xbfdc71c71c71c71c
    ∷ at 0xbfdc71c71c71c71c 0xbfdc71c71c71c71c 0x3fdc71c71c71c71c
    ∷ at 0x3fdc71c71c71c71c 0xbfdc71c71c71c71c 0x3fdc71c71c71c71c
    ∷ at 0xbfdc71c71c71c71c 0x3fdc71c71c71c71c 0x3fdc71c71c71c71c
    ∷ at 0x3fdc71c71c71c71c 0x3fdc71c71c71c71c 0x3fdc71c71c71c71c
    ∷ []

cube-faces : answers (face_point_in cube 12) 0 6 ≡ cube-face_points
unfolding face_point_in face_point_about face_point_over window_sum window_weight six_terms three_terms acw_about cw_about turns again face_walk add sub mul div neg of_bits
cube-faces = refl

cube-edges : answers (edge_rule cube cube-face_points) 0 12 ≡ cube-edge_points
unfolding edge_point edge_middle shares three_terms acw_about cw_about add sub mul div neg le of_bits
cube-edges = refl

cube-olds : answers (old_rule cube cube-edge_points cube-face_points) 0 8 ≡ cube-old_points
unfolding old_point radial_sum radial_terms radial_edge edge_weight face_weight acw_about cw_about turns add sub mul div neg le of_bits of_int
cube-olds = refl

-- all of it at once
cube-point-0 : placed_at (old_point_in First cube 12 0) ≡ at 0xbfdc71c71c71c71c 0xbfdc71c71c71c71c 0xbfdc71c71c71c71c
unfolding old_point_in edge_point_in old_point radial_sum radial_terms radial_edge edge_weight face_weight edge_point edge_middle
    shares face_point_in face_point_about face_point_over window_sum window_weight six_terms three_terms acw_about cw_about turns again
    face_walk add sub mul div neg of_bits le of_int
cube-point-0 = refl

-- "The cube's corner 0 then goes to -5/9, correctly rounded from -15/27" (document 02, §5): 0xbfe1c71c71c71c72 is the binary64 number
-- nearest -5/9
cube-point-0-published : placed_at (old_point_in Second cube 12 0) ≡ at 0xbfe1c71c71c71c72 0xbfe1c71c71c71c72 0xbfe1c71c71c71c72
unfolding old_point_in old_point radial_sum radial_terms radial_edge edge_weight face_weight edge_middle
    face_point_in face_point_about face_point_over window_sum window_weight six_terms three_terms acw_about cw_about turns again
    face_walk add sub mul div neg of_bits le of_int
cube-point-0-published = refl

-- all intervals 0
abbrev zero_cube : Mesh
zero_cube =
    record {
      positions = cube.positions;
      points = cube.points;
      edges = cube.edges;
      intervals = numbers (replicate 12 0);
      faces = cube.faces;
    }

zero_cube-faces : answers (face_point_in zero_cube 12) 0 6 ≡ replicate 6 NotFinite
unfolding face_point_in face_point_about face_point_over window_sum window_weight six_terms three_terms acw_about cw_about turns again face_walk add sub mul div neg of_bits
zero_cube-faces = refl

-- ---- the cube, random intervals

abbrev uneven : Mesh
uneven =
    record {
      positions = cube.positions;
      points = cube.points;
      edges = cube.edges;
      intervals =
          numbers
          (0x4026400000000000 ∷ 0x4049000000000000 ∷ 0x403e600000000000 ∷ 0x403ec00000000000 ∷ 0x400a000000000000 ∷ 0x402c800000000000
          ∷ 0x0000000000000000 ∷ 0x4031800000000000 ∷ 0x3ffe000000000000 ∷ 0x3fe4000000000000 ∷ 0x3fd0000000000000 ∷ 0x4002000000000000 ∷ []);
      faces = cube.faces;
    }

abbrev uneven-face_points : List Placed
uneven-face_points =
    at 0xbfc35de23e96d465 0x3fc3c0628041aad6 0xbff0000000000000
    ∷ at 0xbfb3a06d3a06d3a0 0x3fb62fc962fc9630 0x3ff0000000000000
    ∷ at 0xbfc15219a277dbf9 0xbff0000000000000 0x3fe1e23559074652
    ∷ at 0xbfc0f1cd9fd40929 0x3ff0000000000000 0x3fe05099dff15863
    ∷ at 0xbff0000000000000 0x3fc18990daa5cece 0x3fe03a4e5947f8b6
    ∷ at 0x3ff0000000000000 0x3fc1e9bd37a6f4df 0x3fe1f4de9bd37a6f
    ∷ []

abbrev uneven-edge_points : List Placed
uneven-edge_points =
    at 0x3f7a289c8a4323b0 0x3fe2e01217d09c4e 0xbfef46490766775f
    ∷ at 0x3fdcf3f1121f9d13 0x3f70ed59e41a7cd2 0xbfeec885f2ab4311
    ∷ at 0xbf7154401031095d 0xbfdc2bdee396e624 0xbfef404150271915
    ∷ at 0xbfe34cf54f6defb9 0xbf7b339646fefed3 0xbfee700c9b08d893
    ∷ at 0x3fdfb53bf0ef9d0e 0xbf8f78c56fc2b268 0x3fef8f3cd3c40909
    ∷ at 0xbfa07c1241c15b1a 0x3fe7bd83a2cd18c8 0x3fec971652131336
    ∷ at 0xbfe2740da740da74 0x3f967c15e35a65fd 0x3fef585ebf5114f4
    ∷ at 0x3f70ebc6117cd818 0xbfe62c3994d9dc16 0x3fecee64a40cb63e
    ∷ at 0x3fe76674471e0273 0xbfe6654d55cf6eef 0xbf71594d87070140
    ∷ at 0xbfe7936ce39d9308 0xbfe8e295b6a238bc 0xbf6ee27d9bc474c0
    ∷ at 0x3fea2715ab75c46a 0x3fe6ae24103582d3 0xbf6baed58c82eb00
    ∷ at 0xbfe9b9484565da9a 0x3fe86f562dc33b10 0x3f9af8957ee54544
    ∷ []

abbrev uneven-old_points : List Placed
uneven-old_points =
    at 0xbfdebced340edbff 0xbfd9edded2564d00 0xbfdf315622ab59c0
    ∷ at 0x3fd72847ed0a03bb 0xbfd92aa27f281201 0xbfdedcbd76e6132e
    ∷ at 0xbfdce92c9a0c31be 0x3fe1b4f833a952e3 0xbfdd33b773278a97
    ∷ at 0x3fd959ba3582a9ef 0x3fe2581cb2f50cb4 0xbfdf6fba832ecaba
    ∷ at 0xbfe45c18a3980dd9 0xbfd8a72a3098f857 0x3fe03a9e3dc8e62b
    ∷ at 0x3fdefa27fae14f8d 0xbfd7b723d7c52208 0x3fe12c39c1c4bb86
    ∷ at 0xbfe354116e2f6d81 0x3fdae8105e5084fc 0x3fe22c92fb749f80
    ∷ at 0x3fe1a78a1690cb78 0x3fd833eda83e0d02 0x3fdfefb039444f30
    ∷ []

uneven-faces : answers (face_point_in uneven 12) 0 6 ≡ uneven-face_points
unfolding face_point_in face_point_about face_point_over window_sum window_weight six_terms three_terms acw_about cw_about turns again face_walk add sub mul div neg of_bits
uneven-faces = refl

uneven-edges : answers (edge_rule uneven uneven-face_points) 0 12 ≡ uneven-edge_points
unfolding edge_point edge_middle shares three_terms acw_about cw_about add sub mul div neg le of_bits
uneven-edges = refl

uneven-olds : answers (old_rule uneven uneven-edge_points uneven-face_points) 0 8 ≡ uneven-old_points
unfolding old_point radial_sum radial_terms radial_edge edge_weight face_weight acw_about cw_about turns add sub mul div neg le of_bits of_int
uneven-olds = refl

-- ---- document 01's two triangles

abbrev triangles : Mesh
triangles =
    record {
      positions =
          numbers
          (0x0000000000000000 ∷ 0x0000000000000000 ∷ 0x0000000000000000 ∷ 0x3ff0000000000000 ∷ 0x0000000000000000 ∷ 0x0000000000000000
          ∷ 0x0000000000000000 ∷ 0x3ff0000000000000 ∷ 0x0000000000000000 ∷ []);
      points =
          2 ∷ 2 ∷ 1 ∷ 2 ∷ 2 ∷ 1 ∷ 2 ∷ 1 ∷ 1 ∷ [];
      edges =
          1 ∷ 2 ∷ 0 ∷ 1 ∷ 2 ∷ 1 ∷ 1 ∷ 2 ∷ 2 ∷ 0 ∷ 0 ∷ 1 ∷ 0 ∷ 2 ∷ 2 ∷ 0
          ∷ 0 ∷ 1 ∷ 0 ∷ 1 ∷ 1 ∷ 0 ∷ 0 ∷ 1 ∷ [];
      intervals =
          numbers
          (0x3ff0000000000000 ∷ 0x3ff0000000000000 ∷ 0x4000000000000000 ∷ []);
      faces =
          0 ∷ 4294967295 ∷ 4294967295 ∷ 4294967295 ∷ 4294967295 ∷ 0 ∷ 4294967295 ∷ 4294967295 ∷ 4294967295 ∷ 4294967295 ∷ [];
    }

abbrev triangles-face_points : List Placed
triangles-face_points =
    at 0x3fd2492492492492 0x3fdb6db6db6db6db 0x0000000000000000
    ∷ at 0x3fd2492492492492 0x3fdb6db6db6db6db 0x0000000000000000
    ∷ []

abbrev triangles-edge_points : List Placed
triangles-edge_points =
    at 0x3fd9249249249248 0x3fddb6db6db6db6e 0x0000000000000000
    ∷ at 0x3fc2492492492492 0x3fddb6db6db6db6e 0x0000000000000000
    ∷ at 0x3fd9249249249248 0x3fcb6db6db6db6db 0x0000000000000000
    ∷ []

abbrev triangles-old_points : List Placed
triangles-old_points =
    at 0x3fda492492492490 0x3fe1b6db6db6db6d 0x0000000000000000
    ∷ at 0x3fa2492492492480 0x3fe1b6db6db6db6d 0x0000000000000000
    ∷ at 0x3fda492492492493 0x3fc6db6db6db6db4 0x0000000000000000
    ∷ []

triangles-faces : answers (face_point_in triangles 3) 0 2 ≡ triangles-face_points
unfolding face_point_in face_point_about face_point_over window_sum window_weight six_terms three_terms acw_about cw_about turns again face_walk add sub mul div neg of_bits
triangles-faces = refl

triangles-edges : answers (edge_rule triangles triangles-face_points) 0 3 ≡ triangles-edge_points
unfolding edge_point edge_middle shares three_terms acw_about cw_about add sub mul div neg le of_bits
triangles-edges = refl

triangles-olds : answers (old_rule triangles triangles-edge_points triangles-face_points) 0 3 ≡ triangles-old_points
unfolding old_point radial_sum radial_terms radial_edge edge_weight face_weight acw_about cw_about turns add sub mul div neg le of_bits of_int
triangles-olds = refl

-- ---- the cube, intervals t/16 and t/8: some denominators are small

abbrev small : Mesh
small =
    record {
      positions =
          numbers
          (0xbff0000000000000 ∷ 0xbff0000000000000 ∷ 0xbff0000000000000 ∷ 0x3ff0000000000000 ∷ 0xbff0000000000000 ∷ 0xbff0000000000000
          ∷ 0xbff0000000000000 ∷ 0x3ff0000000000000 ∷ 0xbff0000000000000 ∷ 0x3ff0000000000000 ∷ 0x3ff0000000000000 ∷ 0xbff0000000000000
          ∷ 0xbff0000000000000 ∷ 0xbff0000000000000 ∷ 0x3ff0000000000000 ∷ 0x3ff0000000000000 ∷ 0xbff0000000000000 ∷ 0x3ff0000000000000
          ∷ 0xbff0000000000000 ∷ 0x3ff0000000000000 ∷ 0x3ff0000000000000 ∷ 0x3ff0000000000000 ∷ 0x3ff0000000000000 ∷ 0x3ff0000000000000 ∷ []);
      points =
          3 ∷ 9 ∷ 1 ∷ 3 ∷ 8 ∷ 1 ∷ 3 ∷ 11 ∷ 1 ∷ 3 ∷ 10 ∷ 1 ∷ 3 ∷ 9 ∷ 1 ∷ 3 ∷ 8 ∷ 1 ∷ 3 ∷ 11 ∷ 1 ∷ 3 ∷ 10 ∷ 1 ∷ [];
      edges =
          2 ∷ 3 ∷ 0 ∷ 3 ∷ 3 ∷ 1 ∷ 10 ∷ 11 ∷ 3 ∷ 1 ∷ 0 ∷ 5 ∷ 0 ∷ 2 ∷ 8 ∷ 10
          ∷ 1 ∷ 0 ∷ 0 ∷ 2 ∷ 1 ∷ 3 ∷ 9 ∷ 8 ∷ 0 ∷ 2 ∷ 0 ∷ 4 ∷ 2 ∷ 0 ∷ 11 ∷ 9
          ∷ 5 ∷ 7 ∷ 1 ∷ 5 ∷ 7 ∷ 5 ∷ 10 ∷ 8 ∷ 7 ∷ 6 ∷ 1 ∷ 3 ∷ 4 ∷ 6 ∷ 11 ∷ 10
          ∷ 6 ∷ 4 ∷ 1 ∷ 4 ∷ 5 ∷ 7 ∷ 9 ∷ 11 ∷ 4 ∷ 5 ∷ 1 ∷ 2 ∷ 6 ∷ 4 ∷ 8 ∷ 9
          ∷ 1 ∷ 5 ∷ 2 ∷ 5 ∷ 2 ∷ 7 ∷ 4 ∷ 1 ∷ 4 ∷ 0 ∷ 2 ∷ 4 ∷ 7 ∷ 2 ∷ 3 ∷ 6
          ∷ 7 ∷ 3 ∷ 3 ∷ 5 ∷ 5 ∷ 0 ∷ 1 ∷ 4 ∷ 2 ∷ 6 ∷ 3 ∷ 4 ∷ 0 ∷ 5 ∷ 6 ∷ 3 ∷ [];
      intervals =
          numbers
          (0x3e70c6f7a0b5ed8d ∷ 0x3e80c6f7a0b5ed8d ∷ 0x3e70c6f7a0b5ed8d ∷ 0x3e80c6f7a0b5ed8d ∷ 0x3e80c6f7a0b5ed8d ∷ 0x3e70c6f7a0b5ed8d
          ∷ 0x3e80c6f7a0b5ed8d ∷ 0x3e70c6f7a0b5ed8d ∷ 0x3e70c6f7a0b5ed8d ∷ 0x3e70c6f7a0b5ed8d ∷ 0x3e70c6f7a0b5ed8d ∷ 0x3e70c6f7a0b5ed8d ∷ []);
      faces =
          0 ∷ 4294967295 ∷ 4294967295 ∷ 4294967295 ∷ 4294967295 ∷ 4 ∷ 4294967295 ∷ 4294967295 ∷ 4294967295 ∷ 4294967295
          ∷ 8 ∷ 4294967295 ∷ 4294967295 ∷ 4294967295 ∷ 4294967295 ∷ 5 ∷ 4294967295 ∷ 4294967295 ∷ 4294967295 ∷ 4294967295
          ∷ 6 ∷ 4294967295 ∷ 4294967295 ∷ 4294967295 ∷ 4294967295 ∷ 10 ∷ 4294967295 ∷ 4294967295 ∷ 4294967295 ∷ 4294967295 ∷ [];
    }

abbrev small-face_points : List Placed
small-face_points =
    at 0x0000000000000000 0x0000000000000000 0xbff0000000000000
    ∷ at 0x0000000000000000 0x0000000000000000 0x3ff0000000000000
    ∷ at 0x0000000000000000 0xbff0000000000000 0x0000000000000000
    ∷ at 0x0000000000000000 0x3ff0000000000000 0x0000000000000000
    ∷ at 0xbff0000000000000 0x0000000000000000 0x0000000000000000
    ∷ at 0x3ff0000000000000 0x0000000000000000 0x0000000000000000
    ∷ []

abbrev small-edge_points : List Placed
small-edge_points =
    at 0x0000000000000000 0x3ff0000000000000 0xbff0000000000000
    ∷ at 0x3ff0000000000000 0x0000000000000000 0xbff0000000000000
    ∷ at 0x0000000000000000 0xbff0000000000000 0xbff0000000000000
    ∷ at 0xbff0000000000000 0x0000000000000000 0xbff0000000000000
    ∷ at 0x3ff0000000000000 0x0000000000000000 0x3ff0000000000000
    ∷ at 0x0000000000000000 0x3ff0000000000000 0x3ff0000000000000
    ∷ at 0xbff0000000000000 0x0000000000000000 0x3ff0000000000000
    ∷ at 0x0000000000000000 0xbff0000000000000 0x3ff0000000000000
    ∷ at 0x3ff0000000000000 0xbff0000000000000 0x0000000000000000
    ∷ at 0xbff0000000000000 0xbff0000000000000 0x0000000000000000
    ∷ at 0x3ff0000000000000 0x3ff0000000000000 0x0000000000000000
    ∷ at 0xbff0000000000000 0x3ff0000000000000 0x0000000000000000
    ∷ []

abbrev small-old_points : List Placed
small-old_points =
    at 0xbff0000000000000 0xbff0000000000000 0xbff0000000000000
    ∷ at 0x3ff0000000000000 0xbff0000000000000 0xbff0000000000000
    ∷ at 0xbff0000000000000 0x3ff0000000000000 0xbff0000000000000
    ∷ at 0x3ff0000000000000 0x3ff0000000000000 0xbff0000000000000
    ∷ at 0xbff0000000000000 0xbff0000000000000 0x3ff0000000000000
    ∷ at 0x3ff0000000000000 0xbff0000000000000 0x3ff0000000000000
    ∷ at 0xbff0000000000000 0x3ff0000000000000 0x3ff0000000000000
    ∷ at 0x3ff0000000000000 0x3ff0000000000000 0x3ff0000000000000
    ∷ []

small-faces : answers (face_point_in small 12) 0 6 ≡ small-face_points
unfolding face_point_in face_point_about face_point_over window_sum window_weight six_terms three_terms acw_about cw_about turns again face_walk add sub mul div neg of_bits
small-faces = refl

small-edges : answers (edge_rule small small-face_points) 0 12 ≡ small-edge_points
unfolding edge_point edge_middle shares three_terms acw_about cw_about add sub mul div neg le of_bits
small-edges = refl

small-olds : answers (old_rule small small-edge_points small-face_points) 0 8 ≡ small-old_points
unfolding old_point radial_sum radial_terms radial_edge edge_weight face_weight acw_about cw_about turns add sub mul div neg le of_bits of_int
small-olds = refl
