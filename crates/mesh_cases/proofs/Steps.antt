-- The step computed on the cube, refined in both editions and refused on each of the grounds 30 to 32. Document 01's own pieces:
-- `filed_pieces`.
--     Piece       an edition, a mesh in lent tables, an order, scratch tables, and what is to be answered
--     pieces      the cube; the cube with an interval, an order, scratch tables or tables that a ground refuses
use mathlib.Core.Path.{◌≡◌, refl}
use mathlib.Core.List.{List, [], ◌∷◌, ◌++◌, map}
use Prim.Native.Nat.{ℕ, ◌*◌}
use lib.ListN.{replicate}
use lib.Ieee.{Float, nan, add, sub, mul, div, neg, le, of_bits, of_int}
use Rattle.tables.specs.Mesh.{Mesh}
use Rattle.tables.specs.Rows.{over, zeroed}
use Rattle.tables.specs.declared.Counts.{Counts}
use Rattle.audited_meshes.specs.Walks.{face_walk}
use Rattle.audited_meshes.specs.Folds.{again}
use Rattle.refined_meshes.specs.declared.Edition.{Edition}
use Rattle.refined_meshes.specs.declared.Edition.TheVariants.{First, Second}
use Rattle.refined_meshes.specs.Turns.{turns, filled}
use Rattle.refined_meshes.specs.State.{put_edge, put_point, put_start, put_face, copied}
use Rattle.refined_meshes.specs.Split.{split_edge, split_whole}
use Rattle.refined_meshes.specs.Ring.{put_join, put_first, put_second, put_new_face, put_face_point}
use Rattle.refined_meshes.specs.Visits.{split_all, ring_of, put_ring, visit_along, visit, visits, refined_rows}
use Rattle.refined_meshes.specs.Settled.{settled_side, settled_intervals, settled, settled_rows}
use Rattle.mesh_cases.proofs.Records.{bits, cube}
use Rattle.position_rules.specs.Intervals.{acw_about, cw_about, three_terms}
use Rattle.position_rules.specs.FacePoint.{six_terms, window_weight, window_sum, face_point_over, face_point_about, face_point_in}
use Rattle.position_rules.specs.EdgePoint.{shares, edge_middle, edge_point}
use Rattle.position_rules.specs.OldPoint.{radial_edge, edge_weight, face_weight, radial_terms, radial_sum, old_point}
use Rattle.steps.specs.Step.{step_numbers, step}

record Piece : Type 0 where
  edition : Edition
  mesh : Mesh
  counts : Counts
  order : List ℕ
  scratch : Mesh
  expected : List ℕ

abbrev answered : Piece → List ℕ
answered p = step_numbers (step p.edition p.mesh p.counts p.order p.scratch).answer

-- tables of np, ne and nf rows with other things in them
abbrev used : ℕ → ℕ → ℕ → Mesh
used np ne nf =
    record {
      positions = replicate (np * 3) nan;
      points = replicate (np * 3) 7;
      edges = replicate (ne * 8) 7;
      intervals = replicate ne nan;
      faces = replicate (nf * 5) 7;
    }

-- the mesh m with the positions ps and the intervals is, in tables with further rows
abbrev in_tables : List Float → List Float → Mesh → Mesh
in_tables ps is m =
    record {
      positions = ps ++ replicate 60 nan;
      points = m.points ++ replicate 60 7;
      edges = m.edges ++ replicate 300 7;
      intervals = is ++ replicate 40 nan;
      faces = m.faces ++ replicate 100 7;
    }

-- point k of the cube has x = 1 if bit 0 of k is set, else -1, y by bit 1, z by bit 2
abbrev cube_points : List Float
cube_points =
    let o = bits 0x3ff0000000000000 in
    let n = bits 0xbff0000000000000 in
    n ∷ n ∷ n ∷ o ∷ n ∷ n ∷ n ∷ o ∷ n ∷ o ∷ o ∷ n ∷ n ∷ n ∷ o ∷ o ∷ n ∷ o ∷ n ∷ o ∷ o ∷ o ∷ o ∷ o ∷ []

-- the cube with the intervals is, in tables with further rows
abbrev cube_of : List Float → Mesh
cube_of is = in_tables cube_points is cube

-- the cube in tables of no further rows
abbrev cube_alone : Mesh
cube_alone =
    record { positions = cube_points; points = cube.points; edges = cube.edges; intervals = cube.intervals; faces = cube.faces }

abbrev cube_with : Edition → Mesh → List ℕ → Mesh → List ℕ → Piece
cube_with ed m order scratch expected =
    record { edition = ed; mesh = m; counts = record { points = 8; edges = 12; faces = 6 }; order = order; scratch = scratch; expected = expected }

abbrev numbered : List ℕ
numbered = 0 ∷ 1 ∷ 2 ∷ 3 ∷ 4 ∷ 5 ∷ []

pieces : List Piece
pieces =
    -- the cube, not in numbered order, in both editions
    cube_with First (cube_of cube.intervals) (3 ∷ 5 ∷ 0 ∷ 1 ∷ 4 ∷ 2 ∷ []) (used 27 48 24) (26 ∷ 48 ∷ 24 ∷ [])
    ∷ cube_with Second (cube_of cube.intervals) (3 ∷ 5 ∷ 0 ∷ 1 ∷ 4 ∷ 2 ∷ []) (used 27 48 24) (26 ∷ 48 ∷ 24 ∷ [])
    -- an interval with its sign bit set, whatever the order
    ∷ cube_with First (cube_of (replicate 12 (bits 0x8000000000000000))) [] (used 0 0 0) (30 ∷ [])
    -- orders that are too short, too long, name a face twice, or name no face, whatever the rows
    ∷ cube_with First (cube_of cube.intervals) (0 ∷ 1 ∷ 2 ∷ 3 ∷ 4 ∷ []) (used 0 0 0) (31 ∷ [])
    ∷ cube_with First (cube_of cube.intervals) (0 ∷ 1 ∷ 2 ∷ 3 ∷ 4 ∷ 5 ∷ 0 ∷ []) (used 26 48 24) (31 ∷ [])
    ∷ cube_with First (cube_of cube.intervals) (0 ∷ 1 ∷ 2 ∷ 3 ∷ 4 ∷ 4 ∷ []) (used 26 48 24) (31 ∷ [])
    ∷ cube_with First (cube_of cube.intervals) (0 ∷ 1 ∷ 2 ∷ 3 ∷ 4 ∷ 6 ∷ []) (used 26 48 24) (31 ∷ [])
    -- a row too few of a kind, in scratch and in the tables
    ∷ cube_with First (cube_of cube.intervals) numbered (used 25 48 24) (32 ∷ [])
    ∷ cube_with First (cube_of cube.intervals) numbered (used 26 47 24) (32 ∷ [])
    ∷ cube_with First (cube_of cube.intervals) numbered (used 26 48 23) (32 ∷ [])
    ∷ cube_with First cube_alone numbered (used 26 48 24) (32 ∷ [])
    ∷ []

pieces-answered : map answered pieces ≡ map (λ p. p.expected) pieces
unfolding pieces step over zeroed settled_rows settled settled_intervals settled_side refined_rows copied visits visit face_walk turns filled visit_along split_all split_whole
    split_edge ring_of put_ring put_join put_first put_second put_new_face put_face_point put_edge put_point put_start put_face
    face_point_in face_point_about face_point_over window_sum window_weight six_terms three_terms acw_about cw_about again edge_point
    edge_middle shares old_point radial_sum radial_terms radial_edge edge_weight face_weight add sub mul div neg le of_bits
    of_int
pieces-answered = refl
