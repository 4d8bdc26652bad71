-- Full agreement is said of something: two triangles back to back (the oracle's mesh published-triangles), refined in the orders 0, 1 and 1, 0 in the second edition. Both steps are
-- accepted, their rows differ in number, and the theorem holds of them.
--     triangles, used              the mesh in tables with room for its refinement, and scratch tables of its rows
--     both-accepted                both steps are accepted
--     first-listed, second-listed  what the two steps leave, as the oracle lists it
--     rows-differ                  the face point of face 0 stands in row 3 in the one, in row 7 in the other
--     agreed                       what the theorem says of them
use Rattle.std.specs.Prelude.{Ok}
use mathlib.Core.Path.{◌≡◌, refl}
use mathlib.Core.Bool.{true}
use mathlib.Core.List.{List, [], ◌∷◌, ◌++◌}
use Prim.Native.Nat.{ℕ, zero, suc, ◌*◌, ◌<◌}
use native.Mathlib.Omega.{arith}
use lib.Dec.{T}
use lib.ListN.{replicate}
use lib.Ieee.{Float, nan, add, sub, mul, div, neg, le, of_bits, of_int, fits, binary64}
use Rattle.tables.specs.Mesh.{Mesh, none, corner, interval}
use Rattle.tables.specs.Rows.{over, zeroed}
use Rattle.tables.specs.declared.Counts.{Counts}
use Rattle.audited_meshes.specs.Audit.{audit}
use Rattle.audited_meshes.specs.Walks.{face_walk}
use Rattle.audited_meshes.specs.Folds.{again}
use Rattle.refined_meshes.specs.declared.Edition.TheVariants.{Second}
use Rattle.refined_meshes.specs.Turns.{turns, filled}
use Rattle.refined_meshes.specs.State.{put_edge, put_point, put_start, put_face, copied}
use Rattle.refined_meshes.specs.Split.{split_edge, split_whole}
use Rattle.refined_meshes.specs.Ring.{put_join, put_first, put_second, put_new_face, put_face_point}
use Rattle.refined_meshes.specs.Visits.{split_all, ring_of, put_ring, visit_along, visit, visits, refined_rows}
use Rattle.refined_meshes.specs.Starts.{starts_put, settled_starts}
use Rattle.refined_meshes.specs.Settled.{settled_side, settled_intervals, settled, settled_rows}
use Rattle.position_rules.specs.Intervals.{acw_about, cw_about, three_terms}
use Rattle.position_rules.specs.FacePoint.{six_terms, window_weight, window_sum, face_point_over, face_point_about, face_point_in}
use Rattle.position_rules.specs.EdgePoint.{shares, edge_middle, edge_point}
use Rattle.position_rules.specs.OldPoint.{radial_edge, edge_weight, face_weight, radial_terms, radial_sum, old_point}
use Rattle.steps.specs.Step.{each_face_once, step}
use Rattle.runs.proofs.Lengths.{lengths-refl}
use Rattle.runs.specs.Runs.{Handed, outcome, lent}
use Rattle.full_agreement.specs.Agreement.{PairedStep, StepsPaired, no_pair, one_pair, Agreed}
use Rattle.full_agreement.proofs.Theorem.{theorem}

-- the number with these bits
abbrev bits : ℕ → Float
bits n = of_bits binary64 n

-- The oracle's mesh published-triangles: the edges 1 to 2, 2 to 0, 0 to 1, the face 0 on their left and the face 1 on their right; further
-- rows in the tables.
abbrev triangles : Mesh
triangles =
    record {
      positions =
          bits 0 ∷ bits 0 ∷ bits 0 ∷ bits 0x3ff0000000000000 ∷ bits 0 ∷ bits 0 ∷ bits 0 ∷ bits 0x3ff0000000000000 ∷ bits 0 ∷ replicate 15 nan;
      points = 2 ∷ 2 ∷ 1 ∷ 2 ∷ 2 ∷ 1 ∷ 2 ∷ 1 ∷ 1 ∷ replicate 15 7;
      edges =
          1 ∷ 2 ∷ 0 ∷ 1 ∷ 2 ∷ 1 ∷ 1 ∷ 2 ∷ 2 ∷ 0 ∷ 0 ∷ 1 ∷ 0 ∷ 2 ∷ 2 ∷ 0 ∷ 0 ∷ 1 ∷ 0 ∷ 1 ∷ 1 ∷ 0 ∷ 0 ∷ 1 ∷ replicate 72 7;
      intervals = bits 0x402f800000000000 ∷ bits 0x4043c00000000000 ∷ bits 0x404ba00000000000 ∷ replicate 9 nan;
      faces = 0 ∷ none ∷ none ∷ none ∷ none ∷ 0 ∷ none ∷ none ∷ none ∷ none ∷ replicate 20 7;
    }

abbrev counts : Counts
counts = record { points = 3; edges = 3; faces = 2 }

abbrev used : Mesh
used =
    record {
      positions = replicate 24 nan;
      points = replicate 24 7;
      edges = replicate 96 7;
      intervals = replicate 12 nan;
      faces = replicate 30 7;
    }

abbrev handed : List ℕ → Handed
handed order = record { edition = Second; order = order; scratch = used }

both-accepted :
    ((outcome (lent triangles counts) (handed (0 ∷ 1 ∷ []))).answer ≡ Ok (record { points = 8; edges = 12; faces = 6 }))
    × ((outcome (lent triangles counts) (handed (1 ∷ 0 ∷ []))).answer ≡ Ok (record { points = 8; edges = 12; faces = 6 }))
unfolding step over zeroed settled_rows settled settled_intervals settled_side settled_starts starts_put refined_rows copied visits visit face_walk turns filled
    visit_along split_all split_whole split_edge ring_of put_ring put_join put_first put_second put_new_face put_face_point put_edge put_point put_start put_face
    face_point_in face_point_about face_point_over window_sum window_weight six_terms three_terms acw_about cw_about again edge_point
    edge_middle shares old_point radial_sum radial_terms radial_edge edge_weight face_weight add sub mul div neg le of_bits
    of_int
both-accepted = (refl, refl)

rows-differ :
    (corner (outcome (lent triangles counts) (handed (0 ∷ 1 ∷ []))).tables 0 0 ≡ 3)
    × (corner (outcome (lent triangles counts) (handed (1 ∷ 0 ∷ []))).tables 0 0 ≡ 7)
unfolding step over zeroed settled_rows settled settled_intervals settled_side settled_starts starts_put refined_rows copied visits visit face_walk turns filled
    visit_along split_all split_whole split_edge ring_of put_ring put_join put_first put_second put_new_face put_face_point put_edge put_point put_start put_face
    face_point_in face_point_about face_point_over window_sum window_weight six_terms three_terms acw_about cw_about again edge_point
    edge_middle shares old_point radial_sum radial_terms radial_edge edge_weight face_weight add sub mul div neg le of_bits
    of_int
rows-differ = (refl, refl)

-- All rows, as the Rust with the alterations of document 02, §5 to §7 lists them.
first-listed :
    (outcome (lent triangles counts) (handed (0 ∷ 1 ∷ []))).tables
    ≡ record {
      positions =
          bits 0x3fda8bb3e16ea2fa ∷ bits 0x3fdd8d4d186dbdbe ∷ bits 0x0000000000000000 ∷ bits 0x3fc51767c2dd45f8 ∷ bits 0x3fdd8d4d186dbdbf ∷
          bits 0x0000000000000000 ∷ bits 0x3fda8bb3e16ea2fa ∷ bits 0x3fcb1a9a30db7b80 ∷ bits 0x0000000000000000 ∷ bits 0x3fd51767c2dd45f5 ∷
          bits 0x3fdb1a9a30db7b7e ∷ bits 0x0000000000000000 ∷ bits 0x3fda8bb3e16ea2fa ∷ bits 0x3fdd8d4d186dbdc0 ∷ bits 0x0000000000000000 ∷
          bits 0x3fc51767c2dd45f5 ∷ bits 0x3fdd8d4d186dbdc0 ∷ bits 0x0000000000000000 ∷ bits 0x3fda8bb3e16ea2fa ∷ bits 0x3fcb1a9a30db7b7e ∷
          bits 0x0000000000000000 ∷ bits 0x3fd51767c2dd45f5 ∷ bits 0x3fdb1a9a30db7b7e ∷ bits 0x0000000000000000 ∷ [];
      points =
          2 ∷ 2 ∷ 1 ∷ 2 ∷ 5 ∷ 1 ∷ 2 ∷ 1 ∷ 1 ∷ 3 ∷ 6 ∷ 0 ∷ 4 ∷ 3 ∷ 0 ∷ 4 ∷ 4 ∷ 0 ∷ 4 ∷ 5 ∷ 0 ∷ 3 ∷ 9 ∷ 0 ∷ [];
      edges =
          1 ∷ 4 ∷ 0 ∷ 4 ∷ 5 ∷ 6 ∷ 9 ∷ 5 ∷ 2 ∷ 5 ∷ 2 ∷ 1 ∷ 3 ∷ 7 ∷ 11 ∷ 3 ∷ 0 ∷ 6 ∷ 3 ∷ 5 ∷ 4 ∷ 8 ∷ 10 ∷ 4 ∷ 4 ∷ 2 ∷ 2 ∷ 1 ∷
          6 ∷ 1 ∷ 1 ∷ 9 ∷ 5 ∷ 0 ∷ 3 ∷ 5 ∷ 7 ∷ 2 ∷ 2 ∷ 11 ∷ 6 ∷ 1 ∷ 0 ∷ 4 ∷ 8 ∷ 0 ∷ 0 ∷ 10 ∷ 3 ∷ 4 ∷ 2 ∷ 0 ∷ 7 ∷ 3 ∷ 0 ∷ 8 ∷
          3 ∷ 5 ∷ 3 ∷ 2 ∷ 8 ∷ 4 ∷ 1 ∷ 6 ∷ 3 ∷ 6 ∷ 0 ∷ 3 ∷ 6 ∷ 5 ∷ 2 ∷ 7 ∷ 7 ∷ 4 ∷ 4 ∷ 1 ∷ 10 ∷ 0 ∷ 3 ∷ 11 ∷ 7 ∷ 6 ∷ 5 ∷ 4 ∷
          11 ∷ 2 ∷ 5 ∷ 9 ∷ 7 ∷ 5 ∷ 1 ∷ 5 ∷ 9 ∷ 1 ∷ 4 ∷ 10 ∷ [];
      intervals =
          bits 0x401f800000000000 ∷ bits 0x4033c00000000000 ∷ bits 0x403ba00000000000 ∷ bits 0x401f800000000000 ∷ bits 0x4033c00000000000 ∷
          bits 0x403ba00000000000 ∷ bits 0x4037b00000000000 ∷ bits 0x4031c00000000000 ∷ bits 0x402ba00000000000 ∷ bits 0x4037b00000000000 ∷
          bits 0x402ba00000000000 ∷ bits 0x4031c00000000000 ∷ [];
      faces =
          0 ∷ 3 ∷ 6 ∷ 1 ∷ 4 ∷ 3 ∷ 7 ∷ 5 ∷ 2 ∷ 4 ∷ 1 ∷ 3 ∷ 4 ∷ 2 ∷ 5 ∷ 2 ∷ 3 ∷ 5 ∷ 0 ∷ 6 ∷ 5 ∷ 7 ∷ 4 ∷ 1 ∷ 6 ∷ 4 ∷ 7 ∷ 6 ∷
          0 ∷ 5 ∷ [];
    }
unfolding step over zeroed settled_rows settled settled_intervals settled_side settled_starts starts_put refined_rows copied visits visit face_walk turns filled
    visit_along split_all split_whole split_edge ring_of put_ring put_join put_first put_second put_new_face put_face_point put_edge put_point put_start put_face
    face_point_in face_point_about face_point_over window_sum window_weight six_terms three_terms acw_about cw_about again edge_point
    edge_middle shares old_point radial_sum radial_terms radial_edge edge_weight face_weight add sub mul div neg le of_bits
    of_int
first-listed = refl

second-listed :
    (outcome (lent triangles counts) (handed (1 ∷ 0 ∷ []))).tables
    ≡ record {
      positions =
          bits 0x3fda8bb3e16ea2fa ∷ bits 0x3fdd8d4d186dbdbe ∷ bits 0x0000000000000000 ∷ bits 0x3fc51767c2dd45f8 ∷ bits 0x3fdd8d4d186dbdbf ∷
          bits 0x0000000000000000 ∷ bits 0x3fda8bb3e16ea2fa ∷ bits 0x3fcb1a9a30db7b80 ∷ bits 0x0000000000000000 ∷ bits 0x3fd51767c2dd45f5 ∷
          bits 0x3fdb1a9a30db7b7e ∷ bits 0x0000000000000000 ∷ bits 0x3fda8bb3e16ea2fa ∷ bits 0x3fdd8d4d186dbdc0 ∷ bits 0x0000000000000000 ∷
          bits 0x3fda8bb3e16ea2fa ∷ bits 0x3fcb1a9a30db7b7e ∷ bits 0x0000000000000000 ∷ bits 0x3fc51767c2dd45f5 ∷ bits 0x3fdd8d4d186dbdc0 ∷
          bits 0x0000000000000000 ∷ bits 0x3fd51767c2dd45f5 ∷ bits 0x3fdb1a9a30db7b7e ∷ bits 0x0000000000000000 ∷ [];
      points =
          2 ∷ 2 ∷ 1 ∷ 2 ∷ 4 ∷ 1 ∷ 2 ∷ 1 ∷ 1 ∷ 3 ∷ 6 ∷ 0 ∷ 4 ∷ 3 ∷ 0 ∷ 4 ∷ 4 ∷ 0 ∷ 4 ∷ 5 ∷ 0 ∷ 3 ∷ 9 ∷ 0 ∷ [];
      edges =
          1 ∷ 4 ∷ 0 ∷ 2 ∷ 4 ∷ 9 ∷ 6 ∷ 4 ∷ 2 ∷ 6 ∷ 4 ∷ 1 ∷ 3 ∷ 10 ∷ 8 ∷ 3 ∷ 0 ∷ 5 ∷ 5 ∷ 3 ∷ 5 ∷ 11 ∷ 7 ∷ 5 ∷ 4 ∷ 2 ∷ 4 ∷ 1 ∷
          9 ∷ 1 ∷ 1 ∷ 6 ∷ 5 ∷ 1 ∷ 0 ∷ 2 ∷ 11 ∷ 0 ∷ 0 ∷ 7 ∷ 6 ∷ 0 ∷ 5 ∷ 3 ∷ 10 ∷ 2 ∷ 2 ∷ 8 ∷ 3 ∷ 4 ∷ 2 ∷ 1 ∷ 7 ∷ 0 ∷ 3 ∷ 8 ∷
          3 ∷ 5 ∷ 3 ∷ 2 ∷ 8 ∷ 2 ∷ 4 ∷ 6 ∷ 3 ∷ 6 ∷ 1 ∷ 3 ∷ 6 ∷ 1 ∷ 5 ∷ 7 ∷ 7 ∷ 4 ∷ 4 ∷ 0 ∷ 10 ∷ 3 ∷ 0 ∷ 11 ∷ 7 ∷ 6 ∷ 5 ∷ 4 ∷
          11 ∷ 5 ∷ 1 ∷ 9 ∷ 7 ∷ 5 ∷ 0 ∷ 5 ∷ 9 ∷ 4 ∷ 2 ∷ 10 ∷ [];
      intervals =
          bits 0x401f800000000000 ∷ bits 0x4033c00000000000 ∷ bits 0x403ba00000000000 ∷ bits 0x401f800000000000 ∷ bits 0x403ba00000000000 ∷
          bits 0x4033c00000000000 ∷ bits 0x4037b00000000000 ∷ bits 0x402ba00000000000 ∷ bits 0x4031c00000000000 ∷ bits 0x4037b00000000000 ∷
          bits 0x4031c00000000000 ∷ bits 0x402ba00000000000 ∷ [];
      faces =
          0 ∷ 7 ∷ 5 ∷ 1 ∷ 4 ∷ 3 ∷ 3 ∷ 6 ∷ 2 ∷ 4 ∷ 4 ∷ 3 ∷ 4 ∷ 1 ∷ 5 ∷ 5 ∷ 3 ∷ 5 ∷ 0 ∷ 6 ∷ 1 ∷ 7 ∷ 4 ∷ 2 ∷ 6 ∷ 2 ∷ 7 ∷ 6 ∷
          0 ∷ 5 ∷ [];
    }
unfolding step over zeroed settled_rows settled settled_intervals settled_side settled_starts starts_put refined_rows copied visits visit face_walk turns filled
    visit_along split_all split_whole split_edge ring_of put_ring put_join put_first put_second put_new_face put_face_point put_edge put_point put_start put_face
    face_point_in face_point_about face_point_over window_sum window_weight six_terms three_terms acw_about cw_about again edge_point
    edge_middle shares old_point radial_sum radial_terms radial_edge edge_weight face_weight add sub mul div neg le of_bits
    of_int
second-listed = refl

numbers : (e : ℕ) → e < 3 → T (fits binary64 (interval triangles e))
unfolding of_bits fits
numbers zero l = tt
numbers (suc zero) l = tt
numbers (suc (suc zero)) l = tt
numbers (suc (suc (suc e))) l = absurd (omega arith)

audited : audit triangles 3 3 2 ≡ true
unfolding audit face_walk of_bits
audited = refl

once-first : each_face_once 2 (0 ∷ 1 ∷ []) ≡ true
unfolding each_face_once
once-first = refl

once-second : each_face_once 2 (1 ∷ 0 ∷ []) ≡ true
unfolding each_face_once
once-second = refl

abbrev pair : PairedStep (lent triangles counts) (lent triangles counts) (handed (0 ∷ 1 ∷ [])) (handed (1 ∷ 0 ∷ []))
pair = record { second-A = refl; second-B = refl; once-A = once-first; once-B = once-second; scratch = lengths-refl used }

agreed : Agreed counts triangles triangles (handed (0 ∷ 1 ∷ []) ∷ []) (handed (1 ∷ 0 ∷ []) ∷ [])
agreed =
    theorem counts triangles triangles audited numbers refl (lengths-refl triangles) (handed (0 ∷ 1 ∷ []) ∷ []) (handed (1 ∷ 0 ∷ []) ∷ [])
    (one_pair pair no_pair)
