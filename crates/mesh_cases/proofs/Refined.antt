-- The visits computed on the meshes of `proofs/Records.antt`: every word of points, edges and faces and every interval is the Rust's, in
-- numbered order and in others, whatever stood in the scratch tables. In the second edition each of the cube's joining intervals is 0.5.
use mathlib.Core.Path.{◌≡◌, refl}
use mathlib.Core.List.{[], ◌∷◌}
use Prim.Native.Nat.{ℕ, ◌*◌}
use lib.ListN.{replicate}
use lib.Ieee.{nan, mul, add, of_bits, binary64}
use Rattle.tables.specs.Mesh.{Mesh}
use Rattle.tables.specs.Rows.{over}
use Rattle.audited_meshes.specs.Walks.{face_walk}
use Rattle.refined_meshes.specs.declared.Edition.TheVariants.{Second}
use Rattle.refined_meshes.specs.Turns.{turns, filled}
use Rattle.refined_meshes.specs.State.{State, put_edge, put_point, put_start, put_face, copied}
use Rattle.refined_meshes.specs.Split.{split_edge, split_whole}
use Rattle.refined_meshes.specs.Ring.{put_join, put_first, put_second, put_new_face, put_face_point}
use Rattle.refined_meshes.specs.Visits.{refined_rows, visits, visit, visit_along, split_all, ring_of, put_ring}
use Rattle.refined_meshes.specs.Settled.{settled_side, settled_intervals, settled, settled_rows}
use Rattle.mesh_cases.proofs.Records.{cube, cube_numbered, cube_last_to_first, prism, prism_refined, triangles, triangles_refined}

-- scratch tables of np, ne and nf rows with other things in them
abbrev used : ℕ → ℕ → ℕ → Mesh
used np ne nf =
    record {
      positions = [];
      points = replicate (np * 3) 7;
      edges = replicate (ne * 8) 7;
      intervals = replicate ne nan;
      faces = replicate (nf * 5) 7;
    }

-- the rows of m, all np, ne and nf of them taken
abbrev rows_of : Mesh → ℕ → ℕ → ℕ → State
rows_of m np ne nf =
    record {
      points = m.points;
      edges = m.edges;
      intervals = m.intervals;
      faces = m.faces;
      points_taken = np;
      edges_taken = ne;
      faces_taken = nf;
    }

cube-numbered : refined_rows cube 8 12 6 (0 ∷ 1 ∷ 2 ∷ 3 ∷ 4 ∷ 5 ∷ []) (used 26 48 24) ≡ rows_of cube_numbered 26 48 24
unfolding refined_rows copied over visits visit face_walk turns filled visit_along split_all split_whole split_edge ring_of put_ring
    put_join put_first put_second put_new_face put_face_point put_edge put_point put_start put_face mul add of_bits
cube-numbered = refl

-- "each of its joining intervals is 0.5" (document 02, §5): 24 of these are the joining edges', 24 the halves'
cube-published : (settled_rows Second cube 8 12 6 (0 ∷ 1 ∷ 2 ∷ 3 ∷ 4 ∷ 5 ∷ []) (used 26 48 24)).intervals ≡ replicate 48 (of_bits binary64 0x3fe0000000000000)
unfolding settled_rows settled settled_intervals settled_side refined_rows copied over visits visit face_walk turns filled visit_along split_all
    split_whole split_edge ring_of put_ring put_join put_first put_second put_new_face put_face_point put_edge put_point put_start put_face mul add of_bits
cube-published = refl

cube-last-to-first : refined_rows cube 8 12 6 (5 ∷ 4 ∷ 3 ∷ 2 ∷ 1 ∷ 0 ∷ []) (used 26 48 24) ≡ rows_of cube_last_to_first 26 48 24
unfolding refined_rows copied over visits visit face_walk turns filled visit_along split_all split_whole split_edge ring_of put_ring
    put_join put_first put_second put_new_face put_face_point put_edge put_point put_start put_face mul add of_bits
cube-last-to-first = refl

two-triangles : refined_rows triangles 3 3 2 (0 ∷ 1 ∷ []) (used 8 12 6) ≡ rows_of triangles_refined 8 12 6
unfolding refined_rows copied over visits visit face_walk turns filled visit_along split_all split_whole split_edge ring_of put_ring
    put_join put_first put_second put_new_face put_face_point put_edge put_point put_start put_face mul add of_bits
two-triangles = refl

prism-in-order : refined_rows prism 10 15 7 (0 ∷ 6 ∷ 1 ∷ 3 ∷ 2 ∷ 5 ∷ 4 ∷ []) (used 32 60 30) ≡ rows_of prism_refined 32 60 30
unfolding refined_rows copied over visits visit face_walk turns filled visit_along split_all split_whole split_edge ring_of put_ring
    put_join put_first put_second put_new_face put_face_point put_edge put_point put_start put_face mul add of_bits
prism-in-order = refl
