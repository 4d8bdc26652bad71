-- The topology of one refinement, as visits make it in the scratch tables. "Then faces are visited in the order handed in" (document 01).
--     found_on es n s          the intervals of a perimeter as found on arriving
--     split_all np es n s      each edge of the perimeter split unless it is split already
--     ring_of ..               what stands at the places of the perimeter of the face f once it is split
--     put_ring m r s           the joining edges, the new faces and the face point written
--     visit_along ..           the visit of the face f along the perimeter es of n edges
--     visit m np ne f s       the visit of the face f
--     visits m np ne k order s   the visits of the first k faces of the order
--     refined_rows ..          the scratch tables after all visits, begun with a copy of the mesh's rows
-- A visit of a face takes a row for the face point, reads the perimeter's intervals, splits what is not yet split, and then writes
-- the ring. The perimeter is read from the mesh, which does not change.
use Rattle.std.specs.Prelude.{List, ℕ, ◌-◌, get_or, replicate, Float}
use Rattle.std.specs.Float.{nan, binary64}
use Rattle.std.specs.Float.Ieee.{of_bits}
use Rattle.tables.specs.Layout.{longest_perimeter}
use Rattle.tables.specs.Mesh.{Mesh}
use Rattle.audited_meshes.specs.Walks.{edges_of, passed, face_walk}
use Rattle.refined_meshes.specs.Turns.{turns, filled}
use Rattle.refined_meshes.specs.State.{State, edge_of, take_rows, copied}
use Rattle.refined_meshes.specs.Split.{split_whole}
use Rattle.refined_meshes.specs.Ring.{Ring, first_half_of, second_half_of, put_join, put_first, put_second, put_new_face, put_face_point}

-- a perimeter has at most 64 places
abbrev pub found_on : List ℕ → ℕ → State → List Float
found_on es n s = filled n (λ i. get_or s.intervals (get_or es i 0) nan) (replicate longest_perimeter (of_bits binary64 0))

unfoldable pub split_all : ℕ → List ℕ → ℕ → State → State
split_all np es n s = turns n (λ i. split_whole np (get_or es i 0)) s

unfoldable pub ring_of : Mesh → ℕ → List ℕ → ℕ → ℕ → List Float → State → Ring
ring_of m f es n centre found s =
    record {
      face = f;
      size = n;
      centre = centre;
      joins_from = s.edges_taken;
      faces_from = s.faces_taken;
      edges = es;
      firsts = filled n (λ i. first_half_of m.edges s.edges f (get_or es i 0)) (replicate longest_perimeter 0);
      seconds = filled n (λ i. second_half_of m.edges s.edges f (get_or es i 0)) (replicate longest_perimeter 0);
      mids = filled n (λ i. (edge_of s (get_or es i 0)).dest) (replicate longest_perimeter 0);
      found = found;
    }

-- the four loops one after the other, then the face point
unfoldable pub put_ring : Mesh → Ring → State → State
put_ring m r s =
    let joined = turns r.size (put_join r) s in
    let firsts = turns r.size (put_first m r) joined in
    let seconds = turns r.size (put_second m r) firsts in
    let faced = turns r.size (put_new_face m r) seconds in
    take_rows 0 r.size (r.size - 1) (put_face_point r faced)

unfoldable pub visit_along : Mesh → ℕ → ℕ → List ℕ → ℕ → State → State
visit_along m np f es n s =
    let all = split_all np es n (take_rows 1 0 0 s) in
    put_ring m (ring_of m f es n s.points_taken (found_on es n s) all) all

unfoldable pub visit : Mesh → ℕ → ℕ → ℕ → State → State
visit m np ne f s = visit_along m np f (edges_of (face_walk m ne f)) (passed (face_walk m ne f)) s

unfoldable pub visits : Mesh → ℕ → ℕ → ℕ → List ℕ → State → State
visits m np ne k order s = turns k (λ i. visit m np ne (get_or order i 0)) s

unfoldable pub refined_rows : Mesh → ℕ → ℕ → ℕ → List ℕ → Mesh → State
refined_rows m np ne nf order t = visits m np ne nf order (copied m np ne nf t)
