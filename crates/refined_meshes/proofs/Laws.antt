-- The laws of visits for code that makes them. Assumes nothing.
--     split_all-same, visit_along-same      a visit reads only the first n places of its perimeter, so that an array may hold it
use mathlib.Core.Path.{◌≡◌, ◌∙◌, ap}
use mathlib.Core.List.{List}
use Prim.Native.Nat.{ℕ, ◌-◌, ◌<◌}
use lib.ListN.{get_or, replicate}
use lib.Ieee.{Float, nan, of_bits, binary64}
use Rattle.tables.specs.Mesh.{Mesh}
use Rattle.refined_meshes.specs.Turns.{turns}
use Rattle.refined_meshes.specs.State.{State, edge_of, take_rows}
use Rattle.refined_meshes.specs.Split.{split_whole}
use Rattle.refined_meshes.specs.Ring.{Ring, first_half_of, second_half_of, put_join, put_first, put_second, put_new_face, put_face_point}
use Rattle.refined_meshes.specs.Visits.{found_on, split_all, ring_of, put_ring, visit_along}
use Rattle.refined_meshes.proofs.Turns.{turns-cong, filled-cong}

-- the ring with another list of edges
with_edges : Ring → List ℕ → Ring
with_edges r es =
    record {
      face = r.face;
      size = r.size;
      centre = r.centre;
      joins_from = r.joins_from;
      faces_from = r.faces_from;
      edges = es;
      firsts = r.firsts;
      seconds = r.seconds;
      mids = r.mids;
      found = r.found;
    }

put_ring-same :
    (m : Mesh) (r : Ring) (es : List ℕ) → ((i : ℕ) → i < r.size → get_or es i 0 ≡ get_or r.edges i 0) → (s : State)
    → put_ring m (with_edges r es) s ≡ put_ring m r s
unfolding put_ring with_edges put_join put_first put_second put_new_face put_face_point
put_ring-same m r es h s =
    let n = r.size in
    let w : Ring = with_edges r es in
    let s1 : State = turns n (put_join r) s in
    let s2 : State = turns n (put_first m r) s1 in
    let s3 : State = turns n (put_second m r) s2 in
    let e2 : turns n (put_first m w) s1 ≡ s2 = turns-cong n (put_first m w) (put_first m r) (λ i x l. rw (h i l)) s1 in
    let e3 : turns n (put_second m w) s2 ≡ s3 = turns-cong n (put_second m w) (put_second m r) (λ i x l. rw (h i l)) s2 in
    let e4 : turns n (put_new_face m w) s3 ≡ turns n (put_new_face m r) s3 = turns-cong n (put_new_face m w) (put_new_face m r) (λ i x l. rw (h i l)) s3 in
    ap (λ x. take_rows 0 n (n - 1) (put_face_point r x))
    (ap (λ x. turns n (put_new_face m w) (turns n (put_second m w) x)) e2 ∙ ap (turns n (put_new_face m w)) e3 ∙ e4)

module _ (m : Mesh) (np f n : ℕ) (es es' : List ℕ) (same : (i : ℕ) → i < n → get_or es i 0 ≡ get_or es' i 0) where
  pub split_all-same : (s : State) → split_all np es n s ≡ split_all np es' n s
  unfolding split_all
  split_all-same s =
      turns-cong n (λ i. split_whole np (get_or es i 0)) (λ i. split_whole np (get_or es' i 0)) (λ i x l. ap (λ e. split_whole np e x) (same i l)) s

  found_on-same : (s : State) → found_on es n s ≡ found_on es' n s
  found_on-same s =
      filled-cong n (λ i. get_or s.intervals (get_or es i 0) nan) (λ i. get_or s.intervals (get_or es' i 0) nan) (replicate 64 (of_bits binary64 0))
      (λ i l. ap (λ e. get_or s.intervals e nan) (same i l))

  ring_of-same : (c : ℕ) (fs : List Float) (s : State) → ring_of m f es n c fs s ≡ with_edges (ring_of m f es' n c fs s) es
  unfolding ring_of with_edges
  ring_of-same c fs s =
      λ k.
      record {
        face = f;
        size = n;
        centre = c;
        joins_from = s.edges_taken;
        faces_from = s.faces_taken;
        edges = es;
        firsts =
            filled-cong n (λ i. first_half_of m.edges s.edges f (get_or es i 0)) (λ i. first_half_of m.edges s.edges f (get_or es' i 0))
            (replicate 64 0) (λ i l. ap (λ e. first_half_of m.edges s.edges f e) (same i l)) k;
        seconds =
            filled-cong n (λ i. second_half_of m.edges s.edges f (get_or es i 0)) (λ i. second_half_of m.edges s.edges f (get_or es' i 0))
            (replicate 64 0) (λ i l. ap (λ e. second_half_of m.edges s.edges f e) (same i l)) k;
        mids =
            filled-cong n (λ i. (edge_of s (get_or es i 0)).dest) (λ i. (edge_of s (get_or es' i 0)).dest) (replicate 64 0)
            (λ i l. ap (λ e. (edge_of s e).dest) (same i l)) k;
        found = fs;
      }

  pub visit_along-same : (s : State) → visit_along m np f es n s ≡ visit_along m np f es' n s
  unfolding visit_along
  visit_along-same s =
      let p = s.points_taken in
      let all : State = split_all np es' n (take_rows 1 0 0 s) in
      ap (λ x. put_ring m (ring_of m f es n p (found_on es n s) x) x) (split_all-same (take_rows 1 0 0 s))
      ∙ ap (λ x. put_ring m (ring_of m f es n p x all) all) (found_on-same s)
      ∙ ap (λ x. put_ring m x all) (ring_of-same p (found_on es' n s) all)
      ∙ put_ring-same m (ring_of m f es' n p (found_on es' n s) all) es (unfold ring_of in same) all
