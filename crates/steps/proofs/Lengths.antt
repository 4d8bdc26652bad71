-- Visits, and what is settled after them, leave every table as long as it was. Assumes nothing.
--     exact-made              what is made in tables of just the rows of the mesh after a step has just these rows
use mathlib.Core.Path.{◌≡◌, refl, ◌∙◌}
use mathlib.Core.Bool.{Bool, true, false}
use mathlib.Core.List.{List, [], ◌∷◌}
use Prim.Native.Nat.{ℕ, zero, suc, ◌+◌, ◌*◌, ◌≤◌}
use native.Mathlib.Omega.{arith}
use lib.Dec.{ltb}
use lib.Ieee.{Float}
use lib.ListN.{length, get_or, length-set}
use Rattle.t_spline.specs.declared.TnurccEdge.{TnurccEdge}
use Rattle.tables.specs.Mesh.{Mesh, none}
use Rattle.tables.specs.Records.{edge_words}
use Rattle.tables.specs.declared.Counts.{Counts}
use Rattle.tables.proofs.Laws.{length-put_row, length_over}
use Rattle.audited_meshes.specs.Audited.{Audited}
use Rattle.audited_meshes.specs.Walks.{passed, face_walk}
use Rattle.refined_meshes.specs.declared.Edition.{Edition}
use Rattle.refined_meshes.specs.Turns.{turns}
use Rattle.refined_meshes.specs.State.{State, with_positions, edge_of, put_edge, put_point, put_start, put_face, take_rows, copied}
use Rattle.refined_meshes.specs.Split.{split_edge, split_if, split_whole, origin_half, destination_half}
use Rattle.refined_meshes.specs.Ring.{Ring, put_join, put_first, put_second, put_new_face, put_face_point}
use Rattle.refined_meshes.specs.Visits.{split_all, put_ring, visit_along, visit, visits, refined_rows}
use Rattle.refined_meshes.specs.Settled.{settled, settled_rows}
use Rattle.refined_meshes.proofs.Starts.{length-starts}
use Rattle.refined_meshes.proofs.Settled.{length-settled}
use Rattle.steps.specs.Positions.{so_far, placed_all}
use Rattle.steps.specs.Step.{refined_counts}
use Rattle.steps.specs.Rows.{Room}
use Rattle.steps.proofs.Rows.{Exact}
use Rattle.steps.proofs.NewPositions.{PointRows, length-all}

-- The tables of s' are as long as those of s.
pub record AsLong (s s' : State) : Type 0 where
  pub points : length s'.points ≡ length s.points
  pub edges : length s'.edges ≡ length s.edges
  pub intervals : length s'.intervals ≡ length s.intervals
  pub faces : length s'.faces ≡ length s.faces

as-long-refl : (s : State) → AsLong s s
as-long-refl s = record { points = refl; edges = refl; intervals = refl; faces = refl }

as-long-trans : {s s' s'' : State} → AsLong s s' → AsLong s' s'' → AsLong s s''
as-long-trans a b =
    record {
      points = b.points ∙ a.points;
      edges = b.edges ∙ a.edges;
      intervals = b.intervals ∙ a.intervals;
      faces = b.faces ∙ a.faces;
    }

long-edge : (e : ℕ) (r : TnurccEdge) (s : State) → AsLong s (put_edge e r s)
unfolding put_edge
long-edge e r s =
    record { points = refl; edges = length-put_row (edge_words r) s.edges (e * 8); intervals = length-set s.intervals e _; faces = refl }

long-point : (p v e k : ℕ) (s : State) → AsLong s (put_point p v e k s)
unfolding put_point
long-point p v e k s =
    record { points = length-put_row (v ∷ e ∷ k ∷ []) s.points (p * 3); edges = refl; intervals = refl; faces = refl }

long-start : (p e : ℕ) (s : State) → AsLong s (put_start p e s)
unfolding put_start
long-start p e s = record { points = length-set s.points (p * 3 + 1) e; edges = refl; intervals = refl; faces = refl }

long-face : (f e c0 c1 c2 c3 : ℕ) (s : State) → AsLong s (put_face f e c0 c1 c2 c3 s)
unfolding put_face
long-face f e c0 c1 c2 c3 s =
    record {
      points = refl;
      edges = refl;
      intervals = refl;
      faces = length-put_row (e ∷ c0 ∷ c1 ∷ c2 ∷ c3 ∷ []) s.faces (f * 5);
    }

long-take : (p e f : ℕ) (s : State) → AsLong s (take_rows p e f s)
long-take p e f s = record { points = refl; edges = refl; intervals = refl; faces = refl }

-- as many turns as wanted
long-turns : (turn : ℕ → State → State) → ((i : ℕ) (s : State) → AsLong s (turn i s)) → (n : ℕ) (s : State) → AsLong s (turns n turn s)
unfolding turns
long-turns turn h zero s = as-long-refl s
long-turns turn h (suc n) s = as-long-trans (long-turns turn h n s) (h n (turns n turn s))

long-split : (e : ℕ) (s : State) → AsLong s (split_edge e s)
unfolding split_edge
long-split e s =
    let r = edge_of s e in
    let p = s.points_taken in
    let h = s.edges_taken in
    as-long-trans (long-edge h (destination_half p e r) s)
    (as-long-trans (long-edge e (origin_half p h r) _)
    (as-long-trans (long-point p 4 e 0 _) (as-long-trans (long-start r.dest h _) (long-take 1 1 0 _))))

long-split_whole : (np e : ℕ) (s : State) → AsLong s (split_whole np e s)
unfolding split_whole
long-split_whole np e s = go (ltb (edge_of s e).dest np)
  where
    go : (b : Bool) → AsLong s (split_if b e s)
    go true = long-split e s
    go false = as-long-refl s

long-join : (r : Ring) (i : ℕ) (s : State) → AsLong s (put_join r i s)
unfolding put_join
long-join r i s = long-edge _ _ s

long-first : (m : Mesh) (r : Ring) (i : ℕ) (s : State) → AsLong s (put_first m r i s)
unfolding put_first
long-first m r i s = long-edge _ _ s

long-second : (m : Mesh) (r : Ring) (i : ℕ) (s : State) → AsLong s (put_second m r i s)
unfolding put_second
long-second m r i s = long-edge _ _ s

long-new_face : (m : Mesh) (r : Ring) (i : ℕ) (s : State) → AsLong s (put_new_face m r i s)
unfolding put_new_face
long-new_face m r i s = long-face _ _ _ _ _ _ s

long-face_point : (r : Ring) (s : State) → AsLong s (put_face_point r s)
unfolding put_face_point
long-face_point r s = long-point _ _ _ _ s

long-ring : (m : Mesh) (r : Ring) (s : State) → AsLong s (put_ring m r s)
unfolding put_ring
long-ring m r s =
    as-long-trans (long-turns (put_join r) (long-join r) r.size s)
    (as-long-trans (long-turns (put_first m r) (long-first m r) r.size _)
    (as-long-trans (long-turns (put_second m r) (long-second m r) r.size _)
    (as-long-trans (long-turns (put_new_face m r) (long-new_face m r) r.size _)
    (as-long-trans (long-face_point r _) (long-take _ _ _ _)))))

long-visit : (m : Mesh) (np ne f : ℕ) (s : State) → AsLong s (visit m np ne f s)
unfolding visit visit_along split_all
long-visit m np ne f s =
    as-long-trans (long-take 1 0 0 s)
    (as-long-trans (long-turns _ (λ i s. long-split_whole np _ s) (passed (face_walk m ne f)) _) (long-ring m _ _))

long-settled : (ed : Edition) (m : Mesh) (np ne nf : ℕ) (s : State) → AsLong s (settled ed m np ne nf s)
unfolding settled
long-settled ed m np ne nf s =
    record { points = length-starts ed m np ne nf s; edges = refl; intervals = length-settled ed m ne s; faces = refl }

-- The tables after all visits, and settled, are as long as the scratch tables, where a copy of the mesh has room.
module _ (ed : Edition) (m : Mesh) (np ne nf : ℕ) (order : List ℕ) (t : Mesh) where
  long-refined_rows : AsLong (copied m np ne nf t) (refined_rows m np ne nf order t)
  unfolding refined_rows visits
  long-refined_rows = long-turns _ (λ i s. long-visit m np ne (get_or order i 0) s) nf (copied m np ne nf t)

  pub long-settled_rows : AsLong (copied m np ne nf t) (settled_rows ed m np ne nf order t)
  unfolding settled_rows
  long-settled_rows = as-long-trans long-refined_rows (long-settled ed m np ne nf (refined_rows m np ne nf order t))

module _
    (ed : Edition) (m : Mesh) (c : Counts) (held : Room c m) (audited : Audited m c.points c.edges c.faces) (few : c.faces ≤ none) (fewer : c.faces ≤ 2 * c.edges)
    (order : List ℕ) (t : Mesh) (room : Exact (refined_counts c) t)
    (rows : PointRows c (settled_rows ed m c.points c.edges c.faces order t) (refined_counts c).points) (qs : List Float)
    (put : placed_all ed m c (settled_rows ed m c.points c.edges c.faces order t) t.positions ≡ so_far qs)
  where
    pub exact-made : Exact (refined_counts c) (with_positions qs (settled_rows ed m c.points c.edges c.faces order t))
    unfolding copied
    exact-made =
        let l = long-settled_rows ed m c.points c.edges c.faces order t in
        record {
          positions =
              length-all m c audited few (settled_rows ed m c.points c.edges c.faces order t) (refined_counts c).points rows ed t.positions
              (omega (arith, room.positions)) qs put
              ∙ room.positions;
          points = l.points ∙ length_over _ m.points t.points held.points (omega (arith, room.points)) ∙ room.points;
          edges = l.edges ∙ length_over _ m.edges t.edges held.edges (omega (arith, room.edges)) ∙ room.edges;
          intervals =
              l.intervals ∙ length_over _ m.intervals t.intervals held.intervals (omega (arith, room.intervals)) ∙ room.intervals;
          faces = l.faces ∙ length_over _ m.faces t.faces held.faces (omega (arith, room.faces)) ∙ room.faces;
        }
