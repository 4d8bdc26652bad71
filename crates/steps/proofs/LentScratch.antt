-- The content of scratch shows nowhere: the answer that is due looks at its numbers of rows alone, the rows that the visits make are
-- settled by the mesh and the order, and every position is its rule's answer from the mesh. Assumes nothing.
--     made_alike              what is made in two scratch tables is the same
--     lent-scratch            the claim of `specs/LentScratch.antt`
use Rattle.std.specs.Prelude.{Result, Ok, Err}
use mathlib.Core.Path.{◌≡◌, refl, sym, ◌∙◌, ap, subst}
use mathlib.Core.List.{List, []}
use mathlib.Core.Logic.{inl, inr}
use Prim.Native.Nat.{ℕ, zero, suc, ◌+◌, ◌*◌, ◌≤◌, ◌<◌}
use native.Mathlib.Omega.{arith}
use lib.Ieee.{Float}
use Rattle.closed_meshes.specs.Refinement.{NewPoint, old, mid, face_point}
use Rattle.closed_meshes.specs.Renumbering.{Row}
use Rattle.closed_meshes.proofs.Isomorphisms.{onto}
use Rattle.tables.specs.Mesh.{Mesh, none, dest, corner}
use Rattle.tables.specs.Records.{position_at, edge_at}
use Rattle.tables.specs.declared.Counts.{Counts}
use Rattle.t_spline.specs.declared.TnurccEdge.{TnurccEdge}
use Rattle.audited_meshes.specs.Audited.{Audited}
use Rattle.audited_meshes.specs.Rows.{HoldsClosed}
use Rattle.audited_meshes.proofs.Holds.{audited-of-closed, audit-is-closed}
use Rattle.refined_meshes.specs.declared.Edition.{Edition}
use Rattle.refined_meshes.specs.State.{State, with_positions}
use Rattle.refined_meshes.specs.Order.{EachOnce}
use Rattle.refined_meshes.specs.Visits.{refined_rows}
use Rattle.refined_meshes.specs.Settled.{settled, settled_rows}
use Rattle.refined_meshes.specs.Refines.{Refines}
use Rattle.refined_meshes.proofs.Words.{point_of, face_of}
use Rattle.refined_meshes.proofs.Refines.{first-refines, visited-points, visited-edges, visited-faces}
use Rattle.refined_meshes.proofs.Fits.{all-taken}
use Rattle.refined_meshes.proofs.Starts.{settled-points, joins-below}
use Rattle.refined_meshes.proofs.Settled.{settled-edges, visits-refine}
use Rattle.steps.specs.declared.StepRefusal.{StepRefusal}
use Rattle.steps.specs.declared.StepRefusal.TheVariants.{NotClosed, NotEachFaceOnce, NoRoom, NotFinite}
use Rattle.steps.specs.Positions.{so_far, face_point_row, edge_point_row, placed_all}
use Rattle.steps.specs.Step.{refined_counts, step}
use Rattle.tables.specs.Counted.{first_rows, over_rows}
use Rattle.steps.specs.FirstGround.{Short, HasNoRoom, Due}
use Rattle.steps.specs.LentScratch.{SameNumbers, SameMesh, LentScratch}
use Rattle.steps.proofs.Rows.{SameRows, same-over_rows, room-of-holds, points-fit, edges_fit, faces-fit, Exact, exact-first_rows, room-of-exact, holds-first_rows, position-same}
use Rattle.steps.proofs.Grounds.{taken, made-is}
use Rattle.steps.proofs.NewPositions.{AllPlaced, placed-all}
use Rattle.steps.proofs.Lengths.{exact-made}
use Rattle.steps.proofs.SameRefinement.{faces-fewer}
use Rattle.steps.proofs.OneStep.{point-rows}
use Rattle.steps.proofs.FirstGround.{first-ground}

-- ---- what is made of one mesh in two scratch tables

module _
    (ed : Edition) (m : Mesh) (c : Counts) (h : HoldsClosed m c.points c.edges c.faces) (few : c.faces ≤ none) (order : List ℕ)
    (once : EachOnce c.faces order) (t t' : Mesh) (x : Exact (refined_counts c) t) (x' : Exact (refined_counts c) t')
  where
    abbrev s : State
    s = settled_rows ed m c.points c.edges c.faces order t

    abbrev s' : State
    s' = settled_rows ed m c.points c.edges c.faces order t'

    audited : Audited m c.points c.edges c.faces
    audited = audited-of-closed m h.mesh h.stands h.closed h.fit

    refines : (t : Mesh) → Exact (refined_counts c) t → (ps : List Float) →
        Refines ed m h.mesh h.closed order (with_positions ps (settled_rows ed m c.points c.edges c.faces order t))
    refines t x ps =
        let r = room-of-exact x in
        visits-refine ed m c.points c.edges c.faces h order once t (points-fit r) (edges_fit r) (faces-fit r) ps

    placed : (t : Mesh) → Exact (refined_counts c) t → (qs : List Float) →
        placed_all ed m c (settled_rows ed m c.points c.edges c.faces order t) t.positions ≡ so_far qs →
        AllPlaced ed m c (settled_rows ed m c.points c.edges c.faces order t) qs
    placed t x qs e =
        placed-all m c audited few (settled_rows ed m c.points c.edges c.faces order t) (refined_counts c).points
        (point-rows ed m c h order t t.positions (refines t x t.positions)) ed t.positions (omega (arith, x.positions)) qs e

    points-same : (p : ℕ) → p < (refined_counts c).points → point_of s' p ≡ point_of s p
    unfolding settled_rows refined_rows
    points-same =
        let r = room-of-exact x in
        let r' = room-of-exact x' in
        let taken = all-taken m c.points c.edges c.faces h order once t (points-fit r) (edges_fit r) (faces-fit r) in
        let taken' = all-taken m c.points c.edges c.faces h order once t' (points-fit r') (edges_fit r') (faces-fit r') in
        let visited = first-refines m c.points c.edges c.faces h order once t (points-fit r) (edges_fit r) (faces-fit r) [] in
        settled-points m c.points c.edges c.faces (refined_rows m c.points c.edges c.faces order t)
        (refined_rows m c.points c.edges c.faces order t') taken.room.points-room taken'.room.points-room
        (visited-points m c.points c.edges c.faces h order once t t' (points-fit r) (edges_fit r) (faces-fit r) (points-fit r') (edges_fit r') (faces-fit r'))
        (visited-edges m c.points c.edges c.faces h order once t t' (points-fit r) (edges_fit r) (faces-fit r) (points-fit r') (edges_fit r') (faces-fit r'))
        (visited-faces m c.points c.edges c.faces h order once t t' (points-fit r) (edges_fit r) (faces-fit r) (points-fit r') (edges_fit r') (faces-fit r'))
        (faces-fewer visited)
        (λ e l. (joins-below m h.stands h.closed order (refined_rows m c.points c.edges c.faces order t) [] visited e l).0)
        audited.start-in-range audited.face_start-in-range ed

    edges-same : (e : ℕ) → e < (refined_counts c).edges → edge_at s'.edges s'.intervals e ≡ edge_at s.edges s.intervals e
    unfolding settled_rows refined_rows
    edges-same =
        let r = room-of-exact x in
        let r' = room-of-exact x' in
        let taken = all-taken m c.points c.edges c.faces h order once t (points-fit r) (edges_fit r) (faces-fit r) in
        let taken' = all-taken m c.points c.edges c.faces h order once t' (points-fit r') (edges_fit r') (faces-fit r') in
        settled-edges m c.edges (refined_rows m c.points c.edges c.faces order t) (refined_rows m c.points c.edges c.faces order t')
        taken.room.intervals-room taken'.room.intervals-room
        (visited-edges m c.points c.edges c.faces h order once t t' (points-fit r) (edges_fit r) (faces-fit r) (points-fit r') (edges_fit r') (faces-fit r'))
        ed c.points c.faces

    faces-same : (f : ℕ) → f < (refined_counts c).faces → face_of s' f ≡ face_of s f
    unfolding settled_rows settled refined_rows face_of
    faces-same =
        let r = room-of-exact x in
        let r' = room-of-exact x' in
        visited-faces m c.points c.edges c.faces h order once t t' (points-fit r) (edges_fit r) (faces-fit r) (points-fit r') (edges_fit r') (faces-fit r')

    module _ (qs qs' : List Float) (e : placed_all ed m c s t.positions ≡ so_far qs) (e' : placed_all ed m c s' t'.positions ≡ so_far qs') where
      v : Refines ed m h.mesh h.closed order (with_positions qs s)
      v = refines t x qs

      a : AllPlaced ed m c s qs
      a = placed t x qs e

      a' : AllPlaced ed m c s' qs'
      a' = placed t' x' qs' e'

      edge-row-same : (i : ℕ) → i < c.edges → edge_point_row s' i ≡ edge_point_row s i
      edge-row-same i b = ap (λ (r : TnurccEdge). r.dest) (edges-same i (omega arith))

      face-row-same : (f : ℕ) → f < c.faces → f < 2 * c.edges → face_point_row s' f ≡ face_point_row s f
      unfolding face_of
      face-row-same f b k = ap (λ w. w.corner0) (faces-same f k)

      positions-same : (p : Row (refined_counts c).points) → position_at qs' p.0 ≡ position_at qs p.0
      positions-same = onto v.numbering.points (λ p. position_at qs' p.0 ≡ position_at qs p.0) by-kinds
        where
          by-kinds : (k : NewPoint (Row c.points) (Row c.edges) (Row c.faces)) →
              position_at qs' (v.numbering.points.to k).0 ≡ position_at qs (v.numbering.points.to k).0
          by-kinds (old p) =
              subst (λ r. position_at qs' r ≡ position_at qs r) (sym (v.old_row p)) (a'.old-points p.0 p.1 ∙ sym (a.old-points p.0 p.1))
          by-kinds (mid i) =
              subst (λ r. position_at qs' r ≡ position_at qs r) (v.mid_row i)
              (ap (position_at qs') (sym (edge-row-same i.0 i.1)) ∙ a'.edge-points i.0 i.1 ∙ sym (a.edge-points i.0 i.1))
          by-kinds (face_point f) =
              let b : f.0 < 2 * c.edges = subst (λ k. k < 2 * c.edges) (v.first-row f) (v.numbering.faces.to (h.closed.face_dart f)).1 in
              subst (λ r. position_at qs' r ≡ position_at qs r) (v.centre-row f)
              (ap (position_at qs') (sym (face-row-same f.0 f.1 b)) ∙ a'.face-points f.0 f.1 ∙ sym (a.face-points f.0 f.1))

      made_alike : SameMesh (refined_counts c) (with_positions qs s) (with_positions qs' s')
      unfolding point_of face_of
      made_alike =
          record {
            position = λ p b. positions-same (p, b);
            valence = λ p b. ap (λ w. w.valence) (points-same p b);
            start = λ p b. ap (λ w. w.start) (points-same p b);
            mark = λ p b. ap (λ w. w.mark) (points-same p b);
            edge = edges-same;
            face-start = λ f b. ap (λ w. w.start) (faces-same f b);
            corner = λ f k b. corners f k b;
          }
        where
          corners : (f k : ℕ) → f < (refined_counts c).faces → k < 4 → corner (with_positions qs' s') f k ≡ corner (with_positions qs s) f k
          corners f zero b h = ap (λ w. w.corner0) (faces-same f b)
          corners f (suc zero) b h = ap (λ w. w.corner1) (faces-same f b)
          corners f (suc (suc zero)) b h = ap (λ w. w.corner2) (faces-same f b)
          corners f (suc (suc (suc zero))) b h = ap (λ w. w.corner3) (faces-same f b)
          corners f (suc (suc (suc (suc k)))) b h = absurd (omega arith)

-- what is made has just the rows of the mesh after the step
exact-alone :
    (ed : Edition) (m : Mesh) (c : Counts) (h : HoldsClosed m c.points c.edges c.faces) → c.faces ≤ none → (order : List ℕ) → EachOnce c.faces order →
    (t : Mesh) → Exact (refined_counts c) t → (qs : List Float) → placed_all ed m c (settled_rows ed m c.points c.edges c.faces order t) t.positions ≡ so_far qs →
    Exact (refined_counts c) (with_positions qs (settled_rows ed m c.points c.edges c.faces order t))
exact-alone ed m c h few order once t x qs e =
    let r = room-of-exact x in
    let v = visits-refine ed m c.points c.edges c.faces h order once t (points-fit r) (edges_fit r) (faces-fit r) t.positions in
    exact-made ed m c (room-of-holds h) (audited-of-closed m h.mesh h.stands h.closed h.fit) few (faces-fewer v) order t x
    (point-rows ed m c h order t t.positions v) qs e

-- ---- rows that are the same

edge_same : {c : Counts} {a b : Mesh} → SameRows c a b → (e : ℕ) → e < c.edges → edge_at b.edges b.intervals e ≡ edge_at a.edges a.intervals e
edge_same s e l =
    rw (
      s.edges (e * 8) (omega arith),
      s.edges (e * 8 + 1) (omega arith),
      s.edges (e * 8 + 2) (omega arith),
      s.edges (e * 8 + 3) (omega arith),
      s.edges (e * 8 + 4) (omega arith),
      s.edges (e * 8 + 5) (omega arith),
      s.edges (e * 8 + 6) (omega arith),
      s.edges (e * 8 + 7) (omega arith),
      s.intervals e l,
    )

mesh-of-rows : {c : Counts} {a b : Mesh} → SameRows c a b → SameMesh c a b
mesh-of-rows s =
    record {
      position = position-same s;
      valence = λ p l. s.points (p * 3) (omega arith);
      start = λ p l. s.points (p * 3 + 1) (omega arith);
      mark = λ p l. s.points (p * 3 + 2) (omega arith);
      edge = edge_same s;
      face-start = λ f l. s.faces (f * 5) (omega arith);
      corner = λ f k l h. s.faces (f * 5 + (k + 1)) (omega arith);
    }

mesh-sym : {c : Counts} {a b : Mesh} → SameMesh c a b → SameMesh c b a
mesh-sym s =
    record {
      position = λ p l. sym (s.position p l);
      valence = λ p l. sym (s.valence p l);
      start = λ p l. sym (s.start p l);
      mark = λ p l. sym (s.mark p l);
      edge = λ e l. sym (s.edge e l);
      face-start = λ f l. sym (s.face-start f l);
      corner = λ f k l h. sym (s.corner f k l h);
    }

mesh-trans : {c : Counts} {a b d : Mesh} → SameMesh c a b → SameMesh c b d → SameMesh c a d
mesh-trans s r =
    record {
      position = λ p l. r.position p l ∙ s.position p l;
      valence = λ p l. r.valence p l ∙ s.valence p l;
      start = λ p l. r.start p l ∙ s.start p l;
      mark = λ p l. r.mark p l ∙ s.mark p l;
      edge = λ e l. r.edge e l ∙ s.edge e l;
      face-start = λ f l. r.face-start f l ∙ s.face-start f l;
      corner = λ f k l h. r.corner f k l h ∙ s.corner f k l h;
    }

-- ---- the answer

short-same : (c : Counts) (t t' : Mesh) → SameNumbers t t' → Short c t → Short c t'
short-same c t t' s (inl h) = inl (omega (arith, s.points))
short-same c t t' s (inr (inl h)) = inr (inl (omega (arith, s.edges)))
short-same c t t' s (inr (inr h)) = inr (inr (omega (arith, s.faces)))

room-same : (c : Counts) (m t t' : Mesh) → SameNumbers t t' → HasNoRoom c m t → HasNoRoom c m t'
room-same c m t t' s (inl (inl h)) = inl (inl h)
room-same c m t t' s (inl (inr h)) = inl (inr (short-same c t t' s h))
room-same c m t t' s (inr h) = inr h

numbers-back : {t t' : Mesh} → SameNumbers t t' → SameNumbers t' t
numbers-back s = record { points = sym s.points; edges = sym s.edges; faces = sym s.faces }

due-same : (ed : Edition) (m : Mesh) (c : Counts) (order : List ℕ) (t t' : Mesh) → SameNumbers t t' → (a : Result Counts StepRefusal) → Due ed m c order t a → Due ed m c order t' a
due-same ed m c order t t' s (Err NotClosed) d = d
due-same ed m c order t t' s (Err NotEachFaceOnce) d = d
due-same ed m c order t t' s (Err NoRoom) d = (d.0, d.1, room-same (refined_counts c) m t t' s d.2)
due-same ed m c order t t' s (Err NotFinite) d = (d.0, d.1, λ h. d.2 (room-same (refined_counts c) m t' t (numbers-back s) h), d.3)
due-same ed m c order t t' s (Ok k) d = (d.0, d.1, λ h. d.2 (room-same (refined_counts c) m t' t (numbers-back s) h), d.3, d.4)

module _ (ed : Edition) (m : Mesh) (c : Counts) (order : List ℕ) (t t' : Mesh) (s : SameNumbers t t') where
  answer-same : (step ed m c order t').answer ≡ (step ed m c order t).answer
  answer-same =
      let a = (step ed m c order t).answer in
      (first-ground ed m c order t' a).1 (due-same ed m c order t t' s a ((first-ground ed m c order t a).0 refl))

  refined-same : (k : Counts) → (step ed m c order t).answer ≡ Ok k → SameMesh k (step ed m c order t).tables (step ed m c order t').tables
  refined-same k e =
      let e' = answer-same ∙ e in
      let x = taken ed m c order t k e in
      let x' = taken ed m c order t' k e' in
      let h = (audit-is-closed m _ _ _).0 x.audited in
      let h1 = holds-first_rows h in
      let few : c.faces ≤ none = omega (arith, x.within.points) in
      let u = first_rows (refined_counts c) t in
      let u' = first_rows (refined_counts c) t' in
      let b = made-is ed (first_rows c m) c order u x.mesh x.is_made in
      let b' = made-is ed (first_rows c m) c order u' x'.mesh x'.is_made in
      let made-same = made_alike ed (first_rows c m) c h1 few order x.once u u'
      (exact-first_rows (refined_counts c) t x.scratch-room) (exact-first_rows (refined_counts c) t' x'.scratch-room)
      b.positions b'.positions b.put b'.put in
      let exact = subst (Exact (refined_counts c)) (sym b.mesh)
      (exact-alone ed (first_rows c m) c h1 few order x.once u (exact-first_rows (refined_counts c) t x.scratch-room)
      b.positions b.put) in
      let exact' = subst (Exact (refined_counts c)) (sym b'.mesh)
      (exact-alone ed (first_rows c m) c h1 few order x'.once u'
      (exact-first_rows (refined_counts c) t' x'.scratch-room) b'.positions b'.put) in
      let one = with_positions b.positions (settled_rows ed (first_rows c m) c.points c.edges c.faces order u) in
      let between : SameMesh (refined_counts c) x.mesh x'.mesh = subst
      (λ n. SameMesh (refined_counts c) n x'.mesh) (sym b.mesh)
      (subst (λ n. SameMesh (refined_counts c) one n) (sym b'.mesh) made-same) in
      let there : SameMesh (refined_counts c) (over_rows (refined_counts c) x.mesh m)
      (over_rows (refined_counts c) x'.mesh m) = mesh-trans
      (mesh-sym (mesh-of-rows (same-over_rows (refined_counts c) x.mesh m exact)))
      (mesh-trans between (mesh-of-rows (same-over_rows (refined_counts c) x'.mesh m exact'))) in
      subst (λ k. SameMesh k (step ed m c order t).tables (step ed m c order t').tables) (sym x.counts)
      (subst (λ n. SameMesh (refined_counts c) n (step ed m c order t').tables) (sym x.tables)
      (subst (λ n. SameMesh (refined_counts c) (over_rows (refined_counts c) x.mesh m) n) (sym x'.tables) there))

pub lent-scratch : LentScratch
lent-scratch ed m c order t t' s = record { answer = answer-same ed m c order t t' s; refined = refined-same ed m c order t t' s }
