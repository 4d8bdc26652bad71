-- Splitting an edge keeps the invariant of the visits: e is the edge, whole so far, and its new rows are the next ones. Assumes nothing.
--     content-split         the invariant, with e among the edges that are split
use mathlib.Core.Path.{◌≡◌, refl, sym, ◌∙◌, ap, subst}
use mathlib.Core.Logic.{◌⊎◌, inl, inr, ◌≢◌}
use Prim.Native.Nat.{ℕ, ◌+◌, ◌*◌, ◌≤◌, ◌<◌}
use native.Mathlib.Omega.{arith}
use native.Mathlib.Decide.{ℕ_discrete}
use Rattle.closed_meshes.specs.Mesh.{MeshOver, Dart, lft, rgt, edge, face}
use Rattle.closed_meshes.specs.Closed.{Closed}
use Rattle.closed_meshes.specs.Refinement.{NewPoint, old, mid, face_point, NewEdge, org, dst, join}
use Rattle.closed_meshes.specs.Renumbering.{Bijection, Row}
use Rattle.closed_meshes.proofs.Counting.{row-path}
use Rattle.closed_meshes.proofs.NewDarts.{start-half, end-half, inward, outward}
use Rattle.tables.specs.Mesh.{Mesh, mark}
use Rattle.refined_meshes.specs.State.{State}
use Rattle.refined_meshes.specs.Split.{split_edge}
use Rattle.refined_meshes.proofs.Leads.{when}
use Rattle.refined_meshes.proofs.Numbering.{point_no, edge_no, face_no, point_no-injective, edge_no-injective, point_no-fits, edge_no-fits}
use Rattle.refined_meshes.proofs.Words.{ends, side, point_of}
use Rattle.refined_meshes.proofs.Target.{ends_old, ends_at, mid_at, row_of, edge-row_of}
use Rattle.refined_meshes.proofs.Split.{room_split, ends-origin, left-origin, right-origin}
use Rattle.refined_meshes.proofs.Split.{ends-destination, ends-split-other, side-split-other}
use Rattle.refined_meshes.proofs.Split.{point-middle, point-destination, point-split-other, face_of-split}
use Rattle.refined_meshes.proofs.Content.{link, Done, Latest, Unchanged, OldPoint, Content}

module _ (m : Mesh) {np ne nf : ℕ} {t : MeshOver (Row np) (Row ne) (Row nf)} (c : Closed t) (order : Bijection (Row nf) (Row nf)) where
  -- Rows of other kinds are other rows.
  other_edge : (x y : NewEdge (Row ne)) → x ≢ y → edge_no c order x ≢ edge_no c order y
  other_edge x y n h = n (edge_no-injective c order x y h)

  other-point : (x y : NewPoint (Row np) (Row ne) (Row nf)) → x ≢ y → point_no c order x ≢ point_no c order y
  other-point x y n h = n (point_no-injective c order x y h)

  module _
      {S : Row ne → Type 0} {k : ℕ} (s : State) (h : Content m c order S k s) (e : Row ne) (is_whole : ¬ S e)
      (visited : (d : Dart (Row ne)) → when c order (face t d) < k → S (edge d))
      (half-row : s.edges_taken ≡ edge_no c order (dst e)) (mid_row : s.points_taken ≡ point_no c order (mid e))
      (later : (e' : Row ne) → S e' → edge_no c order (dst e') ≤ edge_no c order (dst e))
    where
      abbrev split-state : State
      split-state = split_edge e.0 s

      e-below : e.0 < 4 * ne
      e-below = unfold edge_no in edge_no-fits c order (org e)

      whole-ends : ends s e.0 ≡ ends_old m c order e
      whole-ends = unfold edge_no in h.whole e is_whole

      dest-is : (ends s e.0).dest ≡ point_no c order (old (t.dest e))
      dest-is = unfold ends_old point_no in ap (λ x. x.dest) whole-ends

      h-below : s.edges_taken < 4 * ne
      h-below = rw half-row (edge_no-fits c order (dst e))

      p-below : s.points_taken < np + ne + nf
      p-below = rw mid_row (point_no-fits c order (mid e))

      q-below : (ends s e.0).dest < np + ne + nf
      q-below = rw dest-is (point_no-fits c order (old (t.dest e)))

      e-other : s.edges_taken ≢ e.0
      e-other q =
          unfold edge_no in
          other_edge (dst e) (org e) (λ x. let z : ◌≡◌ {A = ℕ} 0 1 = cc in omega arith) (sym half-row ∙ q)

      q-other : (ends s e.0).dest ≢ s.points_taken
      q-other q =
          other-point (old (t.dest e)) (mid e) (λ x. let z : ◌≡◌ {A = ℕ} 0 1 = cc in omega arith) (sym dest-is ∙ q ∙ mid_row)

      frame-ends : (x : NewEdge (Row ne)) → x ≢ org e → x ≢ dst e → ends split-state (edge_no c order x) ≡ ends s (edge_no c order x)
      frame-ends x a b =
          ends-split-other s h.room e.0 e-below h-below p-below q-below e-other q-other (edge_no c order x)
          (unfold edge_no in other_edge x (org e) a) (λ q. other_edge x (dst e) b (q ∙ half-row))

      frame-side :
          (x : Dart (NewEdge (Row ne))) → edge x ≢ org e → edge x ≢ dst e → side split-state (row_of c order x) ≡ side s (row_of c order x)
      frame-side x a b =
          side-split-other s h.room e.0 e-below h-below p-below q-below e-other q-other (row_of c order x)
          (λ q. unfold edge_no in other_edge (edge x) (org e) a (sym (edge-row_of c order x) ∙ q))
          (λ q. other_edge (edge x) (dst e) b (sym (edge-row_of c order x) ∙ q ∙ half-row))

      frame-point :
          (x : NewPoint (Row np) (Row ne) (Row nf)) → x ≢ old (t.dest e) → x ≢ mid e
          → point_of split-state (point_no c order x) ≡ point_of s (point_no c order x)
      frame-point x a b =
          point-split-other s h.room e.0 e-below h-below p-below q-below e-other q-other (point_no c order x)
          (λ q. other-point x (old (t.dest e)) a (q ∙ dest-is)) (λ q. other-point x (mid e) b (q ∙ mid_row))

      -- The halves of another edge are other edges.
      start-other : (d : Dart (Row ne)) → edge d ≢ e → (edge (start-half d) ≢ org e) × (edge (start-half d) ≢ dst e)
      start-other (lft i) n = (λ q. n (cc), λ q. let z : ◌≡◌ {A = ℕ} 0 1 = cc in omega arith)
      start-other (rgt i) n = (λ q. let z : ◌≡◌ {A = ℕ} 0 1 = cc in omega arith, λ q. n (cc))

      end-other : (d : Dart (Row ne)) → edge d ≢ e → (edge (end-half d) ≢ org e) × (edge (end-half d) ≢ dst e)
      end-other (lft i) n = (λ q. let z : ◌≡◌ {A = ℕ} 0 1 = cc in omega arith, λ q. n (cc))
      end-other (rgt i) n = (λ q. n (cc), λ q. let z : ◌≡◌ {A = ℕ} 0 1 = cc in omega arith)

      join-other : (d : Dart (Row ne)) → (join d ≢ org e) × (join d ≢ dst e)
      join-other d = (λ q. let z : ◌≡◌ {A = ℕ} 0 1 = cc in omega arith, λ q. let z : ◌≡◌ {A = ℕ} 0 1 = cc in omega arith)

      done-split : (d : Dart (Row ne)) → when c order (face t d) < k → Done m c order split-state d
      done-split d l =
          let n : edge d ≢ e = λ q. is_whole (subst S q (visited d l)) in
          let o : Done m c order s d = h.done d l in
          record {
            join-ends = frame-ends (join d) (join-other d).0 (join-other d).1 ∙ o.join-ends;
            first-half = frame-side (start-half d) (start-other d n).0 (start-other d n).1 ∙ o.first-half;
            second-half = frame-side (end-half d) (end-other d n).0 (end-other d n).1 ∙ o.second-half;
            join-left = frame-side (outward d) (join-other d).0 (join-other d).1 ∙ o.join-left;
            join-right = frame-side (inward d) (join-other d).0 (join-other d).1 ∙ o.join-right;
            new-face = face_of-split s e.0 (face_no c order d) ∙ o.new-face;
          }

      origin_here : ends split-state (edge_no c order (org e)) ≡ ends_at m c order (org e)
      unfolding edge_no ends_at ends_old
      origin_here = ends-origin s h.room e.0 e-below h-below p-below q-below e-other q-other ∙ rw (whole-ends, mid_row)

      destination-here : ends split-state (edge_no c order (dst e)) ≡ ends_at m c order (dst e)
      unfolding ends_at ends_old
      destination-here =
          ap (ends split-state) (sym half-row)
          ∙ ends-destination s h.room e.0 e-below h-below p-below q-below e-other q-other
          ∙ rw (whole-ends, mid_row)

      middle-here : point_of split-state (point_no c order (mid e)) ≡ mid_at c order e
      unfolding mid_at
      middle-here =
          ap (point_of split-state) (sym mid_row)
          ∙ point-middle s h.room e.0 e-below h-below p-below q-below e-other q-other

      linked-here : (d : Dart (Row ne)) → edge d ≡ e → link m c order split-state d ≡ edge_no c order (dst (edge d))
      unfolding link
      linked-here (lft i) q =
          rw q (left-origin s h.room e.0 e-below h-below p-below q-below e-other q-other ∙ half-row)
      linked-here (rgt i) q =
          rw q (right-origin s h.room e.0 e-below h-below p-below q-below e-other q-other ∙ half-row)

      linked-there : (d : Dart (Row ne)) → edge d ≢ e → link m c order split-state d ≡ link m c order s d
      unfolding link row_of edge_no
      linked-there (lft i) n = ap (λ x. x.acw) (frame-side (start-half (lft i)) (start-other (lft i) n).0 (start-other (lft i) n).1)
      linked-there (rgt i) n = ap (λ x. x.cw) (frame-side (end-half (rgt i)) (end-other (rgt i) n).0 (end-other (rgt i) n).1)

      abbrev Split : Row ne → Type 0
      Split e' = S e' ⊎ (e' ≡ e)

      -- ---- the old points

      old-here : (p : Row np) → t.dest e ≡ p → OldPoint m c order Split split-state p
      old-here p q =
          let w : point_of split-state p.0 ≡ record { valence = (point_of s p.0).valence; start = s.edges_taken; mark = (point_of s p.0).mark } =
          subst (λ x. point_of split-state x ≡ record { valence = (point_of s x).valence; start = s.edges_taken; mark = (point_of s x).mark })
          (dest-is ∙ (unfold point_no in ap (λ x. x.0) q))
          (point-destination s h.room e.0 e-below h-below p-below q-below e-other q-other) in
          record {
            valence-kept = ap (λ x. x.valence) w ∙ (h.old-point p).valence-kept;
            mark-kept = ap (λ x. x.mark) w ∙ (h.old-point p).mark-kept;
            start-found =
                inr
                (record {
                  last = e;
                  ends-here = q;
                  is-split = inr refl;
                  start_is = ap (λ x. x.start) w ∙ half-row;
                  latest = λ e' x y. max e' y;
                });
          }
        where
          max : (e' : Row ne) → Split e' → edge_no c order (dst e') ≤ edge_no c order (dst e)
          max e' (inl y) = later e' y
          max e' (inr y) = rw y (omega arith)

      old-there : (p : Row np) → t.dest e ≢ p → OldPoint m c order Split split-state p
      old-there p n =
          record {
            valence-kept = ap (λ x. x.valence) w ∙ (h.old-point p).valence-kept;
            mark-kept = ap (λ x. x.mark) w ∙ (h.old-point p).mark-kept;
            start-found = start (h.old-point p).start-found;
          }
        where
          w : point_of split-state p.0 ≡ point_of s p.0
          w =
              unfold point_no in
              frame-point (old p) (λ q. n (cc)) (λ q. let z : ◌≡◌ {A = ℕ} 0 1 = cc in omega arith)

          kept : (e' : Row ne) → t.dest e' ≡ p → Split e' → S e'
          kept e' q (inl y) = y
          kept e' q (inr y) = absurd (n (ap t.dest (sym y) ∙ q))

          start : Unchanged m c order S s p ⊎ Latest m c order S s p → Unchanged m c order Split split-state p ⊎ Latest m c order Split split-state p
          start (inl u) =
              inl (record { none-split = λ e' q y. u.none-split e' q (kept e' q y); start-kept = ap (λ x. x.start) w ∙ u.start-kept })
          start (inr l) =
              inr
              (record {
                last = l.last;
                ends-here = l.ends-here;
                is-split = inl l.is-split;
                start_is = ap (λ x. x.start) w ∙ l.start_is;
                latest = λ e' q y. l.latest e' q (kept e' q y);
              })

      -- ---- all of it

      same-edge : (i : Row ne) → Dec (i ≡ e)
      same-edge i = go (ℕ_discrete i.0 e.0)
        where
          go : Dec (i.0 ≡ e.0) → Dec (i ≡ e)
          go (yes q) = yes (row-path i e q)
          go (no n) = no (λ q. n (ap (λ x. x.0) q))

      pub content-split : Content m c order Split k split-state
      content-split =
          record {
            room = room_split s h.room e.0 e-below h-below p-below q-below e-other q-other;
            whole =
                λ i n.
                frame-ends (org i) (λ q. n (inr (cc))) (λ q. let z : ◌≡◌ {A = ℕ} 0 1 = cc in omega arith)
                ∙ h.whole i (λ x. n (inl x));
            origin-half = λ i x. origin i x (same-edge i);
            destination-half = λ i x. destination i x (same-edge i);
            linked = λ d x l. linked' d x l (same-edge (edge d));
            done = done-split;
            middle = λ i x. middle' i x (same-edge i);
            centre =
                λ f l.
                frame-point (face_point f) (λ q. let z : ◌≡◌ {A = ℕ} 0 1 = cc in omega arith) (λ q. let z : ◌≡◌ {A = ℕ} 0 1 = cc in omega arith)
                ∙ h.centre f l;
            old-point = λ p. point p (ℕ_discrete (t.dest e).0 p.0);
          }
        where
          before : (i : Row ne) → Split i → i ≢ e → S i
          before i (inl x) n = x
          before i (inr x) n = absurd (n x)

          origin : (i : Row ne) → Split i → Dec (i ≡ e) → ends split-state (edge_no c order (org i)) ≡ ends_at m c order (org i)
          origin i x (yes q) = rw q origin_here
          origin i x (no n) =
              frame-ends (org i) (λ q. n (cc)) (λ q. let z : ◌≡◌ {A = ℕ} 0 1 = cc in omega arith) ∙ h.origin-half i (before i x n)

          destination : (i : Row ne) → Split i → Dec (i ≡ e) → ends split-state (edge_no c order (dst i)) ≡ ends_at m c order (dst i)
          destination i x (yes q) = rw q destination-here
          destination i x (no n) =
              frame-ends (dst i) (λ q. let z : ◌≡◌ {A = ℕ} 0 1 = cc in omega arith) (λ q. n (cc)) ∙ h.destination-half i (before i x n)

          linked' : (d : Dart (Row ne)) → Split (edge d) → k ≤ when c order (face t d) → Dec (edge d ≡ e) → link m c order split-state d ≡ edge_no c order (dst (edge d))
          linked' d x l (yes q) = linked-here d q
          linked' d x l (no n) = linked-there d n ∙ h.linked d (before (edge d) x n) l

          middle' : (i : Row ne) → Split i → Dec (i ≡ e) → point_of split-state (point_no c order (mid i)) ≡ mid_at c order i
          middle' i x (yes q) = rw q middle-here
          middle' i x (no n) =
              frame-point (mid i) (λ q. let z : ◌≡◌ {A = ℕ} 0 1 = cc in omega arith) (λ q. n (cc)) ∙ h.middle i (before i x n)

          point : (p : Row np) → Dec ((t.dest e).0 ≡ p.0) → OldPoint m c order Split split-state p
          point p (yes q) = old-here p (row-path _ _ q)
          point p (no n) = old-there p (λ q. n (ap (λ x. x.0) q))
