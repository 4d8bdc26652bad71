-- A visit of a face keeps the invariant of the visits, and so all visits do. Assumes nothing.
--     Arriving k s          the invariant, with the rows taken, before the visit of turn k
--     arriving-visit        a visit leads to the next turn
use mathlib.Core.Path.{◌≡◌, refl, sym, ◌∙◌, ap}
use mathlib.Core.Bool.{Bool, true, false, cond}
use mathlib.Core.List.{List}
use mathlib.Core.Logic.{◌⊎◌, inl, inr, ◌≢◌}
use Prim.Native.Nat.{ℕ, suc, ◌+◌, ◌-◌, ◌≤◌, ◌<◌}
use native.Mathlib.Nat.{add-zero}
use native.Mathlib.Omega.{arith}
use native.Mathlib.Decide.{ℕ_discrete}
use lib.Dec.{eqb}
use lib.ListN.{get_or, length, replicate, length-replicate}
use lib.Ieee.{nan, of_bits, binary64}
use Rattle.closed_meshes.specs.Mesh.{MeshOver, Dart, lft, rgt, edge, face}
use Rattle.closed_meshes.specs.Closed.{Closed}
use Rattle.closed_meshes.specs.Refinement.{old, mid, face_point, org, dst, join, first_half, second_half}
use Rattle.closed_meshes.specs.Renumbering.{Bijection, Row, sum_to}
use Rattle.closed_meshes.proofs.NewDarts.{start-half, end-half, inward, outward}
use Rattle.tables.specs.Mesh.{Mesh, edge_table, left_acw, right_cw, interval}
use Rattle.audited_meshes.specs.Walks.{first_point}
use Rattle.audited_meshes.specs.Rows.{Stands}
use Rattle.refined_meshes.specs.State.{State, edge_of, take_rows}
use Rattle.refined_meshes.specs.Ring.{Ring, on_left, first_half_of, second_half_of}
use Rattle.refined_meshes.specs.Split.{half}
use Rattle.refined_meshes.specs.Visits.{found_on, split_all, ring_of, put_ring, visit_along}
use Rattle.refined_meshes.proofs.Places.{dart_at, face-dart_at, place-dart_at, place-below}
use Rattle.refined_meshes.proofs.Leads.{when, when-injective, leads, lead, lead_edge, size_at, size_at-when, splits, splits_before}
use Rattle.refined_meshes.proofs.Numbering.{turn_of, points_before, edges_before, faces_before, point_no, edge_no, face_no}
use Rattle.refined_meshes.proofs.Words.{ends, side, point_of}
use Rattle.refined_meshes.proofs.Target.{is_left, found, ends_old, ends_at, centre_at, row_of, old_dart}
use Rattle.refined_meshes.proofs.Turns.{get_or-filled}
use Rattle.refined_meshes.proofs.Content.{link, Done, Latest, Unchanged, OldPoint, Content, content-same, content-taken}
use Rattle.refined_meshes.proofs.Splits.{Past, turn_of-leads, turn_of-follows, Splitting, splitting-some}
use Rattle.refined_meshes.proofs.Ring.{RingIs}
use Rattle.refined_meshes.proofs.Ringed.{Ringed, ringed, taken, taken-put_ring}
use Rattle.refined_meshes.proofs.Perimeters.{left-of-dart, point-of-dart}

module _ (m : Mesh) {np ne nf : ℕ} {t : MeshOver (Row np) (Row ne) (Row nf)} (c : Closed t) (order : Bijection (Row nf) (Row nf)) where
  -- ---- the ring turns one face into a visited one

  module _
      {S : Row ne → Type 0} (f : Row nf) {s s' : State} (h : Content m c order S (when c order f) s) (r : Ringed m c order f s s')
    where
      abbrev k : ℕ
      k = when c order f

      other-link : (d : Dart (Row ne)) → face t d ≢ f → link m c order s' d ≡ link m c order s d
      unfolding link row_of edge_no
      other-link (lft e) n = ap (λ x. x.acw) (r.other-side (start-half (lft e)) n)
      other-link (rgt e) n = ap (λ x. x.cw) (r.other-side (end-half (rgt e)) n)

      other-done : (d : Dart (Row ne)) → face t d ≢ f → Done m c order s d → Done m c order s' d
      other-done d n o =
          record {
            join-ends = r.other-ends (join d) (λ d' q e. let z : d ≡ d' = cc in n (ap (face t) z ∙ q)) ∙ o.join-ends;
            first-half = r.other-side (start-half d) (same-face d (old_dart (start-half d)) (olds d).0 n) ∙ o.first-half;
            second-half = r.other-side (end-half d) (same-face d (old_dart (end-half d)) (olds d).1 n) ∙ o.second-half;
            join-left = r.other-side (outward d) n ∙ o.join-left;
            join-right = r.other-side (inward d) n ∙ o.join-right;
            new-face = r.other-face d n ∙ o.new-face;
          }
        where
          olds : (d : Dart (Row ne)) → (old_dart (start-half d) ≡ d) × (old_dart (end-half d) ≡ d)
          olds (lft e) = (refl, refl)
          olds (rgt e) = (refl, refl)

          same-face : (d d' : Dart (Row ne)) → d' ≡ d → face t d ≢ f → face t d' ≢ f
          same-face d d' q n e = n (ap (face t) (sym q) ∙ e)

      new-done : (d : Dart (Row ne)) → face t d ≡ f → Done m c order s' d
      new-done d q =
          record {
            join-ends = r.join-ends d q;
            first-half = r.first-half d q;
            second-half = r.second-half d q;
            join-left = r.join-left d q;
            join-right = r.join-right d q;
            new-face = r.new-face d q;
          }

      kept-old : (p : Row np) → OldPoint m c order S s p → OldPoint m c order S s' p
      kept-old p o =
          record {
            valence-kept = ap (λ x. x.valence) w ∙ o.valence-kept;
            mark-kept = ap (λ x. x.mark) w ∙ o.mark-kept;
            start-found = start o.start-found;
          }
        where
          w : point_of s' p.0 ≡ point_of s p.0
          w = unfold point_no in r.other-point (old p) (λ q. let z : ◌≡◌ {A = ℕ} 0 1 = cc in omega arith)

          start : Unchanged m c order S s p ⊎ Latest m c order S s p → Unchanged m c order S s' p ⊎ Latest m c order S s' p
          start (inl u) = inl (record { none-split = u.none-split; start-kept = ap (λ x. x.start) w ∙ u.start-kept })
          start (inr l) =
              inr
              (record {
                last = l.last;
                ends-here = l.ends-here;
                is-split = l.is-split;
                start_is = ap (λ x. x.start) w ∙ l.start_is;
                latest = l.latest;
              })

      content-ringed : Content m c order S (suc k) s'
      content-ringed =
          record {
            room = r.room;
            whole = λ e n. r.other-ends (org e) (λ d q x. let z : ◌≡◌ {A = ℕ} 0 1 = cc in omega arith) ∙ h.whole e n;
            origin-half = λ e x. r.other-ends (org e) (λ d q x. let z : ◌≡◌ {A = ℕ} 0 1 = cc in omega arith) ∙ h.origin-half e x;
            destination-half = λ e x. r.other-ends (dst e) (λ d q x. let z : ◌≡◌ {A = ℕ} 0 1 = cc in omega arith) ∙ h.destination-half e x;
            linked = λ d x l. other-link d (λ q. not_yet d q l) ∙ h.linked d x (omega arith);
            done = λ d l. visited d l (ℕ_discrete (when c order (face t d)) k);
            middle = λ e x. r.other-point (mid e) (λ q. let z : ◌≡◌ {A = ℕ} 0 1 = cc in omega arith) ∙ h.middle e x;
            centre = λ g l. centred g l (ℕ_discrete (when c order g) k);
            old-point = λ p. kept-old p (h.old-point p);
          }
        where
          not_yet : (d : Dart (Row ne)) → face t d ≡ f → ¬ (suc k ≤ when c order (face t d))
          not_yet d q l = let e : when c order (face t d) ≡ k = ap (when c order) q in omega arith

          visited : (d : Dart (Row ne)) → when c order (face t d) < suc k → Dec (when c order (face t d) ≡ k) → Done m c order s' d
          visited d l (yes q) = new-done d (when-injective c order _ _ q)
          visited d l (no n) = other-done d (λ q. n (ap (when c order) q)) (h.done d (omega arith))

          centred :
              (g : Row nf) → when c order g < suc k → Dec (when c order g ≡ k)
              → point_of s' (point_no c order (face_point g)) ≡ centre_at c order g
          centred g l (yes q) = rw (when-injective c order _ _ q) r.centre
          centred g l (no n) = r.other-point (face_point g) (λ q. let z : g ≡ f = cc in n (ap (when c order) z)) ∙ h.centre g (omega arith)

-- ---- the ring that is read

module _
    (m : Mesh) {np ne nf : ℕ} {t : MeshOver (Row np) (Row ne) (Row nf)} (stands : Stands m t) (c : Closed t) (order : Bijection (Row nf) (Row nf))
  where
    pub record Arriving (k : ℕ) (s : State) : Type 0 where
      pub content : Content m c order (Past c order k 0) k s
      pub points-taken : s.points_taken ≡ points_before c order k
      pub edges-taken : s.edges_taken ≡ edges_before c order k
      pub faces-taken : s.faces_taken ≡ faces_before c order k

    module _
        (f : Row nf) (es : List ℕ) (perimeter : (i : ℕ) → i < c.size f → get_or es i 0 ≡ (edge (dart_at c f i)).0)
      where
        abbrev turn : ℕ
        turn = when c order f

        abbrev n : ℕ
        n = c.size f

        -- Each edge of the face is split once its perimeter is.
        past-on : (i : ℕ) → i < n → Past c order turn n (edge (dart_at c f i))
        past-on i l = go (leads c order (dart_at c f i)) refl
          where
            w : when c order (face t (dart_at c f i)) ≡ turn
            w = ap (when c order) (face-dart_at c f i)

            go : (b : Bool) → leads c order (dart_at c f i) ≡ b → Past c order turn n (edge (dart_at c f i))
            go true q =
                inr (turn_of-leads c order (dart_at c f i) q ∙ w, rw (lead_edge c order (dart_at c f i) q, place-dart_at c f i l) l)
            go false q = inl (rw (← w) (turn_of-follows c order (dart_at c f i) q))

        module _ (s all : State) (arrived : Arriving turn s) (after : Splitting m c order turn n all) where
          abbrev ring : Ring
          ring = ring_of m f.0 es n s.points_taken (found_on es n s) all

          room-64 : (x : ℕ) → n ≤ length (replicate 64 x)
          room-64 x = rw (length-replicate 64 x) (c.size-high f)

          link-is : (i : ℕ) → i < n → link m c order all (dart_at c f i) ≡ edge_no c order (dst (edge (dart_at c f i)))
          link-is i l = after.content.linked (dart_at c f i) (past-on i l) (rw (face-dart_at c f i) (omega arith))

          first_read : (d : Dart (Row ne)) → link m c order all d ≡ edge_no c order (dst (edge d)) → cond (is_left d)
              (edge d).0 (right_cw (edge_table all.edges) (edge d).0) ≡ edge_no c order (first_half d)
          unfolding link side edge_no
          first_read (lft e) q = refl
          first_read (rgt e) q = q

          second-read : (d : Dart (Row ne)) → link m c order all d ≡ edge_no c order (dst (edge d)) → cond (is_left d)
              (left_acw (edge_table all.edges) (edge d).0) (edge d).0 ≡ edge_no c order (second_half d)
          unfolding link side edge_no
          second-read (lft e) q = q
          second-read (rgt e) q = refl

          left-read : (i : ℕ) → i < n → on_left m f.0 (get_or es i 0) ≡ is_left (dart_at c f i)
          left-read i l =
              rw (perimeter i l)
              (ap (λ (g : Row nf). on_left m g.0 (edge (dart_at c f i)).0) (sym (face-dart_at c f i)) ∙ left-of-dart m stands c (dart_at c f i))

          mid-read : (i : ℕ) → i < n → (edge_of all (edge (dart_at c f i)).0).dest ≡ point_no c order (mid (edge (dart_at c f i)))
          mid-read i l =
              unfold ends ends_at edge_no in ap (λ x. x.dest) (after.content.origin-half (edge (dart_at c f i)) (past-on i l))

          -- The interval is found whole exactly if this face comes before the one across.
          found-read : (i : ℕ) → i < n → get_or s.intervals (edge (dart_at c f i)).0 nan ≡ found m c order (dart_at c f i)
          found-read i l = go (leads c order (dart_at c f i)) refl
            where
              d : Dart (Row ne)
              d = dart_at c f i

              w : when c order (face t d) ≡ turn
              w = ap (when c order) (face-dart_at c f i)

              go : (b : Bool) → leads c order d ≡ b → get_or s.intervals (edge d).0 nan ≡ cond (leads c order d) (interval m (edge d).0) (half (interval m (edge d).0))
              go true q = rw q (unfold ends ends_old edge_no in ap (λ x. x.interval) (arrived.content.whole (edge d) not_yet))
                where
                  not_yet : ¬ Past c order turn 0 (edge d)
                  not_yet (inl x) = omega (arith, turn_of-leads c order d q, w)
                  not_yet (inr x) = omega (arith, x.1)
              go false q =
                  rw q
                  (unfold ends ends_at edge_no in
                  ap (λ x. x.interval) (arrived.content.origin-half (edge d) (inl (rw (← w) (turn_of-follows c order d q)))))

          split-all : splits_before c order turn n ≡ splits c order turn
          split-all = unfold splits in ap (splits_before c order turn) (sym (size_at-when c order f))

          pub join-read : (i : ℕ) → i < n → all.edges_taken + i ≡ edge_no c order (join (dart_at c f i))
          unfolding edge_no
          join-read i l =
              rw (face-dart_at c f i, place-dart_at c f i l, after.edges-taken, split-all) (omega arith)

          pub face-read : (i : ℕ) → i < n → cond (eqb i 0) f.0 (all.faces_taken + (i - 1)) ≡ face_no c order (dart_at c f i)
          unfolding face_no
          face-read i l = rw (face-dart_at c f i, place-dart_at c f i l, after.faces-taken)

          pub ring-read : RingIs m c order ring f
          unfolding ring_of
          ring-read =
              record {
                size_is = refl;
                centre-is = unfold point_no in (arrived.points-taken ∙ sym (add-zero _));
                join_is = join-read;
                face-is = face-read;
                first-is =
                    λ i l.
                    get_or-filled n (λ i. first_half_of m.edges all.edges f.0 (get_or es i 0)) (replicate 64 0) 0 (room-64 0) i l
                    ∙ rw (left-read i l, perimeter i l) (first_read (dart_at c f i) (link-is i l));
                second_is =
                    λ i l.
                    get_or-filled n (λ i. second_half_of m.edges all.edges f.0 (get_or es i 0)) (replicate 64 0) 0 (room-64 0) i l
                    ∙ rw (left-read i l, perimeter i l) (second-read (dart_at c f i) (link-is i l));
                mid-is =
                    λ i l.
                    get_or-filled n (λ i. (edge_of all (get_or es i 0)).dest) (replicate 64 0) 0 (room-64 0) i l
                    ∙ rw (perimeter i l) (mid-read i l);
                found-is =
                    λ i l.
                    get_or-filled n (λ i. get_or s.intervals (get_or es i 0) nan) (replicate 64 (of_bits binary64 0)) nan
                    (rw (length-replicate 64 (of_bits binary64 0)) (c.size-high f)) i l
                    ∙ rw (perimeter i l) (found-read i l);
                left_is = left-read;
                point-is =
                    λ i l.
                    rw (perimeter i l)
                    (ap (λ (g : Row nf). first_point m g.0 (edge (dart_at c f i)).0) (sym (face-dart_at c f i)) ∙ point-of-dart m stands c (dart_at c f i));
              }

        -- ---- the whole visit

        -- Taking rows changes no word.
        pub splitting-begun : (s : State) → Arriving turn s → Splitting m c order turn 0 (take_rows 1 0 0 s)
        splitting-begun s h =
            record {
              content = content-taken m c order 1 0 0 h.content;
              points-taken = ap (λ x. x + 1) h.points-taken ∙ ap (λ x. points_before c order turn + suc x) (sym none);
              edges-taken = add-zero s.edges_taken ∙ h.edges-taken ∙ sym (ap (λ x. edges_before c order turn + x) none ∙ add-zero _);
              faces-taken = add-zero s.faces_taken ∙ h.faces-taken;
            }
          where
            none : splits_before c order turn 0 ≡ 0
            none = unfold splits_before sum_to in refl

        -- At the end of a turn the edges of its face are split, and at the beginning of the next.
        past_next : (e : Row ne) → Past c order turn n e → Past c order (suc turn) 0 e
        past_next e (inl l) = inl (omega arith)
        past_next e (inr l) = inl (omega (arith, l.0))

        next_past : (e : Row ne) → Past c order (suc turn) 0 e → Past c order turn n e
        next_past e (inl l) = go (ℕ_discrete (turn_of c order e) turn)
          where
            go : Dec (turn_of c order e ≡ turn) → Past c order turn n e
            go (yes q) =
                let g : face t (lead c order e) ≡ f = when-injective c order _ _ (unfold turn_of in q) in
                inr (q, rw (← g) (place-below c (lead c order e)))
            go (no k) = inl (omega arith)
        next_past e (inr l) = absurd (omega (arith, l.1))

        pub arriving-along : (s : State) → Arriving turn s → Arriving (suc turn) (visit_along m np f.0 es n s)
        unfolding visit_along
        arriving-along s h =
            record {
              content = content-same m c order past_next next_past (content-ringed m c order f after.content (ringed m c order f ring-here read all after.content.room));
              points-taken = ap (λ x. x.0) counts ∙ add-zero _ ∙ after.points-taken ∙ points-next;
              edges-taken = ap (λ x. x.1) counts ∙ sized (λ x. all.edges_taken + x) ∙ edges-next;
              faces-taken = ap (λ x. x.2) counts ∙ sized (λ x. all.faces_taken + (x - 1)) ∙ faces-next;
            }
          where
            all : State
            all = split_all np es n (take_rows 1 0 0 s)

            after : Splitting m c order turn n all
            after = splitting-some m c order f es n (omega arith) perimeter (take_rows 1 0 0 s) (splitting-begun s h)

            ring-here : Ring
            ring-here = ring_of m f.0 es n s.points_taken (found_on es n s) all

            read : RingIs m c order ring-here f
            read = ring-read s all h after

            counts : taken (put_ring m ring-here all) ≡ (all.points_taken + 0, all.edges_taken + ring-here.size, all.faces_taken + (ring-here.size - 1))
            counts = taken-put_ring m ring-here all

            sized : {A : Type 0} (g : ℕ → A) → g ring-here.size ≡ g n
            sized g = ap g read.size_is

            every-split : splits_before c order turn n ≡ splits c order turn
            every-split = split-all s all h after

            size-here : size_at c order turn ≡ n
            size-here = size_at-when c order f

            points-next : points_before c order turn + suc (splits_before c order turn n) ≡ points_before c order (suc turn)
            points-next = unfold points_before sum_to in omega (arith, every-split)

            edges-next : all.edges_taken + n ≡ edges_before c order (suc turn)
            edges-next = unfold edges_before sum_to in omega (arith, every-split, size-here, after.edges-taken)

            faces-next : all.faces_taken + (n - 1) ≡ faces_before c order (suc turn)
            faces-next = unfold faces_before sum_to in omega (arith, size-here, after.faces-taken)
