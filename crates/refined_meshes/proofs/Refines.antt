-- Visits in an order that names each face once make the refinement of the first edition. Assumes nothing.
--     refines-of-arrived        what stands after the last turn is the refinement
--     first-refines             what the visits leave
--     visited-points, visited-edges, visited-faces     what the tables held before shows in no row that the visits make
use mathlib.Core.Path.{◌≡◌, refl, sym, ◌∙◌, ap}
use mathlib.Core.Bool.{Bool, true, false}
use mathlib.Core.List.{List, []}
use mathlib.Core.Logic.{◌⊎◌, inl, inr}
use mathlib.Core.Option.{map}
use Prim.Native.Nat.{ℕ, ◌+◌, ◌-◌, ◌*◌, ◌≤◌, ◌<◌}
use native.Mathlib.Omega.{arith}
use lib.Ieee.{Float}
use borrow.Author.Tests.{ltb-true, ltb-false, lt-ltb, le-ltb}
use Rattle.perimeters.proofs.Laws.{prev-first}
use Rattle.closed_meshes.specs.Mesh.{MeshOver, Place, place0, place1, place2, place3, Dart, lft, rgt, edge, flip, first, face, acw, cw}
use Rattle.closed_meshes.specs.Closed.{Closed}
use Rattle.closed_meshes.specs.Refinement.{NewPoint, old, mid, face_point, NewEdge, org, dst, join, first_half, refined}
use Rattle.closed_meshes.specs.Renumbering.{Bijection, Touching, Row}
use Rattle.closed_meshes.proofs.Counting.{numbering}
use Rattle.closed_meshes.proofs.Counts.{count-points, count-edges, count-darts}
use Rattle.closed_meshes.proofs.Groupoid.{identity}
use Rattle.closed_meshes.proofs.Isomorphisms.{onto}
use Rattle.closed_meshes.proofs.NewDarts.{start-half, edge-start-half, face-start-half}
use Rattle.tables.specs.Mesh.{Mesh, valence, start, mark, origin, dest, left_face, right_face, left_cw, left_acw, right_cw, right_acw, interval, face_start, corner, point_rows, edge_rows, face_rows}
use Rattle.audited_meshes.specs.Rows.{place as place_no, corner_word, Stands, HoldsClosed}
use Rattle.refined_meshes.specs.State.{State, with_positions, edge_of, copied}
use Rattle.refined_meshes.specs.Order.{EachOnce, turn_in}
use Rattle.refined_meshes.specs.Visits.{refined_rows, visits}
use Rattle.refined_meshes.specs.declared.Edition.TheVariants.{First}
use Rattle.refined_meshes.specs.Refines.{Refines, StartOfOld}
use Rattle.refined_meshes.specs.Refines as Claims
use Rattle.refined_meshes.proofs.Places.{dart_at, place, face-dart_at, dart_at-prev, dart_at-zero}
use Rattle.refined_meshes.proofs.Leads.{when, when-below, when-injective, leads, lead}
use Rattle.refined_meshes.proofs.Numbering.{turn_of, point_no, edge_no, face_no, point_no-injective, edge_no-injective, face_no-injective, point_no-fits, edge_no-fits, face_no-fits, face_no-first}
use Rattle.refined_meshes.proofs.Words.{Side, PointWords, ends, side, point_of, face_of, edge_from}
use Rattle.refined_meshes.proofs.Target.{found, joint, ends_at, first_side, second_side, out_side, in_side, mid_at, centre_at, face_at, row_of}
use Rattle.refined_meshes.proofs.Content.{Done, Latest, Unchanged}
use Rattle.refined_meshes.proofs.Splits.{Past}
use Rattle.refined_meshes.proofs.Visits.{Arriving}
use Rattle.refined_meshes.proofs.Orders.{order_of, when-turn_in}
use Rattle.refined_meshes.proofs.Runs.{Rooms, rooms-of, arriving}
use Rattle.refined_meshes.proofs.Renumbered.{renumbered, renumbering, renumbered-touching}

module _
    (m : Mesh) {np ne nf : ℕ} {t : MeshOver (Row np) (Row ne) (Row nf)} (stands : Stands m t) (c : Closed t) (order : Bijection (Row nf) (Row nf))
    (s : State) (h : Arriving m stands c order nf s)
  where
    abbrev R : MeshOver (NewPoint (Row np) (Row ne) (Row nf)) (NewEdge (Row ne)) (Dart (Row ne))
    R = refined t c

    -- ---- the numbering

    points : Bijection (NewPoint (Row np) (Row ne) (Row nf)) (Row (np + ne + nf))
    points =
        numbering (count-points (identity (Row np)) (identity (Row ne)) (identity (Row nf))) (λ x. (point_no c order x, point_no-fits c order x))
        (λ x y q. point_no-injective c order x y (ap (λ r. r.0) q))

    edges : Bijection (NewEdge (Row ne)) (Row (4 * ne))
    edges =
        numbering (count-edges (identity (Row ne))) (λ x. (edge_no c order x, edge_no-fits c order x))
        (λ x y q. edge_no-injective c order x y (ap (λ r. r.0) q))

    faces : Bijection (Dart (Row ne)) (Row (2 * ne))
    faces =
        numbering (count-darts (identity (Row ne))) (λ d. (face_no c order d, face_no-fits c order d))
        (λ x y q. face_no-injective c order x y (ap (λ r. r.0) q))

    -- ---- all is done

    all_past : (e : Row ne) → Past c order nf 0 e
    all_past e = inl (unfold turn_of in when-below c order (face t (lead c order e)))

    all_done : (d : Dart (Row ne)) → Done m c order s d
    all_done d = h.content.done d (when-below c order (face t d))

    -- What stands in the rows, by kinds.
    ends-final : (x : NewEdge (Row ne)) → ends s (edge_no c order x) ≡ ends_at m c order x
    ends-final (org e) = h.content.origin-half e (all_past e)
    ends-final (dst e) = h.content.destination-half e (all_past e)
    ends-final (join d) = (all_done d).join-ends

    origin-final : (x : NewEdge (Row ne)) → (ends s (edge_no c order x)).origin ≡ point_no c order (R.origin x)
    origin-final x = ap (λ n. n.origin) (ends-final x) ∙ by-kinds x
      where
        by-kinds : (x : NewEdge (Row ne)) → (ends_at m c order x).origin ≡ point_no c order (R.origin x)
        by-kinds (org e) = unfold ends_at point_no in refl
        by-kinds (dst e) = unfold ends_at in refl
        by-kinds (join d) = unfold ends_at in refl

    dest-final : (x : NewEdge (Row ne)) → (ends s (edge_no c order x)).dest ≡ point_no c order (R.dest x)
    dest-final x = ap (λ n. n.dest) (ends-final x) ∙ by-kinds x
      where
        by-kinds : (x : NewEdge (Row ne)) → (ends_at m c order x).dest ≡ point_no c order (R.dest x)
        by-kinds (org e) = unfold ends_at in refl
        by-kinds (dst e) = unfold ends_at point_no in refl
        by-kinds (join d) = unfold ends_at in refl

    side_of : Dart (NewEdge (Row ne)) → Side
    side_of y = record { face = face_no c order (face R y); acw = edge_no c order (acw R y); cw = edge_no c order (cw R y) }

    side-final : (y : Dart (NewEdge (Row ne))) → side s (row_of c order y) ≡ side_of y
    unfolding side_of first_side second_side out_side in_side
    side-final (lft (org e)) = (all_done (lft e)).first-half
    side-final (lft (dst e)) = (all_done (lft e)).second-half
    side-final (lft (join d)) = (all_done d).join-left
    side-final (rgt (org e)) = (all_done (rgt e)).second-half
    side-final (rgt (dst e)) = (all_done (rgt e)).first-half
    side-final (rgt (join d)) = (all_done d).join-right

    -- ---- start edges

    -- the start edge of an old point, seen so that it begins there
    old_start : (p : Row np) → (y : Dart (NewEdge (Row ne))) × ((point_of s p.0).start ≡ edge_no c order (edge y)) × (first R y ≡ old p)
    old_start p = go (h.content.old-point p).start-found
      where
        kept : Unchanged m c order (Past c order nf 0) s p → (d : Dart (Row ne)) → edge d ≡ t.start p → first t d ≡ p
            → (y : Dart (NewEdge (Row ne))) × ((point_of s p.0).start ≡ edge_no c order (edge y)) × (first R y ≡ old p)
        kept u (lft e) q r = (lft (org e), u.start-kept ∙ (unfold edge_no in ap (λ x. x.0) (sym q)), ap old r)
        kept u (rgt e) q r = absurd (u.none-split e r (all_past e))

        go : Unchanged m c order (Past c order nf 0) s p ⊎ Latest m c order (Past c order nf 0) s p
            → (y : Dart (NewEdge (Row ne))) × ((point_of s p.0).start ≡ edge_no c order (edge y)) × (first R y ≡ old p)
        go (inl u) = kept u (c.point_dart p) (c.edge-point_dart p) (c.about-points.cls-start p)
        go (inr l) = (rgt (dst l.last), l.start_is, ap old l.ends-here)

    start_dart : (x : NewPoint (Row np) (Row ne) (Row nf))
        → (y : Dart (NewEdge (Row ne))) × ((point_of s (point_no c order x)).start ≡ edge_no c order (edge y)) × (first R y ≡ x)
    start_dart (old p) = unfold point_no in old_start p
    start_dart (mid e) =
        (rgt (org e), (unfold edge_no mid_at in ap (λ w. w.start) (h.content.middle e (all_past e))), refl)
    start_dart (face_point f) = (
      lft (join (dart_at c f (c.size f - 1))),
      (unfold centre_at in ap (λ w. w.start) (h.content.centre f (when-below c order f))),
      ap face_point (face-dart_at c f (c.size f - 1)),
    )

    abbrev mesh' : MeshOver (Row (np + ne + nf)) (Row (4 * ne)) (Row (2 * ne))
    mesh' = renumbered R points edges faces (λ x. edge (start_dart x).0) first_half

    touching' : Touching mesh'
    touching' =
        renumbered-touching R points edges faces (λ x. edge (start_dart x).0) first_half
        (λ x. ((start_dart x).0, refl, (start_dart x).2)) (λ d. (start-half d, edge-start-half d, face-start-half t c d))

    -- ---- the words of the mesh stand in the tables

    module _ (ps : List Float) where
      abbrev m' : Mesh
      m' = with_positions ps s

      valence-kind : (x : NewPoint (Row np) (Row ne) (Row nf)) → (point_of s (point_no c order x)).valence ≡ R.valence x
      valence-kind (old p) = unfold point_no in (h.content.old-point p).valence-kept
      valence-kind (mid e) = unfold mid_at in ap (λ w. w.valence) (h.content.middle e (all_past e))
      valence-kind (face_point f) = unfold centre_at in ap (λ w. w.valence) (h.content.centre f (when-below c order f))

      -- A word of a new edge is a word of a side of its row.
      left-words : (x : NewEdge (Row ne)) → side s (lft (edge_no c order x)) ≡ side_of (lft x)
      left-words x = unfold row_of in side-final (lft x)

      right-words : (x : NewEdge (Row ne)) → side s (rgt (edge_no c order x)) ≡ side_of (rgt x)
      right-words x = unfold row_of in side-final (rgt x)

      corner-kind : (d : Dart (Row ne)) (k : Place) → corner m' (face_no c order d) (place_no k) ≡ corner_word (map points.to (R.corner d k))
      unfolding points face_of face_at point_no
      corner-kind d place0 = ap (λ w. w.corner0) (all_done d).new-face
      corner-kind d place1 = ap (λ w. w.corner1) (all_done d).new-face
      corner-kind d place2 = ap (λ w. w.corner2) (all_done d).new-face
      corner-kind d place3 = ap (λ w. w.corner3) (all_done d).new-face

      stands' : Stands m' mesh'
      unfolding points edges faces point_of ends side side_of face_of face_at
      stands' =
          record {
            valence-stands =
                onto points (λ r. valence m' r.0 ≡ mesh'.valence r) λ x.
                valence-kind x ∙ ap R.valence (sym (points.from-to x));
            start-stands =
                onto points (λ r. start m' r.0 ≡ (mesh'.start r).0) λ x.
                (start_dart x).1 ∙ ap (λ y. (edges.to (edge (start_dart y).0)).0) (sym (points.from-to x));
            origin-stands =
                onto edges (λ r. origin m' r.0 ≡ (mesh'.origin r).0) λ x.
                origin-final x ∙ ap (λ y. (points.to (R.origin y)).0) (sym (edges.from-to x));
            dest-stands =
                onto edges (λ r. dest m' r.0 ≡ (mesh'.dest r).0) λ x.
                dest-final x ∙ ap (λ y. (points.to (R.dest y)).0) (sym (edges.from-to x));
            left_face-stands =
                onto edges (λ r. left_face m' r.0 ≡ (mesh'.left r).0) λ x.
                ap (λ w. w.face) (left-words x) ∙ ap (λ y. (faces.to (R.left y)).0) (sym (edges.from-to x));
            right_face-stands =
                onto edges (λ r. right_face m' r.0 ≡ (mesh'.right r).0) λ x.
                ap (λ w. w.face) (right-words x) ∙ ap (λ y. (faces.to (R.right y)).0) (sym (edges.from-to x));
            left_cw-stands =
                onto edges (λ r. left_cw m' r.0 ≡ (mesh'.left_cw r).0) λ x.
                ap (λ w. w.cw) (left-words x) ∙ ap (λ y. (edges.to (R.left_cw y)).0) (sym (edges.from-to x));
            left_acw-stands =
                onto edges (λ r. left_acw m' r.0 ≡ (mesh'.left_acw r).0) λ x.
                ap (λ w. w.acw) (left-words x) ∙ ap (λ y. (edges.to (R.left_acw y)).0) (sym (edges.from-to x));
            right_cw-stands =
                onto edges (λ r. right_cw m' r.0 ≡ (mesh'.right_cw r).0) λ x.
                ap (λ w. w.cw) (right-words x) ∙ ap (λ y. (edges.to (R.right_cw y)).0) (sym (edges.from-to x));
            right_acw-stands =
                onto edges (λ r. right_acw m' r.0 ≡ (mesh'.right_acw r).0) λ x.
                ap (λ w. w.acw) (right-words x) ∙ ap (λ y. (edges.to (R.right_acw y)).0) (sym (edges.from-to x));
            face_start-stands =
                onto faces (λ r. face_start m' r.0 ≡ (mesh'.face_start r).0) λ d.
                ap (λ w. w.start) (all_done d).new-face ∙ ap (λ y. (edges.to (first_half y)).0) (sym (faces.from-to d));
            corner-stands =
                λ r k.
                onto faces (λ r. corner m' r.0 (place_no k) ≡ corner_word (mesh'.corner r k))
                (λ d. corner-kind d k ∙ ap (λ y. corner_word (map points.to (R.corner y k))) (sym (faces.from-to d)))
                r;
          }

-- ---- the rows after all visits, whatever stood in the tables before

-- A point's words are three.
point-words : (a b : PointWords) → a.valence ≡ b.valence → a.start ≡ b.start → a.mark ≡ b.mark → a ≡ b
point-words a b x y z =
    let e : ◌≡◌ {A = PointWords} (record { valence = a.valence; start = a.start; mark = a.mark }) (record { valence = b.valence; start = b.start; mark = b.mark })
    = rw (x, y, z) in
    e

module _
    (m : Mesh) {np ne nf : ℕ} {t : MeshOver (Row np) (Row ne) (Row nf)} (stands : Stands m t) (c : Closed t) (order : Bijection (Row nf) (Row nf))
    (s s' : State) (h : Arriving m stands c order nf s) (h' : Arriving m stands c order nf s')
  where
    -- the start edge of an old point is the one of the old mesh in both, or the latest destination half in both
    old-start-alike : (p : Row np) → (point_of s' p.0).start ≡ (point_of s p.0).start
    old-start-alike p = go (h.content.old-point p).start-found (h'.content.old-point p).start-found
      where
        past : (e : Row ne) → Past c order nf 0 e
        past = all_past m stands c order s h

        go : Unchanged m c order (Past c order nf 0) s p ⊎ Latest m c order (Past c order nf 0) s p →
            Unchanged m c order (Past c order nf 0) s' p ⊎ Latest m c order (Past c order nf 0) s' p → (point_of s' p.0).start ≡ (point_of s p.0).start
        go (inl u) (inl u') = u'.start-kept ∙ sym u.start-kept
        go (inl u) (inr l') = absurd (u.none-split l'.last l'.ends-here (past l'.last))
        go (inr l) (inl u') = absurd (u'.none-split l.last l.ends-here (past l.last))
        go (inr l) (inr l') =
            omega (
              arith,
              l.start_is,
              l'.start_is,
              l.latest l'.last l'.ends-here (past l'.last),
              l'.latest l.last l.ends-here (past l.last),
            )

    pub points-alike : (r : Row (np + ne + nf)) → point_of s' r.0 ≡ point_of s r.0
    unfolding points
    points-alike = onto (points m stands c order s h) (λ r. point_of s' r.0 ≡ point_of s r.0) by-kinds
      where
        by-kinds : (x : NewPoint (Row np) (Row ne) (Row nf)) → point_of s' (point_no c order x) ≡ point_of s (point_no c order x)
        by-kinds (old p) =
            unfold point_no in
            point-words (point_of s' p.0) (point_of s p.0) ((h'.content.old-point p).valence-kept ∙ sym (h.content.old-point p).valence-kept)
            (old-start-alike p) ((h'.content.old-point p).mark-kept ∙ sym (h.content.old-point p).mark-kept)
        by-kinds (mid e) =
            h'.content.middle e (all_past m stands c order s' h' e) ∙ sym (h.content.middle e (all_past m stands c order s h e))
        by-kinds (face_point f) = h'.content.centre f (when-below c order f) ∙ sym (h.content.centre f (when-below c order f))

    pub ends-alike : (r : Row (4 * ne)) → ends s' r.0 ≡ ends s r.0
    unfolding edges
    ends-alike =
        onto (edges m stands c order s h) (λ r. ends s' r.0 ≡ ends s r.0) λ x.
        ends-final m stands c order s' h' x ∙ sym (ends-final m stands c order s h x)

    pub left-alike : (r : Row (4 * ne)) → side s' (lft r.0) ≡ side s (lft r.0)
    unfolding edges side_of
    left-alike =
        onto (edges m stands c order s h) (λ r. side s' (lft r.0) ≡ side s (lft r.0)) λ x.
        left-words m stands c order s' h' [] x ∙ sym (left-words m stands c order s h [] x)

    pub right-alike : (r : Row (4 * ne)) → side s' (rgt r.0) ≡ side s (rgt r.0)
    unfolding edges side_of
    right-alike =
        onto (edges m stands c order s h) (λ r. side s' (rgt r.0) ≡ side s (rgt r.0)) λ x.
        right-words m stands c order s' h' [] x ∙ sym (right-words m stands c order s h [] x)

    pub faces-alike : (r : Row (2 * ne)) → face_of s' r.0 ≡ face_of s r.0
    unfolding faces
    faces-alike =
        onto (faces m stands c order s h) (λ r. face_of s' r.0 ≡ face_of s r.0) λ d.
        (all_done m stands c order s' h' d).new-face ∙ sym (all_done m stands c order s h d).new-face

-- ---- the theorem

module _
    (m : Mesh) {np ne nf : ℕ} {t : MeshOver (Row np) (Row ne) (Row nf)} (stands : Stands m t) (c : Closed t) (order : List ℕ) (once : EachOnce nf order)
    (s : State) (h : Arriving m stands c (order_of order once) nf s)
  where
    abbrev by-turns : Bijection (Row nf) (Row nf)
    by-turns = order_of order once

    -- A face leads exactly if it comes earlier in the order.
    found-is : (d : Dart (Row ne)) → found m c by-turns d ≡ Claims.found m t order d
    found-is d = go (leads c by-turns d) refl
      where
        own : when c by-turns (face t d) ≡ turn_in order (face t d).0
        own = when-turn_in order once c (face t d)

        across : when c by-turns (face t (flip d)) ≡ turn_in order (face t (flip d)).0
        across = when-turn_in order once c (face t (flip d))

        differ : (d : Dart (Row ne)) → ¬ (face t (flip d) ≡ face t d)
        differ (lft e) q = c.sides-differ e (sym q)
        differ (rgt e) q = c.sides-differ e q

        other : ¬ (when c by-turns (face t (flip d)) ≡ when c by-turns (face t d))
        other q = differ d (when-injective c by-turns _ _ q)

        go : (b : Bool) → leads c by-turns d ≡ b → found m c by-turns d ≡ Claims.found m t order d
        go true q =
            let l : when c by-turns (face t d) < when c by-turns (face t (flip d)) = ltb-true _ _ (unfold leads in q) in
            rw (q, le-ltb (turn_in order (face t (flip d)).0) (turn_in order (face t d).0) (omega (arith, own, across)))
        go false q =
            let l : when c by-turns (face t (flip d)) ≤ when c by-turns (face t d) = ltb-false _ _ (unfold leads in q) in
            rw (q, lt-ltb (turn_in order (face t (flip d)).0) (turn_in order (face t d).0) (omega (arith, own, across, other)))

    joint-is : (d : Dart (Row ne)) → joint m c by-turns d ≡ Claims.joint m t First c order d
    joint-is d = rw (found-is (c.next d), found-is (c.prev d))

    refines-of-arrived : (ps : List Float) → Refines First m t c order (with_positions ps s)
    unfolding points edges faces
    refines-of-arrived ps =
        record {
          mesh = mesh' m stands c by-turns s h;
          stands = stands' m stands c by-turns s h ps;
          numbering =
              renumbering (refined t c) (points m stands c by-turns s h) (edges m stands c by-turns s h)
              (faces m stands c by-turns s h) (λ x. edge (start_dart m stands c by-turns s h x).0) first_half;
          touching = touching' m stands c by-turns s h;
          old_row = λ p. unfold point_no in refl;
          origin-row = λ e. unfold edge_no in refl;
          first-row = first;
          mid_row = λ e. unfold ends edge_no in dest-final m stands c by-turns s h (org e);
          centre-row = centre;
          old-mark = λ p. unfold point_of in (h.content.old-point p).mark-kept;
          mid-mark = λ e. unfold point_of mid_at in ap (λ w. w.mark) (h.content.middle e (past e));
          centre-mark = λ f. unfold point_of centre_at in ap (λ w. w.mark) (h.content.centre f (when-below c by-turns f));
          origin-interval = λ e. unfold ends ends_at edge_no in ap (λ w. w.interval) (ends-final m stands c by-turns s h (org e));
          destination-interval = λ e. unfold ends ends_at in ap (λ w. w.interval) (ends-final m stands c by-turns s h (dst e));
          join-interval = λ d. joined d ∙ joint-is d;
          old-start = λ p. starts p (h.content.old-point p).start-found;
          mid_start = λ e. unfold point_of mid_at edge_no in ap (λ w. w.start) (h.content.middle e (past e));
          centre-start = λ f. centred f ∙ ap (λ d. edge_no c by-turns (join d)) (last f);
          face-start = λ d. unfold face_of face_at in ap (λ w. w.start) (done d).new-face;
        }
      where
        past : (e : Row ne) → Past c by-turns nf 0 e
        past = all_past m stands c by-turns s h

        done : (d : Dart (Row ne)) → Done m c by-turns s d
        done = all_done m stands c by-turns s h

        first-place : (f : Row nf) → place c (c.face_dart f) ≡ 0
        first-place f = unfold place in c.about-faces.rank-start f

        first : (f : Row nf) → face_no c by-turns (c.face_dart f) ≡ f.0
        first f = face_no-first c by-turns (c.face_dart f) (first-place f) ∙ ap (λ x. x.0) (c.about-faces.cls-start f)

        corner-word : (f : Row nf) → (face_of s (face_no c by-turns (c.face_dart f))).corner0 ≡ point_no c by-turns (face_point f)
        corner-word f =
            ap (λ w. w.corner0) (done (c.face_dart f)).new-face
            ∙ (unfold face_at in ap (λ g. point_no c by-turns (face_point g)) (c.about-faces.cls-start f))

        centre : (f : Row nf) → corner (with_positions ps s) f.0 0 ≡ point_no c by-turns (face_point f)
        centre f = unfold face_of in (ap (λ k. (face_of s k).corner0) (sym (first f)) ∙ corner-word f)

        joined : (d : Dart (Row ne)) → interval (with_positions ps s) (edge_no c by-turns (join d)) ≡ joint m c by-turns d
        joined d = unfold ends ends_at in ap (λ w. w.interval) (ends-final m stands c by-turns s h (join d))

        centred : (f : Row nf) → start (with_positions ps s) (point_no c by-turns (face_point f)) ≡ edge_no c by-turns (join (dart_at c f (c.size f - 1)))
        centred f = unfold point_of centre_at in ap (λ w. w.start) (h.content.centre f (when-below c by-turns f))

        last : (f : Row nf) → dart_at c f (c.size f - 1) ≡ c.prev (c.face_dart f)
        last f =
            let some : 0 < c.size f = omega (arith, c.size_low f) in
            ap (dart_at c f) (sym (prev-first (c.size f) 0 some refl)) ∙ dart_at-prev c f 0 some ∙ ap c.prev (dart_at-zero c f)

        starts :
            (p : Row np) → Unchanged m c by-turns (Past c by-turns nf 0) s p ⊎ Latest m c by-turns (Past c by-turns nf 0) s p
            → StartOfOld t (λ e. edge_no c by-turns (dst e)) p (start m p.0) (start (with_positions ps s) p.0)
        starts p (inl u) = inl (λ e q. u.none-split e q (past e), unfold point_of in (u.start-kept ∙ sym (stands.start-stands p)))
        starts p (inr l) =
            inr
            (record {
              last = l.last;
              ends-here = l.ends-here;
              is_last = unfold point_of in l.start_is;
              highest = λ e q. l.latest e q (past e);
            })

pub first-refines :
    (m : Mesh) (np ne nf : ℕ) (h : HoldsClosed m np ne nf) (order : List ℕ) → EachOnce nf order → (u : Mesh)
    → np + ne + nf ≤ point_rows u → 4 * ne ≤ edge_rows u → 2 * ne ≤ face_rows u
    → (ps : List Float) → Refines First m h.mesh h.closed order (with_positions ps (refined_rows m np ne nf order u))
unfolding refined_rows
first-refines m np ne nf h order once u pr er fr ps =
    let r : Rooms m np ne nf u = rooms-of m h order once u pr er fr in
    refines-of-arrived m h.stands h.closed order once (visits m np ne nf order (copied m np ne nf u))
    (arriving r h.stands h.closed order once nf (omega arith)) ps

-- What the tables held before shows in no row that the visits make.
module _
    (m : Mesh) (np ne nf : ℕ) (h : HoldsClosed m np ne nf) (order : List ℕ) (once : EachOnce nf order) (u u' : Mesh)
    (pr : np + ne + nf ≤ point_rows u) (er : 4 * ne ≤ edge_rows u) (fr : 2 * ne ≤ face_rows u)
    (pr' : np + ne + nf ≤ point_rows u') (er' : 4 * ne ≤ edge_rows u') (fr' : 2 * ne ≤ face_rows u')
  where
    abbrev s : State
    s = visits m np ne nf order (copied m np ne nf u)

    abbrev s' : State
    s' = visits m np ne nf order (copied m np ne nf u')

    came : Arriving m h.stands h.closed (order_of order once) nf s
    came = arriving (rooms-of m h order once u pr er fr) h.stands h.closed order once nf (omega arith)

    came' : Arriving m h.stands h.closed (order_of order once) nf s'
    came' = arriving (rooms-of m h order once u' pr' er' fr') h.stands h.closed order once nf (omega arith)

    pub visited-points : (p : ℕ) → p < np + ne + nf → point_of s' p ≡ point_of s p
    visited-points p b = points-alike m h.stands h.closed (order_of order once) s s' came came' (p, b)

    pub visited-edges : (e : ℕ) → e < 4 * ne → edge_of s' e ≡ edge_of s e
    unfolding ends side
    visited-edges e b =
        let x = ends-alike m h.stands h.closed (order_of order once) s s' came came' (e, b) in
        let y = left-alike m h.stands h.closed (order_of order once) s s' came came' (e, b) in
        let z = right-alike m h.stands h.closed (order_of order once) s s' came came' (e, b) in
        ap (λ n. edge_from n (side s' (lft e)) (side s' (rgt e))) x ∙ ap (λ l. edge_from (ends s e) l (side s' (rgt e))) y
        ∙ ap (λ r. edge_from (ends s e) (side s (lft e)) r) z

    pub visited-faces : (f : ℕ) → f < 2 * ne → face_of s' f ≡ face_of s f
    visited-faces f b = faces-alike m h.stands h.closed (order_of order once) s s' came came' (f, b)
