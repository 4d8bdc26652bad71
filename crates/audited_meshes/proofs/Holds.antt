-- Tables in which a closed mesh stands, with counts, numbers and marks that fit, pass the audit; and so the audit passes exactly
-- if the tables hold a closed mesh. Assumes nothing.
use mathlib.Core.Path.{◌≡◌, refl, sym, ◌∙◌, ap, subst, subst₂, subst₃}
use mathlib.Core.List.{List, map}
use mathlib.Core.Logic.Iff
use mathlib.Core.Logic.{◌⊎◌, inl, inr}
use mathlib.Core.Option.{Option, some}
use mathlib.Core.Option
use Prim.Native.Nat.{ℕ, zero, suc, ◌<◌}
use native.Mathlib.Omega.{arith}
use lib.ListN.{length, get_or, length-map}
use Rattle.closed_meshes.specs.Mesh.{MeshOver, Place, place0, place1, place2, place3, Dart, lft, rgt, edge, flip, first, second, face, acw, cw}
use Rattle.closed_meshes.specs.Closed.{Closed}
use Rattle.closed_meshes.specs.Renumbering.{Row}
use Rattle.closed_meshes.proofs.Counting.{row-path}
use Rattle.closed_meshes.proofs.Darts.{edge-flip, flip-flip, face-next, face-prev}
use Rattle.tables.specs.Mesh.{Mesh, none, start, origin, dest, left_face, right_face, left_cw, left_acw, right_cw, right_acw, face_start, corner}
use Rattle.audited_meshes.specs.Folds.{occurrences, Distinct}
use Rattle.audited_meshes.specs.Walks.{acw_of_face, cw_of_face, acw_of_point, first_point, Touches}
use Rattle.audited_meshes.specs.Audited.{Borders, SameEnds, Passes, EdgeInRange, AcwLinks, CwLinks, FaceWalked, PointWalked, Audited}
use Rattle.audited_meshes.specs.Rows.{place, corner_word, Stands, Fit}
use Rattle.audited_meshes.specs.Claims.{AuditIsClosed}
use Rattle.audited_meshes.proofs.Walks.{passes-once}
use Rattle.audited_meshes.proofs.Positions.{get_or-map-below}
use Rattle.audited_meshes.proofs.Cycles.{ClassWalk, walk_of-cycle}
use Rattle.audited_meshes.proofs.Audited.{audit-is-audited}
use Rattle.audited_meshes.proofs.Rows.{rows, rows-stand, rows_fit}
use Rattle.audited_meshes.proofs.Darts.{number, num, Seen, acw_of_face-dart, cw_of_face-dart, acw_of_point-dart}
use Rattle.audited_meshes.proofs.Darts.{first_point-dart, borders-dart, touches-first, dart-of-borders}
use Rattle.audited_meshes.proofs.Darts.{dart-of-touches, settled-on-face, settled-at-point}
use Rattle.audited_meshes.proofs.Closed.{closed-rows}

-- the place with a number
place_at : (k : ℕ) → k < 4 → (q : Place) × (place q ≡ k)
place_at zero l = (place0, refl)
place_at (suc zero) l = (place1, refl)
place_at (suc (suc zero)) l = (place2, refl)
place_at (suc (suc (suc zero))) l = (place3, refl)
place_at (suc (suc (suc (suc k)))) l = absurd (omega arith)

-- the word for a corner is a point number or the none mark
corner_word-fit : {np : ℕ} (o : Option (Row np)) → (corner_word o < np) ⊎ (corner_word o ≡ none)
corner_word-fit Option.none = inr refl
corner_word-fit (some p) = inl p.1

module _ (m : Mesh) {np ne nf : ℕ} (t : MeshOver (Row np) (Row ne) (Row nf)) (s : Stands m t) (c : Closed t) where
  pub seen : Seen m t
  seen = record { stands = s; ends-differ = c.ends-differ; sides-differ = c.sides-differ }

  num-next : (d : Dart (Row ne)) → num (c.next d) ≡ (acw t d).0
  num-next d = ap number (c.edge-next d)

  num-prev : (d : Dart (Row ne)) → num (c.prev d) ≡ (cw t d).0
  num-prev d = ap number (c.edge-prev d)

  -- ---- the links

  acw-links : (d : Dart (Row ne)) → AcwLinks m (num d) (second t d).0 (face t d).0 (num (c.next d))
  acw-links d =
      record {
        touches-end = subst (λ (p : Row np). Touches m p.0 (num (c.next d))) (c.first_next d) (touches-first seen (c.next d));
        borders-face = subst (λ (f : Row nf). Borders m f.0 (num (c.next d))) (face-next c d) (borders-dart seen (c.next d));
        links-back =
            ap (λ (f : Row nf). cw_of_face m f.0 (num (c.next d))) (sym (face-next c d))
            ∙ cw_of_face-dart seen (c.next d)
            ∙ sym (num-prev (c.next d))
            ∙ ap num (c.prev-next d);
      }

  cw-links : (d : Dart (Row ne)) → CwLinks m (num d) (face t d).0 (num (c.prev d))
  cw-links d =
      record {
        borders-face = subst (λ (f : Row nf). Borders m f.0 (num (c.prev d))) (face-prev c d) (borders-dart seen (c.prev d));
        links-back =
            ap (λ (f : Row nf). acw_of_face m f.0 (num (c.prev d))) (sym (face-prev c d))
            ∙ acw_of_face-dart seen (c.prev d)
            ∙ sym (num-next (c.prev d))
            ∙ ap num (c.next-prev d);
      }

  left-acw : (e : Row ne) → AcwLinks m e.0 (dest m e.0) (left_face m e.0) (left_acw m e.0)
  left-acw e =
      subst₃ (λ p f a. AcwLinks m e.0 p f a) (sym (s.dest-stands e)) (sym (s.left_face-stands e)) (num-next (lft e) ∙ sym (s.left_acw-stands e))
      (acw-links (lft e))

  right-acw : (e : Row ne) → AcwLinks m e.0 (origin m e.0) (right_face m e.0) (right_acw m e.0)
  right-acw e =
      subst₃ (λ p f a. AcwLinks m e.0 p f a) (sym (s.origin-stands e)) (sym (s.right_face-stands e)) (num-next (rgt e) ∙ sym (s.right_acw-stands e))
      (acw-links (rgt e))

  left-cw : (e : Row ne) → CwLinks m e.0 (left_face m e.0) (left_cw m e.0)
  left-cw e =
      subst₂ (λ f a. CwLinks m e.0 f a) (sym (s.left_face-stands e)) (num-prev (lft e) ∙ sym (s.left_cw-stands e)) (cw-links (lft e))

  right-cw : (e : Row ne) → CwLinks m e.0 (right_face m e.0) (right_cw m e.0)
  right-cw e =
      subst₂ (λ f a. CwLinks m e.0 f a) (sym (s.right_face-stands e)) (num-prev (rgt e) ∙ sym (s.right_cw-stands e)) (cw-links (rgt e))

  -- ---- the walks

  module _ (f : Row nf) where
    face-num-step : (d : Dart (Row ne)) → face t d ≡ f → acw_of_face m f.0 (num d) ≡ num (c.next d)
    face-num-step d h = ap (λ (f : Row nf). acw_of_face m f.0 (num d)) (sym h) ∙ acw_of_face-dart seen d ∙ sym (num-next d)

    on-face : (d : Dart (Row ne)) → face t d ≡ f → (num d < ne) × Borders m f.0 (num d)
    on-face d h = ((edge d).1, subst (λ (f : Row nf). Borders m f.0 (num d)) h (borders-dart seen d))

    pub around-face : ClassWalk c.about-faces num f (acw_of_face m f.0) (λ e. (e < ne) × Borders m f.0 e)
    around-face =
        walk_of-cycle c.about-faces c.prev c.next-prev num (settled-on-face seen) f (acw_of_face m f.0)
        (λ e. (e < ne) × Borders m f.0 e) face-num-step on-face

    unfoldable pub face-edges : List ℕ
    face-edges = around-face.edges

    pub face-passes : Passes (acw_of_face m f.0) (λ e. (e < ne) × Borders m f.0 e) (face_start m f.0) (face_start m f.0) face-edges
    unfolding face-edges
    face-passes =
        subst (λ i. Passes (acw_of_face m f.0) (λ e. (e < ne) × Borders m f.0 e) i i face-edges)
        (ap number (c.edge-face_dart f) ∙ sym (s.face_start-stands f))
        around-face.passes

    face-each-once : (e : ℕ) → e < ne → Borders m f.0 e → occurrences e face-edges ≡ 1
    unfolding face-edges
    face-each-once e l b =
        let d = dart-of-borders seen f (e, l) b in
        let on : 0 < occurrences e face-edges = subst (λ i. 0 < occurrences i face-edges) (ap number d.1) (around-face.passed d.0 d.2) in
        omega (arith, passes-once _ _ _ _ face-edges face-passes e)

    -- the point at place j of the border is the first point of a dart of rank j
    FirstAt : ℕ → Type 0
    FirstAt j = (d : Dart (Row ne)) × (face t d ≡ f) × (c.about-faces.rank d ≡ j) × (get_or (map (first_point m f.0) face-edges) j 0 ≡ (first t d).0)

    first-at : (j : ℕ) → j < length face-edges → FirstAt j
    unfolding face-edges FirstAt
    first-at j l =
        let r = around-face.dart-at j l in
        let d = r.dart in (
          d,
          r.dart-cls,
          r.dart-rank,
          get_or-map-below (first_point m f.0) face-edges j l
              ∙ ap (first_point m f.0) (sym r.dart-num)
              ∙ ap (λ (f : Row nf). first_point m f.0 (num d)) (sym r.dart-cls)
              ∙ first_point-dart seen d,
        )

    no-point-twice : Distinct (map (first_point m f.0) face-edges)
    unfolding FirstAt
    no-point-twice i j l k same =
        let far : i < length face-edges = subst (λ n. i < n) (length-map face-edges (first_point m f.0)) l in
        let at = first-at i far in
        let at' = first-at j (omega arith) in
        let one : at.0 ≡ at'.0 = c.one-pass at.0 at'.0 (at.1 ∙ sym at'.1) (row-path _ _ (sym at.3 ∙ same ∙ at'.3)) in
        let ranks : i ≡ j = sym at.2 ∙ ap c.about-faces.rank one ∙ at'.2 in
        omega arith

    face-walk : FaceWalked m ne f.0
    unfolding face-edges
    face-walk =
        record {
          edges = face-edges;
          passes = face-passes;
          each-once = face-each-once;
          no-point-twice = no-point-twice;
          at-least-3 = omega (arith, around-face.length-is, c.size_low f);
          at-most-64 = omega (arith, around-face.length-is, c.size-high f);
        }

  -- one step anticlockwise about a point, and what undoes it
  turn : Dart (Row ne) → Dart (Row ne)
  turn d = c.next (flip d)

  turn-back : (d : Dart (Row ne)) → flip (c.prev (turn d)) ≡ d
  unfolding turn
  turn-back d = ap flip (c.prev-next (flip d)) ∙ flip-flip d

  module _ (p : Row np) where
    point-num-step : (d : Dart (Row ne)) → first t d ≡ p → acw_of_point m p.0 (num d) ≡ num (flip (c.prev d))
    point-num-step d h =
        ap (λ (p : Row np). acw_of_point m p.0 (num d)) (sym h) ∙ acw_of_point-dart seen d ∙ sym (num-prev d) ∙ ap number (sym (edge-flip (c.prev d)))

    at-point : (d : Dart (Row ne)) → first t d ≡ p → (num d < ne) × Touches m p.0 (num d)
    at-point d h = ((edge d).1, subst (λ (p : Row np). Touches m p.0 (num d)) h (touches-first seen d))

    around-point : ClassWalk c.about-points num p (acw_of_point m p.0) (λ e. (e < ne) × Touches m p.0 e)
    around-point =
        walk_of-cycle c.about-points turn turn-back num (settled-at-point seen) p (acw_of_point m p.0)
        (λ e. (e < ne) × Touches m p.0 e) point-num-step at-point

    point-edges : List ℕ
    point-edges = around-point.edges

    point-passes : Passes (acw_of_point m p.0) (λ e. (e < ne) × Touches m p.0 e) (start m p.0) (start m p.0) point-edges
    unfolding point-edges
    point-passes =
        subst (λ i. Passes (acw_of_point m p.0) (λ e. (e < ne) × Touches m p.0 e) i i point-edges)
        (ap number (c.edge-point_dart p) ∙ sym (s.start-stands p))
        around-point.passes

    point-each-once : (e : ℕ) → e < ne → Touches m p.0 e → occurrences e point-edges ≡ 1
    unfolding point-edges
    point-each-once e l b =
        let d = dart-of-touches seen p (e, l) b in
        let on : 0 < occurrences e point-edges = subst (λ i. 0 < occurrences i point-edges) (ap number d.1) (around-point.passed d.0 d.2) in
        omega (arith, passes-once _ _ _ _ point-edges point-passes e)

    point-walk : PointWalked m ne p.0
    unfolding point-edges
    point-walk =
        record {
          edges = point-edges;
          passes = point-passes;
          each-once = point-each-once;
          at-least-2 = omega (arith, around-point.length-is, c.valence-low p);
          is-valence = around-point.length-is ∙ sym (s.valence-stands p);
        }

  -- ---- the rest

  one-edge : (e i : ℕ) → e < ne → i < ne → SameEnds m e i → e ≡ i
  one-edge e i l k (inl h) =
      ap number
      (c.one-edge (lft (e, l)) (lft (i, k))
      (row-path _ _ (sym (s.origin-stands (e, l)) ∙ h.0 ∙ s.origin-stands (i, k)))
      (row-path _ _ (sym (s.dest-stands (e, l)) ∙ h.1 ∙ s.dest-stands (i, k))))
  one-edge e i l k (inr h) =
      ap number
      (c.one-edge (lft (e, l)) (rgt (i, k))
      (row-path _ _ (sym (s.origin-stands (e, l)) ∙ h.0 ∙ s.dest-stands (i, k)))
      (row-path _ _ (sym (s.dest-stands (e, l)) ∙ h.1 ∙ s.origin-stands (i, k))))

  in-range : (e : Row ne) → EdgeInRange m np ne nf e.0
  in-range e =
      record {
        origin-in-range = subst (λ i. i < np) (sym (s.origin-stands e)) (t.origin e).1;
        dest-in-range = subst (λ i. i < np) (sym (s.dest-stands e)) (t.dest e).1;
        left_face-in-range = subst (λ i. i < nf) (sym (s.left_face-stands e)) (t.left e).1;
        right_face-in-range = subst (λ i. i < nf) (sym (s.right_face-stands e)) (t.right e).1;
        left_cw-in-range = subst (λ i. i < ne) (sym (s.left_cw-stands e)) (t.left_cw e).1;
        left_acw-in-range = subst (λ i. i < ne) (sym (s.left_acw-stands e)) (t.left_acw e).1;
        right_cw-in-range = subst (λ i. i < ne) (sym (s.right_cw-stands e)) (t.right_cw e).1;
        right_acw-in-range = subst (λ i. i < ne) (sym (s.right_acw-stands e)) (t.right_acw e).1;
      }

  corner-fit : (f : Row nf) (k : ℕ) → k < 4 → (corner m f.0 k < np) ⊎ (corner m f.0 k ≡ none)
  corner-fit f k l =
      let q = place_at k l in
      subst (λ w. (w < np) ⊎ (w ≡ none)) (sym (s.corner-stands f q.0) ∙ ap (corner m f.0) q.1) (corner_word-fit (t.corner f q.0))

  -- Tables that hold a closed mesh pass the audit, if the rest fits.
  pub audited-of-closed : Fit m np ne nf → Audited m np ne nf
  audited-of-closed fit =
      record {
        points-fit = fit.points-fit;
        edges_fit = fit.edges_fit;
        faces-fit = fit.faces-fit;
        start-in-range = λ p l. subst (λ i. i < ne) (sym (s.start-stands (p, l))) (t.start (p, l)).1;
        edge-in-range = λ e l. in-range (e, l);
        face_start-in-range = λ f l. subst (λ i. i < ne) (sym (s.face_start-stands (f, l))) (t.face_start (f, l)).1;
        x-finite = fit.x-finite;
        y-finite = fit.y-finite;
        z-finite = fit.z-finite;
        interval-fit = fit.interval-fit;
        ends-differ = λ e l h. c.ends-differ (e, l) (row-path _ _ (sym (s.origin-stands (e, l)) ∙ h ∙ s.dest-stands (e, l)));
        sides-differ = λ e l h. c.sides-differ (e, l) (row-path _ _ (sym (s.left_face-stands (e, l)) ∙ h ∙ s.right_face-stands (e, l)));
        one-edge = one-edge;
        left-acw = λ e l. left-acw (e, l);
        right-acw = λ e l. right-acw (e, l);
        left-cw = λ e l. left-cw (e, l);
        right-cw = λ e l. right-cw (e, l);
        face-walked = λ f l. face-walk (f, l);
        point-walked = λ p l. point-walk (p, l);
        corner-fit = λ f k l j. corner-fit (f, l) k j;
        mark-fit = fit.mark-fit;
      }

-- The audit passes exactly if the tables hold a closed mesh over bounded numbers, and the rest fits.
pub audit-is-closed : AuditIsClosed
audit-is-closed m np ne nf =
    Iff.trans (audit-is-audited m np ne nf) (
      λ a. record { mesh = rows m a; stands = rows-stand m a; closed = closed-rows m a; fit = rows_fit m a },
      λ h. audited-of-closed m h.mesh h.stands h.closed h.fit,
    )
