-- The audit passes exactly if its propositions hold, clause by clause. Assumes nothing.
use mathlib.Core.Path.{◌≡◌, refl, sym}
use mathlib.Core.Bool.{true, ◌&&◌, ◌||◌, false≢true}
use mathlib.Core.List.{List, map}
use mathlib.Core.Logic.Iff
use mathlib.Core.Logic.{◌↔◌, ◌⊎◌, inl, inr, ◌≢◌}
use Prim.Native.Nat.{ℕ, suc, ◌≤◌, ◌<◌}
use native.Mathlib.Omega.{arith}
use native.Mathlib.Decide.{dec_le}
use lib.Dec.{eqb, ltb}
use lib.ListN.{length, get_or}
use lib.Ieee.Scale.{finite}
use Rattle.tables.specs.Counted.{counts_of, rows_for}
use Rattle.tables.specs.Mesh.{Mesh, none, x, y, z, valence, start, mark, origin, dest, left_face, right_face, left_cw}
use Rattle.tables.specs.Mesh.{left_acw, right_cw, right_acw, interval, face_start, corner, point_rows, edge_rows, face_rows}
use Rattle.closed_meshes.specs.Renumbering.{sum_to}
use Rattle.audited_meshes.specs.Folds.{every, occurrences, distinct, Distinct}
use Rattle.audited_meshes.specs.Walks.{Walk, back, lost, borders, touches, acw_of_face, acw_of_point, cw_of_face, first_point, face_walk, point_walk, Touches}
use Rattle.audited_meshes.specs.Audit.{edge_in_range, in_range, interval_fit, numbers_fit, same_ends, edges_differ}
use Rattle.audited_meshes.specs.Audit.{acw_links, cw_links, linked, face_walked, point_walked, corners_fit, marks_fit, audit}
use Rattle.audited_meshes.specs.Audited.{Borders, SameEnds, Passes, EdgeInRange, AcwLinks, CwLinks, FaceWalked, PointWalked}
use Rattle.audited_meshes.specs.Forms.{AuditIsAudited}
use Rattle.audited_meshes.proofs.Tests.{Is, and_is, or_is, not_is, if-is, eqb_is, ltb-is, leb-is, self-is, every-is}
use Rattle.audited_meshes.proofs.Folds.{sum_to-le, sum_to-const, length-sum_to}
use Rattle.audited_meshes.proofs.Walks.{passes_on, passes-once, walk_of-passes, passes-of-walk}

-- ---- rows and links

pub borders-is : (m : Mesh) (f e : ℕ) → Is (borders m f e) (Borders m f e)
borders-is m f e = or_is (eqb_is (left_face m e) f) (eqb_is (right_face m e) f)

pub touches-is : (m : Mesh) (p e : ℕ) → Is (touches m p e) (Touches m p e)
touches-is m p e = or_is (eqb_is (origin m e) p) (eqb_is (dest m e) p)

pub edge_in_range-is : (m : Mesh) (np ne nf e : ℕ) → Is (edge_in_range m np ne nf e) (EdgeInRange m np ne nf e)
unfolding edge_in_range
edge_in_range-is m np ne nf e =
    Iff.trans
    (and_is
    (and_is
    (and_is
    (and_is
    (and_is
    (and_is (and_is (ltb-is (origin m e) np) (ltb-is (dest m e) np)) (ltb-is (left_face m e) nf))
    (ltb-is (right_face m e) nf))
    (ltb-is (left_cw m e) ne))
    (ltb-is (left_acw m e) ne))
    (ltb-is (right_cw m e) ne))
    (ltb-is (right_acw m e) ne)) (
      λ h.
          record {
            origin-in-range = h.0.0.0.0.0.0.0;
            dest-in-range = h.0.0.0.0.0.0.1;
            left_face-in-range = h.0.0.0.0.0.1;
            right_face-in-range = h.0.0.0.0.1;
            left_cw-in-range = h.0.0.0.1;
            left_acw-in-range = h.0.0.1;
            right_cw-in-range = h.0.1;
            right_acw-in-range = h.1;
          },
      λ r. (((((((r.origin-in-range, r.dest-in-range), r.left_face-in-range), r.right_face-in-range), r.left_cw-in-range), r.left_acw-in-range), r.right_cw-in-range), r.right_acw-in-range),
    )

pub acw_links-is : (m : Mesh) (e p f a : ℕ) → Is (acw_links m e p f a) (AcwLinks m e p f a)
acw_links-is m e p f a =
    Iff.trans (and_is (and_is (touches-is m p a) (borders-is m f a)) (eqb_is (cw_of_face m f a) e))
    (λ h. record { touches-end = h.0.0; borders-face = h.0.1; links-back = h.1 }, λ r. ((r.touches-end, r.borders-face), r.links-back))

pub cw_links-is : (m : Mesh) (e f c : ℕ) → Is (cw_links m e f c) (CwLinks m e f c)
cw_links-is m e f c =
    Iff.trans (and_is (borders-is m f c) (eqb_is (acw_of_face m f c) e))
    (λ h. record { borders-face = h.0; links-back = h.1 }, λ r. (r.borders-face, r.links-back))

-- the four links of one edge
pub record Linked (m : Mesh) (e : ℕ) : Type 0 where
  pub left-acw : AcwLinks m e (dest m e) (left_face m e) (left_acw m e)
  pub right-acw : AcwLinks m e (origin m e) (right_face m e) (right_acw m e)
  pub left-cw : CwLinks m e (left_face m e) (left_cw m e)
  pub right-cw : CwLinks m e (right_face m e) (right_cw m e)

pub linked-is : (m : Mesh) (e : ℕ) → Is (linked m e) (Linked m e)
unfolding linked
linked-is m e =
    Iff.trans
    (and_is
    (and_is (and_is (acw_links-is m e (dest m e) (left_face m e) (left_acw m e)) (acw_links-is m e (origin m e) (right_face m e) (right_acw m e))) (cw_links-is m e (left_face m e) (left_cw m e)))
    (cw_links-is m e (right_face m e) (right_cw m e))) (
      λ h. record { left-acw = h.0.0.0; right-acw = h.0.0.1; left-cw = h.0.1; right-cw = h.1 },
      λ r. (((r.left-acw, r.right-acw), r.left-cw), r.right-cw),
    )

pub same_ends-is : (m : Mesh) (e i : ℕ) → Is (same_ends m e i) (SameEnds m e i)
same_ends-is m e i =
    or_is (and_is (eqb_is (origin m e) (origin m i)) (eqb_is (dest m e) (dest m i)))
    (and_is (eqb_is (origin m e) (dest m i)) (eqb_is (dest m e) (origin m i)))

-- ---- walks

pub distinct-is : (ks : List ℕ) → Is (distinct ks) (Distinct ks)
unfolding distinct
distinct-is ks =
    Iff.trans (every-is (length ks) (λ i. every-is i (λ j. not_is (eqb_is (get_or ks i 0) (get_or ks j 0)))))
    (λ h i j l k. h i l j k, λ h i l j k. h i j l k)

-- the edges of a walk that passes none twice are no more than the edges
pub length-passes :
    (step : ℕ → ℕ) (On : ℕ → Type 0) (s e n : ℕ) (es : List ℕ) → ((i : ℕ) → On i → i < n) → Passes step On s e es → length es ≤ n
length-passes step On s e n es below p =
    let sum : length es ≡ sum_to n (λ i. occurrences i es) = length-sum_to n es (λ i l. below i (passes_on step On s e es p i l)) in
    let most : sum_to n (λ i. occurrences i es) ≤ sum_to n (λ i. 1) = sum_to-le n (λ i. occurrences i es) (λ i. 1) (λ i l. passes-once step On s e es p i) in
    omega (arith, sum_to-const n 1)

module _ (m : Mesh) (ne : ℕ) where
  -- The edges below ne that border face f, and those that touch point p.
  pub on-face-is : (f e : ℕ) → Is (ltb e ne && borders m f e) ((e < ne) × Borders m f e)
  on-face-is f e = and_is (ltb-is e ne) (borders-is m f e)

  pub on-point-is : (p e : ℕ) → Is (ltb e ne && touches m p e) ((e < ne) × Touches m p e)
  on-point-is p e = and_is (ltb-is e ne) (touches-is m p e)

  -- The walk about a face, about a point: what it comes back with is what it passes.
  pub face_walk-is :
      (f : ℕ) (es : List ℕ) →
      (face_walk m ne f ≡ back es)
      ↔ (Passes (acw_of_face m f) (λ e. (e < ne) × Borders m f e) (face_start m f) (face_start m f) es × (length es ≤ 64))
  unfolding face_walk
  face_walk-is f es = (
    passes-of-walk _ _ _ (λ e. ltb e ne && borders m f e) (on-face-is f) 64 (face_start m f) es,
    λ h. walk_of-passes _ _ _ (λ e. ltb e ne && borders m f e) (on-face-is f) (face_start m f) es h.0 64 h.1,
  )

  pub point_walk-is :
      (p k : ℕ) (es : List ℕ) →
      (point_walk m ne k p ≡ back es)
      ↔ (Passes (acw_of_point m p) (λ e. (e < ne) × Touches m p e) (start m p) (start m p) es × (length es ≤ k))
  unfolding point_walk
  point_walk-is p k es = (
    passes-of-walk _ _ _ (λ e. ltb e ne && touches m p e) (on-point-is p) k (start m p) es,
    λ h. walk_of-passes _ _ _ (λ e. ltb e ne && touches m p e) (on-point-is p) (start m p) es h.0 k h.1,
  )

  face-back-is :
      (f : ℕ) (es : List ℕ) →
      Is (face_walked m ne f (back es))
      (((((e : ℕ) → e < ne → Borders m f e → occurrences e es ≡ 1) × Distinct (map (first_point m f) es)) × (3 ≤ length es)) × (length es ≤ 64))
  unfolding face_walked
  face-back-is f es =
      and_is
      (and_is (and_is (every-is ne (λ e. if-is (borders-is m f e) (eqb_is (occurrences e es) 1))) (distinct-is (map (first_point m f) es))) (leb-is 3 (length es)))
      (leb-is (length es) 64)

  point-back-is :
      (p : ℕ) (es : List ℕ) →
      Is (point_walked m ne p (back es))
      ((((e : ℕ) → e < ne → Touches m p e → occurrences e es ≡ 1) × (2 ≤ length es)) × (length es ≡ valence m p))
  unfolding point_walked
  point-back-is p es =
      and_is (and_is (every-is ne (λ e. if-is (touches-is m p e) (eqb_is (occurrences e es) 1))) (leb-is 2 (length es)))
      (eqb_is (length es) (valence m p))

  pub face_walked-is : (f : ℕ) → Is (face_walked m ne f (face_walk m ne f)) (FaceWalked m ne f)
  unfolding face_walked
  face_walked-is f = (go (face_walk m ne f) refl, out)
    where
      go : (w : Walk) → face_walk m ne f ≡ w → face_walked m ne f w ≡ true → FaceWalked m ne f
      go (back es) q t =
          let h = (face-back-is f es).0 t in
          record {
            edges = es;
            passes = ((face_walk-is f es).0 q).0;
            each-once = h.0.0.0;
            no-point-twice = h.0.0.1;
            at-least-3 = h.0.1;
            at-most-64 = h.1;
          }
      go lost q t = absurd (false≢true t)

      out : FaceWalked m ne f → face_walked m ne f (face_walk m ne f) ≡ true
      out r =
          rw ((face_walk-is f r.edges).1 (r.passes, r.at-most-64))
          ((face-back-is f r.edges).1 (((r.each-once, r.no-point-twice), r.at-least-3), r.at-most-64))

  pub point_walked-is : (p : ℕ) → Is (point_walked m ne p (point_walk m ne ne p)) (PointWalked m ne p)
  unfolding point_walked
  point_walked-is p = (go (point_walk m ne ne p) refl, out)
    where
      go : (w : Walk) → point_walk m ne ne p ≡ w → point_walked m ne p w ≡ true → PointWalked m ne p
      go (back es) q t =
          let h = (point-back-is p es).0 t in
          record { edges = es; passes = ((point_walk-is p ne es).0 q).0; each-once = h.0.0; at-least-2 = h.0.1; is-valence = h.1 }
      go lost q t = absurd (false≢true t)

      out : PointWalked m ne p → point_walked m ne p (point_walk m ne ne p) ≡ true
      out r =
          rw ((point_walk-is p ne r.edges).1 (r.passes, length-passes _ _ _ _ ne r.edges (λ i o. o.0) r.passes))
          ((point-back-is p r.edges).1 ((r.each-once, r.at-least-2), r.is-valence))

-- ---- no two edges join the same two points

same_ends-sym : (m : Mesh) (e i : ℕ) → SameEnds m e i → SameEnds m i e
same_ends-sym m e i (inl h) = inl (sym h.0, sym h.1)
same_ends-sym m e i (inr h) = inr (sym h.1, sym h.0)

-- looking at the earlier edges alone is enough
one-edge-is : (m : Mesh) (ne : ℕ) → ((e : ℕ) → e < ne → (i : ℕ) → i < e → ¬ SameEnds m e i) ↔ ((e i : ℕ) → e < ne → i < ne → SameEnds m e i → e ≡ i)
one-edge-is m ne = (into, λ h e l i k same. absurd (differ e i k (h e i l (omega arith) same)))
  where
    differ : (e i : ℕ) → i < e → e ≡ i → ⊥
    differ e i l same = omega arith

    into : ((e : ℕ) → e < ne → (i : ℕ) → i < e → ¬ SameEnds m e i) → (e i : ℕ) → e < ne → i < ne → SameEnds m e i → e ≡ i
    into h e i l k same = go (dec_le (suc i) e) (dec_le (suc e) i)
      where
        go : Dec (i < e) → Dec (e < i) → e ≡ i
        go (yes lt) d = absurd (h e l i lt same)
        go (no ge) (yes lt) = absurd (h i k e lt (same_ends-sym m e i same))
        go (no ge) (no le) = omega arith

-- ---- the whole audit

module _ (m : Mesh) (np ne nf : ℕ) where
  pub rows_for-is : Is (rows_for (counts_of np ne nf) m) (((np ≤ point_rows m) × (ne ≤ edge_rows m)) × (nf ≤ face_rows m))
  unfolding rows_for
  rows_for-is = and_is (and_is (leb-is np (point_rows m)) (leb-is ne (edge_rows m))) (leb-is nf (face_rows m))

  in_range-is :
      Is (in_range m np ne nf)
      ((((p : ℕ) → p < np → start m p < ne) × ((e : ℕ) → e < ne → EdgeInRange m np ne nf e)) × ((f : ℕ) → f < nf → face_start m f < ne))
  unfolding in_range
  in_range-is =
      and_is (and_is (every-is np (λ p. ltb-is (start m p) ne)) (every-is ne (edge_in_range-is m np ne nf)))
      (every-is nf (λ f. ltb-is (face_start m f) ne))

  numbers_fit-is :
      Is (numbers_fit m np ne)
      (((p : ℕ) → p < np → ((finite (x m p) ≡ true) × (finite (y m p) ≡ true)) × (finite (z m p) ≡ true))
      × ((e : ℕ) → e < ne → interval_fit (interval m e) ≡ true))
  unfolding numbers_fit
  numbers_fit-is =
      and_is (every-is np (λ p. and_is (and_is (self-is (finite (x m p))) (self-is (finite (y m p)))) (self-is (finite (z m p)))))
      (every-is ne (λ e. self-is (interval_fit (interval m e))))

  edges_differ-is :
      Is (edges_differ m ne)
      ((((e : ℕ) → e < ne → origin m e ≢ dest m e) × ((e : ℕ) → e < ne → left_face m e ≢ right_face m e))
      × ((e : ℕ) → e < ne → (i : ℕ) → i < e → ¬ SameEnds m e i))
  unfolding edges_differ
  edges_differ-is =
      and_is
      (and_is (every-is ne (λ e. not_is (eqb_is (origin m e) (dest m e)))) (every-is ne (λ e. not_is (eqb_is (left_face m e) (right_face m e)))))
      (every-is ne (λ e. every-is e (λ i. not_is (same_ends-is m e i))))

  pub corners-is : (f : ℕ) → Is (every 4 (λ k. ltb (corner m f k) np || eqb (corner m f k) none)) ((k : ℕ) → k < 4 → (corner m f k < np) ⊎ (corner m f k ≡ none))
  corners-is f = every-is 4 (λ k. or_is (ltb-is (corner m f k) np) (eqb_is (corner m f k) none))

  corners_fit-is : Is (corners_fit m np nf) ((f : ℕ) → f < nf → (k : ℕ) → k < 4 → (corner m f k < np) ⊎ (corner m f k ≡ none))
  unfolding corners_fit
  corners_fit-is = every-is nf corners-is

  pub mark-is : (p : ℕ) → Is (eqb (mark m p) 0 || eqb (mark m p) 1) ((mark m p ≡ 0) ⊎ (mark m p ≡ 1))
  mark-is p = or_is (eqb_is (mark m p) 0) (eqb_is (mark m p) 1)

  marks_fit-is : Is (marks_fit m np) ((p : ℕ) → p < np → (mark m p ≡ 0) ⊎ (mark m p ≡ 1))
  unfolding marks_fit
  marks_fit-is = every-is np mark-is

-- The audit passes exactly if its propositions hold.
pub audit-is-audited : AuditIsAudited
unfolding audit
audit-is-audited m np ne nf =
    Iff.trans
    (and_is
    (and_is
    (and_is
    (and_is
    (and_is (and_is (and_is (and_is (rows_for-is m np ne nf) (in_range-is m np ne nf)) (numbers_fit-is m np ne nf)) (edges_differ-is m np ne nf)) (every-is ne (linked-is m)))
    (every-is nf (face_walked-is m ne)))
    (every-is np (point_walked-is m ne)))
    (corners_fit-is m np ne nf))
    (marks_fit-is m np ne nf)) (
      λ h.
          let marks = h.1 in
          let corners = h.0.1 in
          let points = h.0.0.1 in
          let faces = h.0.0.0.1 in
          let links = h.0.0.0.0.1 in
          let edges = h.0.0.0.0.0.1 in
          let numbers = h.0.0.0.0.0.0.1 in
          let ranges = h.0.0.0.0.0.0.0.1 in
          let counts = h.0.0.0.0.0.0.0.0 in
          record {
            points-fit = counts.0.0;
            edges_fit = counts.0.1;
            faces-fit = counts.1;
            start-in-range = ranges.0.0;
            edge-in-range = ranges.0.1;
            face_start-in-range = ranges.1;
            x-finite = λ p l. (numbers.0 p l).0.0;
            y-finite = λ p l. (numbers.0 p l).0.1;
            z-finite = λ p l. (numbers.0 p l).1;
            interval-fit = numbers.1;
            ends-differ = edges.0.0;
            sides-differ = edges.0.1;
            one-edge = (one-edge-is m ne).0 edges.1;
            left-acw = λ e l. (links e l).left-acw;
            right-acw = λ e l. (links e l).right-acw;
            left-cw = λ e l. (links e l).left-cw;
            right-cw = λ e l. (links e l).right-cw;
            face-walked = faces;
            point-walked = points;
            corner-fit = λ f k l j. corners f l k j;
            mark-fit = marks;
          },
      λ a. (
        (
          (
            (
              (
                (
                  (
                    (((a.points-fit, a.edges_fit), a.faces-fit), ((a.start-in-range, a.edge-in-range), a.face_start-in-range)),
                    (λ p l. ((a.x-finite p l, a.y-finite p l), a.z-finite p l), a.interval-fit),
                  ),
                  ((a.ends-differ, a.sides-differ), (one-edge-is m ne).1 a.one-edge),
                ),
                λ e l. record { left-acw = a.left-acw e l; right-acw = a.right-acw e l; left-cw = a.left-cw e l; right-cw = a.right-cw e l },
              ),
              a.face-walked,
            ),
            a.point-walked,
          ),
          λ f l k j. a.corner-fit f k l j,
        ),
        a.mark-fit,
      ),
    )
