-- The quick test equals the audit. Assumes nothing.
use mathlib.Core.Path.{◌≡◌, refl, sym, ◌∙◌, ap, subst}
use mathlib.Core.Bool.{Bool, true, false, ◌&&◌, false≢true}
use mathlib.Core.List.{List, map}
use mathlib.Core.Logic.Iff
use mathlib.Core.Logic.{◌↔◌, ◌⊎◌, ◌≢◌}
use Prim.Native.Nat.{ℕ, ◌*◌, ◌≤◌, ◌<◌}
use native.Mathlib.Omega.{arith}
use native.Mathlib.Decide.{dec_le}
use lib.Dec.{leb}
use lib.ListN.{length}
use lib.Ieee.Scale.{finite}
use Rattle.tables.specs.Mesh.{Mesh, none, x, y, z, valence, start, mark, origin, dest, left_face, right_face, interval, face_start, corner, point_rows, edge_rows, face_rows}
use Rattle.closed_meshes.specs.Renumbering.{sum_to}
use Rattle.audited_meshes.specs.Folds.{one_if, occurrences, distinct, Distinct}
use Rattle.audited_meshes.specs.Walks.{Walk, back, lost, edges_of, passed, borders, touches, acw_of_face, acw_of_point, first_point, face_walk, point_walk, Touches}
use Rattle.audited_meshes.specs.Audit.{interval_fit}
use Rattle.audited_meshes.specs.Audited.{Borders, Passes, EdgeInRange, PointWalked, Audited}
use Rattle.audited_meshes.specs.Quick.{point_fit, edge_fit, face_fit, face_back, point_back, one_edge, quick}
use Rattle.audited_meshes.specs.Forms.{QuickIsAudit}
use Rattle.audited_meshes.proofs.Tests.{Is, and_is, not_is, eqb_is, ltb-is, leb-is, self-is, every-is, same_test}
use Rattle.audited_meshes.proofs.Folds.{sum_to-cong}
use Rattle.audited_meshes.proofs.Walks.{passes_on, passes-once}
use Rattle.audited_meshes.proofs.Sums.{sum_is}
use Rattle.audited_meshes.proofs.OneEdge.{one_edge-is}
use Rattle.audited_meshes.proofs.Audited.{borders-is, touches-is, edge_in_range-is, Linked, linked-is, distinct-is, rows_for-is, corners-is, mark-is, face_walk-is, point_walk-is, audit-is-audited}

-- ---- the tests of one row

module _ (m : Mesh) (np ne nf : ℕ) where
  point_fit-is :
      (p : ℕ) →
      Is (point_fit m ne p)
      ((((start m p < ne) × (((finite (x m p) ≡ true) × (finite (y m p) ≡ true)) × (finite (z m p) ≡ true))) × (2 ≤ valence m p))
      × ((mark m p ≡ 0) ⊎ (mark m p ≡ 1)))
  unfolding point_fit
  point_fit-is p =
      and_is
      (and_is
      (and_is (ltb-is (start m p) ne) (and_is (and_is (self-is (finite (x m p))) (self-is (finite (y m p)))) (self-is (finite (z m p)))))
      (leb-is 2 (valence m p)))
      (mark-is m np ne nf p)

  edge_fit-is :
      (e : ℕ) →
      Is (edge_fit m np ne nf e)
      ((((EdgeInRange m np ne nf e × (interval_fit (interval m e) ≡ true)) × (origin m e ≢ dest m e)) × (left_face m e ≢ right_face m e)) × Linked m e)
  unfolding edge_fit
  edge_fit-is e =
      and_is
      (and_is
      (and_is (and_is (edge_in_range-is m np ne nf e) (self-is (interval_fit (interval m e)))) (not_is (eqb_is (origin m e) (dest m e))))
      (not_is (eqb_is (left_face m e) (right_face m e))))
      (linked-is m e)

  face_fit-is : (f : ℕ) → Is (face_fit m np ne f) ((face_start m f < ne) × ((k : ℕ) → k < 4 → (corner m f k < np) ⊎ (corner m f k ≡ none)))
  unfolding face_fit
  face_fit-is f = and_is (ltb-is (face_start m f) ne) (corners-is m np ne nf f)

-- ---- the walks

-- how often a walk passes an edge: at most once, and an edge of its class alone
at_most :
    (step : ℕ → ℕ) (On : ℕ → Type 0) (s : ℕ) (w : Walk) → ((es : List ℕ) → w ≡ back es → Passes step On s s es) →
    (i : ℕ) (b : Bool) → (On i → b ≡ true) → occurrences i (edges_of w) ≤ one_if b
unfolding occurrences
at_most step On s (back es) h i true on = passes-once step On s s es (h es refl) i
at_most step On s (back es) h i false on = go (dec_le 1 (occurrences i es))
  where
    go : Dec (0 < occurrences i es) → occurrences i es ≤ 0
    go (yes l) = absurd (false≢true (on (passes_on step On s s es (h es refl) i l)))
    go (no l) = omega arith
at_most step On s lost h i b on = omega arith

passes-below :
    (step : ℕ → ℕ) (On : ℕ → Type 0) (s n : ℕ) (w : Walk) → ((es : List ℕ) → w ≡ back es → Passes step On s s es) →
    ((i : ℕ) → On i → i < n) → (i : ℕ) → 0 < occurrences i (edges_of w) → i < n
unfolding occurrences
passes-below step On s n (back es) h on i l = on i (passes_on step On s s es (h es refl) i l)
passes-below step On s n lost h on i l = absurd (omega arith)

-- a walk that came back, and what is then asked of it
pub record Back (w : Walk) (A : List ℕ → Type 0) : Type 0 where
  pub edges : List ℕ
  pub came : w ≡ back edges
  pub holds : A edges

face_back-is : (m : Mesh) (f : ℕ) (w : Walk) → Is (face_back m f w) (Back w (λ es. (3 ≤ length es) × Distinct (map (first_point m f) es)))
unfolding face_back
face_back-is m f (back es) = (
  λ t. record { edges = es; came = refl; holds = both.0 t },
  λ r. let same : r.edges ≡ es = cc r.came in both.1 (subst (λ es. (3 ≤ length es) × Distinct (map (first_point m f) es)) same r.holds),
)
  where
    both : Is (leb 3 (length es) && distinct (map (first_point m f) es)) ((3 ≤ length es) × Distinct (map (first_point m f) es))
    both = and_is (leb-is 3 (length es)) (distinct-is (map (first_point m f) es))
face_back-is m f lost = (λ t. absurd (false≢true t), λ r. cc r.came)

point_back-is : (v : ℕ) (w : Walk) → Is (point_back v w) (Back w (λ es. length es ≡ v))
unfolding point_back
point_back-is v (back es) = (
  λ t. record { edges = es; came = refl; holds = (eqb_is (length es) v).0 t },
  λ r. let same : r.edges ≡ es = cc r.came in (eqb_is (length es) v).1 (subst (λ es. length es ≡ v) same r.holds),
)
point_back-is v lost = (λ t. absurd (false≢true t), λ r. cc r.came)

-- ---- the sums

module _ (m : Mesh) (np ne nf : ℕ) (ranges : (e : ℕ) → e < ne → EdgeInRange m np ne nf e) where
  -- the sizes of the faces add up to twice the edges exactly if each walk passes each edge of its face once
  face-sum :
      ((e : ℕ) → e < ne → left_face m e ≢ right_face m e) →
      (sum_to nf (λ f. passed (face_walk m ne f)) ≡ 2 * ne)
      ↔ ((f e : ℕ) → f < nf → e < ne → occurrences e (edges_of (face_walk m ne f)) ≡ one_if (borders m f e))
  face-sum differ =
      let walks : (f : ℕ) (es : List ℕ) → face_walk m ne f ≡ back es → Passes (acw_of_face m f) (λ e. (e < ne) × Borders m f e) (face_start m f) (face_start m f) es
      = λ f es q. ((face_walk-is m ne f es).0 q).0 in
      sum_is nf ne (left_face m) (right_face m) (λ e l. (ranges e l).left_face-in-range) (λ e l. (ranges e l).right_face-in-range) differ
      (λ f. edges_of (face_walk m ne f))
      (λ f. passes-below (acw_of_face m f) (λ e. (e < ne) × Borders m f e) (face_start m f) ne (face_walk m ne f) (walks f) (λ i o. o.0))
      (λ f i. at_most (acw_of_face m f) (λ e. (e < ne) × Borders m f e) (face_start m f) (face_walk m ne f) (walks f) i (borders m f i) (λ o. (borders-is m f i).1 o.1))

  -- the lengths of the walks about points, likewise; v gives the bound of each walk
  point-sum :
      (v : ℕ → ℕ) → ((e : ℕ) → e < ne → origin m e ≢ dest m e) →
      (sum_to np (λ p. passed (point_walk m ne (v p) p)) ≡ 2 * ne)
      ↔ ((p e : ℕ) → p < np → e < ne → occurrences e (edges_of (point_walk m ne (v p) p)) ≡ one_if (touches m p e))
  point-sum v differ =
      let walks : (p : ℕ) (es : List ℕ) → point_walk m ne (v p) p ≡ back es → Passes (acw_of_point m p) (λ e. (e < ne) × Touches m p e) (start m p) (start m p) es
      = λ p es q. ((point_walk-is m ne p (v p) es).0 q).0 in
      sum_is np ne (origin m) (dest m) (λ e l. (ranges e l).origin-in-range) (λ e l. (ranges e l).dest-in-range) differ
      (λ p. edges_of (point_walk m ne (v p) p))
      (λ p. passes-below (acw_of_point m p) (λ e. (e < ne) × Touches m p e) (start m p) ne (point_walk m ne (v p) p) (walks p) (λ i o. o.0))
      (λ p i. at_most (acw_of_point m p) (λ e. (e < ne) × Touches m p e) (start m p) (point_walk m ne (v p) p) (walks p) i (touches m p i) (λ o. (touches-is m p i).1 o.1))

-- what a walk passes of an edge: once if the edge is one of its class
once-of :
    (step : ℕ → ℕ) (On : ℕ → Type 0) (s e : ℕ) (es : List ℕ) {A : Type 0} {b : Bool} → Is b A →
    Passes step On s s es → (On e → A) → (A → occurrences e es ≡ 1) → occurrences e es ≡ one_if b
once-of step On s e es {A} {b} = go b
  where
    go : (b : Bool) → Is b A → Passes step On s s es → (On e → A) → (A → occurrences e es ≡ 1) → occurrences e es ≡ one_if b
    go true t p on once = once (t.0 refl)
    go false t p on once = none (dec_le 1 (occurrences e es))
      where
        none : Dec (0 < occurrences e es) → occurrences e es ≡ 0
        none (yes l) = absurd (false≢true (t.1 (on (passes_on step On s s es p e l))))
        none (no l) = omega arith

-- ---- the whole test

module _ (m : Mesh) (np ne nf : ℕ) where
  -- the parts of the quick test, as far as they speak for themselves
  record Parts : Type 0 where
    counts : ((np ≤ point_rows m) × (ne ≤ edge_rows m)) × (nf ≤ face_rows m)
    points :
        (p : ℕ) → p < np →
        (((start m p < ne) × (((finite (x m p) ≡ true) × (finite (y m p) ≡ true)) × (finite (z m p) ≡ true))) × (2 ≤ valence m p))
        × ((mark m p ≡ 0) ⊎ (mark m p ≡ 1))
    edges :
        (e : ℕ) → e < ne →
        (((EdgeInRange m np ne nf e × (interval_fit (interval m e) ≡ true)) × (origin m e ≢ dest m e)) × (left_face m e ≢ right_face m e)) × Linked m e
    faces : (f : ℕ) → f < nf → (face_start m f < ne) × ((k : ℕ) → k < 4 → (corner m f k < np) ⊎ (corner m f k ≡ none))
    valences : sum_to np (λ p. valence m p) ≡ 2 * ne
    face-back : (f : ℕ) → f < nf → Back (face_walk m ne f) (λ es. (3 ≤ length es) × Distinct (map (first_point m f) es))
    sizes : sum_to nf (λ f. passed (face_walk m ne f)) ≡ 2 * ne
    point-back : (p : ℕ) → p < np → Back (point_walk m ne (valence m p) p) (λ es. length es ≡ valence m p)
    one-edge : (e : ℕ) → e < ne → one_edge m ne e ≡ true

  parts_is : Is (quick m np ne nf) Parts
  unfolding quick
  parts_is =
      Iff.trans
      (and_is
      (and_is
      (and_is
      (and_is
      (and_is
      (and_is
      (and_is (and_is (rows_for-is m np ne nf) (every-is np (point_fit-is m np ne nf))) (every-is ne (edge_fit-is m np ne nf)))
      (every-is nf (face_fit-is m np ne nf)))
      (eqb_is (sum_to np (λ p. valence m p)) (2 * ne)))
      (every-is nf (λ f. face_back-is m f (face_walk m ne f))))
      (eqb_is (sum_to nf (λ f. passed (face_walk m ne f))) (2 * ne)))
      (every-is np (λ p. point_back-is (valence m p) (point_walk m ne (valence m p) p))))
      (every-is ne (λ e. self-is (one_edge m ne e)))) (
        λ h.
            record {
              counts = h.0.0.0.0.0.0.0.0;
              points = h.0.0.0.0.0.0.0.1;
              edges = h.0.0.0.0.0.0.1;
              faces = h.0.0.0.0.0.1;
              valences = h.0.0.0.0.1;
              face-back = h.0.0.0.1;
              sizes = h.0.0.1;
              point-back = h.0.1;
              one-edge = h.1;
            },
        λ r. ((((((((r.counts, r.points), r.edges), r.faces), r.valences), r.face-back), r.sizes), r.point-back), r.one-edge),
      )

  audited-of-parts : Parts → Audited m np ne nf
  audited-of-parts r =
      record {
        points-fit = r.counts.0.0;
        edges_fit = r.counts.0.1;
        faces-fit = r.counts.1;
        start-in-range = λ p l. (r.points p l).0.0.0;
        edge-in-range = ranges;
        face_start-in-range = λ f l. (r.faces f l).0;
        x-finite = λ p l. (r.points p l).0.0.1.0.0;
        y-finite = λ p l. (r.points p l).0.0.1.0.1;
        z-finite = λ p l. (r.points p l).0.0.1.1;
        interval-fit = λ e l. (r.edges e l).0.0.0.1;
        ends-differ = ends;
        sides-differ = sides;
        one-edge = λ e i l k same.
            (one_edge-is m ne e (ends e l) (walked (origin m e) (ranges e l).origin-in-range) (walked (dest m e) (ranges e l).dest-in-range)).0 (r.one-edge e l) i k same;
        left-acw = λ e l. (r.edges e l).1.left-acw;
        right-acw = λ e l. (r.edges e l).1.right-acw;
        left-cw = λ e l. (r.edges e l).1.left-cw;
        right-cw = λ e l. (r.edges e l).1.right-cw;
        face-walked = λ f l.
            let w = r.face-back f l in
            record {
              edges = w.edges;
              passes = ((face_walk-is m ne f w.edges).0 w.came).0;
              each-once = λ e k b.
                  ap (λ v. occurrences e (edges_of v)) (sym w.came) ∙ (face-sum m np ne nf ranges sides).0 r.sizes f e l k ∙ ap one_if ((borders-is m f e).1 b);
              no-point-twice = w.holds.1;
              at-least-3 = w.holds.0;
              at-most-64 = ((face_walk-is m ne f w.edges).0 w.came).1;
            };
        point-walked = walked;
        corner-fit = λ f k l j. (r.faces f l).1 k j;
        mark-fit = λ p l. (r.points p l).1;
      }
    where
      ranges : (e : ℕ) → e < ne → EdgeInRange m np ne nf e
      ranges e l = (r.edges e l).0.0.0.0

      ends : (e : ℕ) → e < ne → origin m e ≢ dest m e
      ends e l = (r.edges e l).0.0.1

      sides : (e : ℕ) → e < ne → left_face m e ≢ right_face m e
      sides e l = (r.edges e l).0.1

      lengths : sum_to np (λ p. passed (point_walk m ne (valence m p) p)) ≡ 2 * ne
      lengths =
          sum_to-cong np (λ p. passed (point_walk m ne (valence m p) p)) (λ p. valence m p)
          (λ p l. ap passed (r.point-back p l).came ∙ (r.point-back p l).holds)
          ∙ r.valences

      walked : (p : ℕ) → p < np → PointWalked m ne p
      walked p l =
          let w = r.point-back p l in
          record {
            edges = w.edges;
            passes = ((point_walk-is m ne p (valence m p) w.edges).0 w.came).0;
            each-once = λ e k t.
                ap (λ v. occurrences e (edges_of v)) (sym w.came) ∙ (point-sum m np ne nf ranges (λ p. valence m p) ends).0 lengths p e l k ∙ ap one_if ((touches-is m p e).1 t);
            at-least-2 = subst (λ n. 2 ≤ n) (sym w.holds) (r.points p l).0.1;
            is-valence = w.holds;
          }

  parts-of-audited : Audited m np ne nf → Parts
  parts-of-audited a =
      record {
        counts = ((a.points-fit, a.edges_fit), a.faces-fit);
        points = λ p l. (
          ((a.start-in-range p l, ((a.x-finite p l, a.y-finite p l), a.z-finite p l)), subst (λ n. 2 ≤ n) (a.point-walked p l).is-valence (a.point-walked p l).at-least-2),
          a.mark-fit p l,
        );
        edges = λ e l. (
          (((a.edge-in-range e l, a.interval-fit e l), a.ends-differ e l), a.sides-differ e l),
          record { left-acw = a.left-acw e l; right-acw = a.right-acw e l; left-cw = a.left-cw e l; right-cw = a.right-cw e l },
        );
        faces = λ f l. (a.face_start-in-range f l, λ k j. a.corner-fit f k l j);
        valences =
            sum_to-cong np (λ p. valence m p) (λ p. passed (point_walk m ne (valence m p) p)) (λ p l. sym (a.point-walked p l).is-valence ∙ sym (ap passed (point-came p l)))
            ∙ (point-sum m np ne nf a.edge-in-range (λ p. valence m p) a.ends-differ).1
            (λ p e l k.
            let w = a.point-walked p l in
            ap (λ v. occurrences e (edges_of v)) (point-came p l)
            ∙ once-of _ _ _ e w.edges (touches-is m p e) w.passes (λ o. o.1) (w.each-once e k));
        face-back = λ f l. let w = a.face-walked f l in record { edges = w.edges; came = face-came f l; holds = (w.at-least-3, w.no-point-twice) };
        sizes =
            (face-sum m np ne nf a.edge-in-range a.sides-differ).1
            (λ f e l k.
            let w = a.face-walked f l in
            ap (λ v. occurrences e (edges_of v)) (face-came f l)
            ∙ once-of _ _ _ e w.edges (borders-is m f e) w.passes (λ o. o.1) (w.each-once e k));
        point-back = λ p l. record { edges = (a.point-walked p l).edges; came = point-came p l; holds = (a.point-walked p l).is-valence };
        one-edge = λ e l.
            (one_edge-is m ne e (a.ends-differ e l) (a.point-walked (origin m e) (a.edge-in-range e l).origin-in-range) (a.point-walked (dest m e) (a.edge-in-range e l).dest-in-range)).1
            (λ j k. a.one-edge e j l k);
      }
    where
      face-came : (f : ℕ) (l : f < nf) → face_walk m ne f ≡ back (a.face-walked f l).edges
      face-came f l = let w = a.face-walked f l in (face_walk-is m ne f w.edges).1 (w.passes, w.at-most-64)

      point-came : (p : ℕ) (l : p < np) → point_walk m ne (valence m p) p ≡ back (a.point-walked p l).edges
      point-came p l = let w = a.point-walked p l in (point_walk-is m ne p (valence m p) w.edges).1 (w.passes, omega (arith, w.is-valence))

-- The quick test is the audit.
pub quick-is-audit : QuickIsAudit
quick-is-audit m np ne nf =
    same_test (Iff.trans (parts_is m np ne nf) (audited-of-parts m np ne nf, parts-of-audited m np ne nf)) (audit-is-audited m np ne nf)
