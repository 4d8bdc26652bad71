-- The invariant after all faces, or the ground that stopped them. Assumes nothing.
--     verdict-is              what the verdict of a face says
--     faces-came              what comes of all faces
use mathlib.Core.Path.{◌≡◌, refl, sym, ◌∙◌, ap₂, subst}
use mathlib.Core.Bool.{Bool, true, false, not, cond}
use mathlib.Core.Logic.{inl, inr, ⊎_elim, ◌≢◌}
use Prim.Native.Nat.{ℕ, zero, suc, ◌+◌, ◌<◌, ◌≤◌}
use native.Mathlib.Omega.{arith}
use native.Mathlib.Decide.{dec_lt}
use lib.Dec.{eqb, ltb, leb}
use borrow.Author.Tests.{leb-false, ltb-false, eqb-true, not-false}
use Rattle.std.specs.Prelude.{Result, Ok, Err, ⊤}
use Rattle.perimeters.specs.Places.{next_place}
use Rattle.perimeters.proofs.Laws.{next-below, next-differs}
use Rattle.tables.specs.Mesh.{Mesh}
use Rattle.closed_meshes.specs.Renumbering.{sum_to}
use Rattle.audited_meshes.specs.Folds.{every}
use Rattle.audited_meshes.proofs.Folds.{below_suc}
use Rattle.audited_meshes.proofs.Tests.{Is, and_is, not_is, eqb_is, ltb-is, leb-is, every-is}
use Rattle.built_meshes.specs.Lists.{Lists, points_of, faces_of, size, offset}
use Rattle.tables.specs.declared.Sizes.{Sizes}
use Rattle.built_meshes.specs.Faces.{size_fit, listed_in_range, no_point_twice, firsts_fit, sums_fit, face_verdict}
use Rattle.built_meshes.specs.Perimeters.{BuildState, Progress, on, stopped, perimeter}
use Rattle.built_meshes.specs.Places.{point_of, next_of, Runs, IsPlace, Between, Earlier}
use Rattle.built_meshes.specs.Answers.{ground_number}
use Rattle.built_meshes.specs.Building.{face_if, face_passed, faces_from}
use Rattle.built_meshes.specs.Beyond.{Within}
use Rattle.built_meshes.specs.Grounds.{Where, face, edge, Met, face-size, out_of_range, point-twice, first-point, non-rectangular, triple-face, same_way, rank, FirstMet}
use Rattle.built_meshes.specs.declared.Ground.{Ground}
use Rattle.built_meshes.specs.declared.Ground.TheVariants.{FaceSize, OutOfRange, PointTwice, FirstPoint, NonRectangularFace, EdgeTripleFace, SameWay}
use Rattle.built_meshes.proofs.Rows.{row}
use Rattle.built_meshes.proofs.Beyond.{within-refl, within-trans}
use Rattle.built_meshes.proofs.Invariant.{FaceSound, OneWay}
use Rattle.built_meshes.proofs.Versions.{every-false, and-false, sums_apart, firsts-apart}
use Rattle.built_meshes.proofs.Before.{Agrees, Tests, tests-of, Triple, Same, no_same, no-triple, ClearLists, first-face, first_edge}
use Rattle.built_meshes.proofs.Entering.{Why, both_ways, this-way}
use Rattle.built_meshes.proofs.Perimeter.{Ready, ready-same, Done, Faces, PerimeterCame, whole, halted, perimeter-came, offset-suc}

why-number : {l : Lists} {D : ℕ → ℕ → Type 0} {p q : ℕ} {g : Ground} → Why l D p q g → 10 ≤ ground_number g
why-number (both_ways f i g j d a b d' a' b') = omega arith
why-number (this-way f i d a b n) = omega arith

-- ---- one face

module _ (c : Sizes) (l : Lists) (m₀ : Mesh) where
  pub data FaceVerdict (f : ℕ) : Result ⊤ Ground → Type 0 where
    fit : FaceSound l f → Agrees l f → FaceVerdict f (Ok tt)
    unfit : {g : Ground} → Met c l m₀ (face f) g → Tests l f (rank g) → 10 ≤ ground_number g → FaceVerdict f (Err g)

  range-is : (f : ℕ) → Is (listed_in_range l (points_of l) (offset l f) (size l f)) ((i : ℕ) → i < size l f → point_of l f i < points_of l)
  unfolding listed_in_range
  range-is f = every-is (size l f) (λ i. ltb-is (point_of l f i) (points_of l))

  twice-is : (f : ℕ) → Is (no_point_twice l (offset l f) (size l f)) ((i : ℕ) → i < size l f → (j : ℕ) → j < i → ¬ (point_of l f i ≡ point_of l f j))
  unfolding no_point_twice
  twice-is f = every-is (size l f) (λ i. every-is i (λ j. not_is (eqb_is (point_of l f i) (point_of l f j))))

  distinct_of : (f : ℕ) → ((i : ℕ) → i < size l f → (j : ℕ) → j < i → ¬ (point_of l f i ≡ point_of l f j)) →
      (i j : ℕ) → i < size l f → j < size l f → point_of l f i ≡ point_of l f j → i ≡ j
  distinct_of f h i j b b' same = go (dec_lt i j) (dec_lt j i)
    where
      go : Dec (i < j) → Dec (j < i) → i ≡ j
      go (yes lt) d = absurd (h j b' i lt (sym same))
      go (no ge) (yes lt) = absurd (h i b j lt same)
      go (no ge) (no le) = omega arith

  size-met : (f : ℕ) → f < faces_of l → size_fit (size l f) ≡ false → Met c l m₀ (face f) FaceSize
  size-met f b h =
      face-size f b
      (⊎_elim (λ z. inl (leb-false 3 (size l f) z)) (λ z. inr (leb-false (size l f) 64 z)) (and-false (leb 3 (size l f)) (leb (size l f) 64) h))

  range-met : (f : ℕ) → f < faces_of l → listed_in_range l (points_of l) (offset l f) (size l f) ≡ false → Met c l m₀ (face f) OutOfRange
  unfolding listed_in_range
  range-met f b h =
      let w = every-false (size l f) (λ i. ltb (point_of l f i) (points_of l)) h in
      out_of_range f w.0 (b, w.1) (ltb-false (point_of l f w.0) (points_of l) w.2)

  twice-met : (f : ℕ) → f < faces_of l → no_point_twice l (offset l f) (size l f) ≡ false → Met c l m₀ (face f) PointTwice
  unfolding no_point_twice
  twice-met f b h =
      let w = every-false (size l f) (λ i. every i (λ j. not (eqb (point_of l f i) (point_of l f j)))) h in
      let u = every-false w.0 (λ j. not (eqb (point_of l f w.0) (point_of l f j))) w.2 in
      point-twice f w.0 u.0 (b, w.1) u.1
      (eqb-true (point_of l f w.0) (point_of l f u.0) (not-false (eqb (point_of l f w.0) (point_of l f u.0)) u.2))

  -- what is left of the verdict after 12
  abbrev version_verdict : ℕ → Result ⊤ Ground
  version_verdict f =
      cond (not (firsts_fit l.version l f (offset l f))) (Err FirstPoint) (cond (not (sums_fit l.version l f (offset l f))) (Err NonRectangularFace) (Ok tt))

  pub verdict-is : (f : ℕ) → f < faces_of l → FaceVerdict f (face_verdict l (points_of l) f (offset l f))
  unfolding face_verdict
  verdict-is f b = sizes (size_fit (size l f)) refl
    where
      -- what passed before a test that fails
      tests-9 : Tests l f 9
      tests-9 =
          record {
            sizes = λ h. absurd (omega arith);
            ranges = λ h. absurd (omega arith);
            once = λ h. absurd (omega arith);
            firsts = λ h. absurd (omega arith);
            sums = λ h. absurd (omega arith);
          }

      tests-10 : size_fit (size l f) ≡ true → Tests l f 10
      tests-10 hs =
          record {
            sizes = λ h. (and_is (leb-is 3 (size l f)) (leb-is (size l f) 64)).0 hs;
            ranges = λ h. absurd (omega arith);
            once = λ h. absurd (omega arith);
            firsts = λ h. absurd (omega arith);
            sums = λ h. absurd (omega arith);
          }

      tests-11 : size_fit (size l f) ≡ true → listed_in_range l (points_of l) (offset l f) (size l f) ≡ true → Tests l f 11
      tests-11 hs hr =
          record {
            sizes = λ h. (tests-10 hs).sizes (omega arith);
            ranges = λ h. (range-is f).0 hr;
            once = λ h. absurd (omega arith);
            firsts = λ h. absurd (omega arith);
            sums = λ h. absurd (omega arith);
          }

      tests-12 : FaceSound l f → Tests l f 12
      tests-12 s =
          record {
            sizes = λ h. (s.at-least-3, s.at-most-64);
            ranges = λ h. s.in-range;
            once = λ h. s.distinct;
            firsts = λ h. absurd (omega arith);
            sums = λ h. absurd (omega arith);
          }

      tests-13 : FaceSound l f → firsts_fit l.version l f (offset l f) ≡ true → Tests l f 13
      tests-13 s hf =
          record {
            sizes = λ h. (s.at-least-3, s.at-most-64);
            ranges = λ h. s.in-range;
            once = λ h. s.distinct;
            firsts = λ h. hf;
            sums = λ h. absurd (omega arith);
          }

      sums : FaceSound l f → firsts_fit l.version l f (offset l f) ≡ true → (t : Bool) → sums_fit l.version l f (offset l f) ≡ t →
          FaceVerdict f (cond (not t) (Err NonRectangularFace) (Ok tt))
      sums s hf true h = fit s (hf, h)
      sums s hf false h = unfit {g = NonRectangularFace} (non-rectangular f b (sums_apart l f (offset l f) h)) (tests-13 s hf) (omega arith)

      firsts : FaceSound l f → (t : Bool) → firsts_fit l.version l f (offset l f) ≡ t →
          FaceVerdict f (cond (not t) (Err FirstPoint) (cond (not (sums_fit l.version l f (offset l f))) (Err NonRectangularFace) (Ok tt)))
      firsts s true h = sums s h (sums_fit l.version l f (offset l f)) refl
      firsts s false h =
          let x = firsts-apart l f (offset l f) (omega (arith, s.at-least-3)) h in
          unfit {g = FirstPoint} (first-point f x.side x.place x.two b x.is-side x.last x.differs) (tests-12 s) (omega arith)

      twice : size_fit (size l f) ≡ true → listed_in_range l (points_of l) (offset l f) (size l f) ≡ true → (t : Bool) → no_point_twice l (offset l f) (size l f) ≡ t →
          FaceVerdict f (cond (not t) (Err PointTwice) (version_verdict f))
      twice hs hr true h =
          let both = (and_is (leb-is 3 (size l f)) (leb-is (size l f) 64)).0 hs in
          firsts (record { at-least-3 = both.0; at-most-64 = both.1; in-range = (range-is f).0 hr; distinct = distinct_of f ((twice-is f).0 h) })
          (firsts_fit l.version l f (offset l f)) refl
      twice hs hr false h = unfit {g = PointTwice} (twice-met f b h) (tests-11 hs hr) (omega arith)

      ranges : size_fit (size l f) ≡ true → (t : Bool) → listed_in_range l (points_of l) (offset l f) (size l f) ≡ t →
          FaceVerdict f (cond (not t) (Err OutOfRange)
          (cond (not (no_point_twice l (offset l f) (size l f))) (Err PointTwice) (version_verdict f)))
      ranges hs true h = twice hs h (no_point_twice l (offset l f) (size l f)) refl
      ranges hs false h = unfit {g = OutOfRange} (range-met f b h) (tests-10 hs) (omega arith)

      sizes : (t : Bool) → size_fit (size l f) ≡ t →
          FaceVerdict f (cond (not t) (Err FaceSize) (cond (not (listed_in_range l (points_of l) (offset l f) (size l f))) (Err OutOfRange)
          (cond (not (no_point_twice l (offset l f) (size l f))) (Err PointTwice) (version_verdict f))))
      sizes true h = ranges h (listed_in_range l (points_of l) (offset l f) (size l f)) refl
      sizes false h = unfit {g = FaceSize} (size-met f b h) tests-9 (omega arith)

  -- nothing is held against the faces below k
  pub record FitFaces (k : ℕ) : Type 0 where
    pub sound : (f : ℕ) → f < k → FaceSound l f
    pub agrees : (f : ℕ) → f < k → Agrees l f

  pub fit-tests : (k : ℕ) → FitFaces k → (f : ℕ) → f < k → (n : ℕ) → Tests l f n
  fit-tests k a f b n = tests-of l f n (a.sound f b) (a.agrees f b)

  -- ---- a place that was refused

  -- where places are entered, earlier ones are
  pub done-down : (k i : ℕ) (g j f x : ℕ) → IsPlace l g j → Earlier g j f x → Done l k i f x → Done l k i g j
  done-down k i g j f x is (inl h) (inl d) = inl (omega (arith, d.0), is.1)
  done-down k i g j f x is (inl h) (inr d) = inl (omega (arith, d.0), is.1)
  done-down k i g j f x is (inr h) (inl d) = inl (omega (arith, d.0, h.0), is.1)
  done-down k i g j f x is (inr h) (inr d) = inr (h.0 ∙ d.0, omega (arith, d.1, h.1))

  module _ (clear : ClearLists c l m₀) (k j : ℕ) (kf : k < faces_of l) (fit : FitFaces (suc k)) (b : j < size l k) (one_way : OneWay l (Done l k j)) where
    this : Runs l k j (point_of l k j) (next_of l k j)
    this = record { is-place = (kf, b); begins = refl; ends = refl }

    was : (f i : ℕ) {p q : ℕ} → Done l k j f i → point_of l f i ≡ p → next_of l f i ≡ q → Runs l f i p q
    was f i (inl h) x y = record { is-place = (omega (arith, h.0), h.1); begins = x; ends = y }
    was f i (inr h) x y =
        record { is-place = (subst (λ f. f < faces_of l) (sym h.0) kf, subst (λ f. i < size l f) (sym h.0) (omega (arith, h.1))); begins = x; ends = y }

    was-before : (f i : ℕ) → Done l k j f i → Earlier f i k j
    was-before f i (inl h) = inl h.0
    was-before f i (inr h) = inr h

    before-was : (f i : ℕ) → IsPlace l f i → Earlier f i k j → Done l k j f i
    before-was f i is (inl h) = inl (h, is.1)
    before-was f i is (inr h) = inr h

    points-differ : point_of l k j ≢ next_of l k j
    points-differ h =
        let sound = fit.sound k (omega arith) in
        next-differs (size l k) j (omega (arith, sound.at-least-3)) b
        (sym (sound.distinct j (next_place (size l k) j) b (next-below (size l k) j b) h))

    entered-fit : (f i : ℕ) → IsPlace l f i → Earlier f i k j → (¬ Triple l f i) × (¬ Same l f i)
    entered-fit f i is h = (
      no-triple l (Done l k j) (done-down k j) one_way f i (before-was f i is h),
      no_same l (Done l k j) (done-down k j) one_way f i (before-was f i is h),
    )

    tested : (f : ℕ) → f ≤ k → (n : ℕ) → Tests l f n
    tested f h = fit-tests (suc k) fit f (omega arith)

    refused-first : {g : Ground} → Why l (Done l k j) (point_of l k j) (next_of l k j) g → FirstMet c l m₀ (edge k j) g
    refused-first (both_ways f i g x d begin end d' begin' end') =
        first_edge c l m₀ clear k j 14 tested entered-fit (λ h. absurd (omega arith)) (omega arith) EdgeTripleFace refl
        (triple-face k j f i g x (point_of l k j) (next_of l k j) this (inl (was f i d begin end)) (inr (was g x d' begin' end')) (was-before f i d)
        (was-before g x d') (λ z. points-differ (sym begin ∙ ap₂ (λ (f i : ℕ). point_of l f i) z.0 z.1 ∙ begin')))
    refused-first (this-way f i d begin end none-back) =
        first_edge c l m₀ clear k j 15 tested entered-fit (λ h. alone) (omega arith) SameWay refl
        (same_way k j f i (point_of l k j) (next_of l k j) this (was f i d begin end) (was-before f i d))
      where
        alone : ¬ Triple l k j
        alone (g, x, h, y, p, q, r, a, a', e, e', two) = go a a'
          where
            done : {g x : ℕ} → Between l g x p q → Earlier g x k j → Done l k j g x
            done {g} {x} (inl t) e = before-was g x t.is-place e
            done {g} {x} (inr t) e = before-was g x t.is-place e

            back : {g x : ℕ} → Runs l g x q p → Done l k j g x → ⊥
            back {g} {x} t d = none-back g x d (t.begins ∙ sym r.ends) (t.ends ∙ sym r.begins)

            go : Between l g x p q → Between l h y p q → ⊥
            go (inr t) t' = back t (done (inr t) e)
            go (inl t) (inr t') = back t' (done (inr t') e')
            go (inl t) (inl t') = two (one_way g x h y (done (inl t) e) (done (inl t') e') (t.begins ∙ sym t'.begins) (t.ends ∙ sym t'.ends))

  -- ---- all faces

  pub data FacesCame (s₀ : BuildState) : Progress BuildState → Type 0 where
    stand : {t : BuildState} → Faces l (faces_of l) t → FitFaces (faces_of l) → Within l s₀.mesh t.mesh →
        ((x : ℕ) → t.edges ≤ x → row t.mesh x ≡ row s₀.mesh x) → FacesCame s₀ (on t)
    stop : {g : Ground} {m : Mesh} (w : Where) → FirstMet c l m₀ w g → 10 ≤ ground_number g → Within l s₀.mesh m → FacesCame s₀ (stopped g m)

  module _ (clear : ClearLists c l m₀) (s₀ : BuildState) (ready : Ready l s₀.mesh) where
    -- the state s, come from s₀, with the faces below f in
    pub record SoFar (f : ℕ) (s : BuildState) : Type 0 where
      pub faces : Faces l f s
      pub fit-faces : FitFaces f
      pub within : Within l s₀.mesh s.mesh
      pub later : (x : ℕ) → s.edges ≤ x → row s.mesh x ≡ row s₀.mesh x

    pub data Along (f : ℕ) : Progress BuildState → Type 0 where
      along : {s : BuildState} → SoFar f s → Along f (on s)
      stopped-at : {g : Ground} {m : Mesh} (w : Where) → FirstMet c l m₀ w g → 10 ≤ ground_number g → Within l s₀.mesh m → Along f (stopped g m)

    fit-more : (f : ℕ) → FitFaces f → FaceSound l f → Agrees l f → FitFaces (suc f)
    fit-more f a s r =
        record {
          sound = λ x h. below_suc x f h (a.sound x) (λ same. subst (λ f. FaceSound l f) (sym same) s);
          agrees = λ x h. below_suc x f h (a.agrees x) (λ same. subst (λ f. Agrees l f) (sym same) r);
        }

    -- a ground of face f is met first
    face-first : (f : ℕ) (s : BuildState) → f < faces_of l → SoFar f s → {g : Ground} → Met c l m₀ (face f) g → Tests l f (rank g) → FirstMet c l m₀ (face f) g
    face-first f s b a {g} met tests =
        first-face c l m₀ clear f (rank g) (fit-tests f a.fit-faces) tests
        (λ x i is h.
        let one_way = a.faces.invariant.one_way in
        (no-triple l (Done l f 0) (done-down f 0) one_way x i (inl (h, is.1)), no_same l (Done l f 0) (done-down f 0) one_way x i (inl (h, is.1))))
        g refl met

    pub face-came : (f : ℕ) (s : BuildState) → f < faces_of l → SoFar f s → Along (suc f) (face_passed l f (offset l f) s)
    unfolding face_passed face_if
    face-came f s b a = go (face_verdict l (points_of l) f (offset l f)) (verdict-is f b)
      where
        entered : (sound : FaceSound l f) → Agrees l f → (x : Progress BuildState) →
            PerimeterCame l s f b sound (ready-same l a.within ready) x → Along (suc f) x
        entered sound r x (whole faces within grows later) =
            along (record {
              faces = faces;
              fit-faces = fit-more f a.fit-faces sound r;
              within = within-trans l a.within within;
              later = λ x h. later x h ∙ a.later x (omega arith);
            })
        entered sound r x (halted {g = g} j k w u o) =
            stopped-at {g = g} (edge f j) (refused-first clear f j b (fit-more f a.fit-faces sound r) k u w) (why-number w) (within-trans l a.within o)

        go : (v : Result ⊤ Ground) → FaceVerdict f v → Along (suc f) (face_if l f (offset l f) s v)
        go v (fit sound r) = entered sound r (perimeter l f (offset l f) s) (perimeter-came l s f b sound (ready-same l a.within ready) a.faces)
        go v (unfit {g = g} h t n) = stopped-at {g = g} (face f) (face-first f s b a h t) n a.within

    from-came : (k f : ℕ) (x : Progress BuildState) → f + k ≡ faces_of l → Along f x → Along (faces_of l) (faces_from k l f (offset l f) x)
    unfolding faces_from
    from-came zero f x h a = subst (λ n. Along n x) (let same : f ≡ faces_of l = omega arith in same) a
    from-came (suc k) f x h (along {s = s} a) =
        subst (λ o. Along (faces_of l) (faces_from k l (suc f) o (face_passed l f (offset l f) s))) (offset-suc l f)
        (from-came k (suc f) (face_passed l f (offset l f) s) (omega arith) (face-came f s (omega arith) a))
    from-came (suc k) f x h (stopped-at {g = g} p w n o) = stopped-at {g = g} p w n o

    pub so-far-none : Faces l 0 s₀ → SoFar 0 s₀
    so-far-none all =
        record {
          faces = all;
          fit-faces = record { sound = λ f h. absurd (omega arith); agrees = λ f h. absurd (omega arith) };
          within = within-refl l s₀.mesh;
          later = λ x h. refl;
        }

    pub faces-came : Faces l 0 s₀ → FacesCame s₀ (faces_from (faces_of l) l 0 0 (on s₀))
    unfolding offset sum_to
    faces-came all = go (faces_from (faces_of l) l 0 0 (on s₀)) (from-came (faces_of l) 0 (on s₀) (omega arith) (along (so-far-none all)))
      where
        go : (x : Progress BuildState) → Along (faces_of l) x → FacesCame s₀ x
        go x (along a) = stand a.faces a.fit-faces a.within a.later
        go x (stopped-at {g = g} p w n o) = stop {g = g} p w n o
