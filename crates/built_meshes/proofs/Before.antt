-- That no ground is met before a check, from what the tests before it say. Assumes nothing.
--     Tests l f n             the tests of face f by the grounds below n pass
--     Clear c l m K           no ground is met at a check whose turn is before K
--     none_before             so none is
--     first-lists, first-face, first_edge, first-whole     a ground that is met after what passed is met first
--     nothing-met             where all passes, nothing is met
--     same-ground             grounds at checks of which none is before the other are one
--     first-once              two grounds that are met first are one
use mathlib.Core.Path.{◌≡◌, refl, sym, ◌∙◌, ap, subst}
use mathlib.Core.Bool.{true, cond}
use mathlib.Core.Logic.{◌⊎◌, inl, inr}
use mathlib.Core.List.{List, [], ◌∷◌}
use Prim.Native.Nat.{ℕ, suc, ◌<◌, ◌≤◌}
use native.Mathlib.Omega.{arith}
use native.Mathlib.Decide.{dec_lt}
use lib.Dec.{eqb}
use Rattle.tables.specs.declared.Sizes.{Sizes}
use Rattle.tables.specs.Mesh.{Mesh}
use Rattle.built_meshes.specs.Lists.{Lists, points_of, faces_of, size, offset}
use Rattle.built_meshes.specs.Faces.{firsts_fit, sums_fit}
use Rattle.built_meshes.specs.Places.{point_of, IsPlace, Runs, Between, Differ, Earlier}
use Rattle.built_meshes.specs.Grounds.{IsOverCounts, HasUnfitNumber, HasFewRows, HasMissingFace, HasNoEdge, HasMissedEdge}
use Rattle.built_meshes.specs.Grounds.{Where, lists, face, edge, whole, Met, over-counts, unfit-number, few-rows}
use Rattle.built_meshes.specs.Grounds.{face-size, out_of_range, point-twice, first-point, non-rectangular, triple-face}
use Rattle.built_meshes.specs.Grounds.{same_way, missing-face, no_edge, missed-edge, Less, rank, turn_of, FirstMet}
use Rattle.built_meshes.specs.declared.Ground.{Ground}
use Rattle.built_meshes.specs.declared.Ground.TheVariants.{OverCounts, UnfitNumber, FewRows, FaceSize, OutOfRange}
use Rattle.built_meshes.specs.declared.Ground.TheVariants.{PointTwice, FirstPoint, NonRectangularFace, EdgeTripleFace}
use Rattle.built_meshes.specs.declared.Ground.TheVariants.{SameWay, MissingFace, NoEdge, MissedEdge}
use Rattle.built_meshes.proofs.Versions.{firsts-agree, sums-agree}
use Rattle.built_meshes.proofs.Made.{earlier-differs}
use Rattle.built_meshes.proofs.Invariant.{FaceSound, OneWay}

-- ---- the tests of a face

pub record Tests (l : Lists) (f n : ℕ) : Type 0 where
  pub sizes : 9 < n → (3 ≤ size l f) × (size l f ≤ 64)
  pub ranges : 10 < n → (i : ℕ) → i < size l f → point_of l f i < points_of l
  pub once : 11 < n → (i j : ℕ) → i < size l f → j < size l f → point_of l f i ≡ point_of l f j → i ≡ j
  pub firsts : 12 < n → firsts_fit l.version l f (offset l f) ≡ true
  pub sums : 13 < n → sums_fit l.version l f (offset l f) ≡ true

-- what the versions ask of a face
abbrev pub Agrees : Lists → ℕ → Type 0
Agrees l f = (firsts_fit l.version l f (offset l f) ≡ true) × (sums_fit l.version l f (offset l f) ≡ true)

pub tests-of : (l : Lists) (f n : ℕ) → FaceSound l f → Agrees l f → Tests l f n
tests-of l f n s r =
    record { sizes = λ h. (s.at-least-3, s.at-most-64); ranges = λ h. s.in-range; once = λ h. s.distinct; firsts = λ h. r.0; sums = λ h. r.1 }

pub tests-fewer : (l : Lists) (f k n : ℕ) → k ≤ n → Tests l f n → Tests l f k
tests-fewer l f k n le t =
    record {
      sizes = λ h. t.sizes (omega arith);
      ranges = λ h. t.ranges (omega arith);
      once = λ h. t.once (omega arith);
      firsts = λ h. t.firsts (omega arith);
      sums = λ h. t.sums (omega arith);
    }

-- ---- the places of an edge

-- two earlier places join the points of place i of face f
abbrev pub Triple : Lists → ℕ → ℕ → Type 0
Triple l f i =
    (g : ℕ) × (j : ℕ) × (h : ℕ) × (k : ℕ) × (p : ℕ) × (q : ℕ) × Runs l f i p q × Between l g j p q × Between l h k p q × Earlier g j f i
    × Earlier h k f i × Differ g j h k

abbrev pub Same : Lists → ℕ → ℕ → Type 0
Same l f i = (g : ℕ) × (j : ℕ) × (p : ℕ) × (q : ℕ) × Runs l f i p q × Runs l g j p q × Earlier g j f i

-- Among places of which no two run the same way there is neither.
module _ (l : Lists) (D : ℕ → ℕ → Type 0) (down : (g j f i : ℕ) → IsPlace l g j → Earlier g j f i → D f i → D g j) (one_way : OneWay l D) where
  once : (f i g j p q : ℕ) → D f i → D g j → Runs l f i p q → Runs l g j p q → (f ≡ g) × (i ≡ j)
  once f i g j p q d d' r t = one_way f i g j d d' (r.begins ∙ sym t.begins) (r.ends ∙ sym t.ends)

  between-place : {f i p q : ℕ} → Between l f i p q → IsPlace l f i
  between-place (inl r) = r.is-place
  between-place (inr r) = r.is-place

  pub no_same : (f i : ℕ) → D f i → ¬ Same l f i
  no_same f i d (g, j, p, q, r, t, h) = earlier-differs g j f i h (once g j f i p q (down g j f i t.is-place h d) d t r)

  pub no-triple : (f i : ℕ) → D f i → ¬ Triple l f i
  no-triple f i d (g, j, h, k, p, q, r, a, b, ga, hb, two) = go a b
    where
      dg : D g j
      dg = down g j f i (between-place a) ga d

      dh : D h k
      dh = down h k f i (between-place b) hb d

      go : Between l g j p q → Between l h k p q → ⊥
      go (inl a) b = earlier-differs g j f i ga (once g j f i p q dg d a r)
      go (inr a) (inl b) = earlier-differs h k f i hb (once h k f i p q dh d b r)
      go (inr a) (inr b) = two (once g j h k q p dg dh a b)

-- ---- nothing is met before a turn

module _ (c : Sizes) (l : Lists) (m : Mesh) where
  pub record ClearLists : Type 0 where
    pub counts : ¬ IsOverCounts c l
    pub numbers : ¬ HasUnfitNumber l
    pub rows : ¬ HasFewRows l m

  record Clear (K : List ℕ) : Type 0 where
    counts : Less (0 ∷ 2 ∷ []) K → ¬ IsOverCounts c l
    numbers : Less (0 ∷ 3 ∷ []) K → ¬ HasUnfitNumber l
    rows : Less (0 ∷ 4 ∷ []) K → ¬ HasFewRows l m
    of-face : (f k : ℕ) → f < faces_of l → Less (1 ∷ f ∷ 0 ∷ k ∷ []) K → Tests l f (suc k)
    triples : (f i : ℕ) → IsPlace l f i → Less (1 ∷ f ∷ suc i ∷ 14 ∷ []) K → ¬ Triple l f i
    sames : (f i : ℕ) → IsPlace l f i → Less (1 ∷ f ∷ suc i ∷ 15 ∷ []) K → ¬ Same l f i
    missing : Less (2 ∷ 20 ∷ []) K → ¬ HasMissingFace l
    bare : Less (2 ∷ 21 ∷ []) K → ¬ HasNoEdge l
    missed : Less (2 ∷ 22 ∷ []) K → ¬ HasMissedEdge l

  none_before : (K : List ℕ) → Clear K → (w : Where) (g : Ground) → Less (turn_of w g) K → ¬ Met c l m w g
  none_before K v w g b (over-counts h) = v.counts b h
  none_before K v w g b (unfit-number h) = v.numbers b h
  none_before K v w g b (few-rows h) = v.rows b h
  none_before K v w g b (face-size f is h) = go h
    where
      fits : (3 ≤ size l f) × (size l f ≤ 64)
      fits = (v.of-face f 9 is b).sizes (omega arith)

      go : (size l f < 3) ⊎ (64 < size l f) → ⊥
      go (inl z) = omega (arith, fits.0)
      go (inr z) = omega (arith, fits.1)
  none_before K v w g b (out_of_range f i is h) = let z = (v.of-face f 10 is.0 b).ranges (omega arith) i is.1 in omega arith
  none_before K v w g b (point-twice f i j is less same) =
      let z : i ≡ j = (v.of-face f 11 is.0 b).once (omega arith) i j is.1 (let h = is.1 in omega arith) same in omega arith
  none_before K v w g b (first-point f k j two is kb last differs) = differs (firsts-agree l f (offset l f) k j two ((v.of-face f 12 is b).firsts (omega arith)) kb last)
  none_before K v w g b (non-rectangular f is h) = sums-agree l f (offset l f) ((v.of-face f 13 is b).sums (omega arith)) h
  none_before K v w g b (triple-face f i g' j h k p q r a b' e e' d) = v.triples f i r.is-place b (g', j, h, k, p, q, r, a, b', e, e', d)
  none_before K v w g b (same_way f i g' j p q r t e) = v.sames f i r.is-place b (g', j, p, q, r, t, e)
  none_before K v w g b (missing-face h) = v.missing b h
  none_before K v w g b (no_edge h) = v.bare b h
  none_before K v w g b (missed-edge h) = v.missed b h

  module _ (of-lists : ClearLists) where
    -- ---- before a ground of a face

    module _ (F n : ℕ) (below : (f : ℕ) → f < F → (k : ℕ) → Tests l f k) (tests : Tests l F n)
        (entered : (f i : ℕ) → IsPlace l f i → f < F → (¬ Triple l f i) × (¬ Same l f i)) where
      face-before : (f k : ℕ) → Less (1 ∷ f ∷ 0 ∷ k ∷ []) (1 ∷ F ∷ 0 ∷ n ∷ []) → (f < F) ⊎ ((f ≡ F) × (k < n))
      face-before f k (inl h) = absurd (omega arith)
      face-before f k (inr (e, inl h)) = inl h
      face-before f k (inr (e, inr (s, inl h))) = absurd (omega arith)
      face-before f k (inr (e, inr (s, inr (z, inl h)))) = inr (s, h)
      face-before f k (inr (e, inr (s, inr (z, inr (y, h))))) = absurd h

      edge-before : (f i k : ℕ) → Less (1 ∷ f ∷ suc i ∷ k ∷ []) (1 ∷ F ∷ 0 ∷ n ∷ []) → f < F
      edge-before f i k (inl h) = absurd (omega arith)
      edge-before f i k (inr (e, inl h)) = h
      edge-before f i k (inr (e, inr (s, inl h))) = absurd (omega arith)
      edge-before f i k (inr (e, inr (s, inr (z, h)))) = absurd (omega arith)

      whole-not : {k : ℕ} {A : Type 0} → Less (2 ∷ k ∷ []) (1 ∷ F ∷ 0 ∷ n ∷ []) → A
      whole-not (inl h) = absurd (omega arith)
      whole-not (inr (h, z)) = absurd (omega arith)

      clear-face : Clear (1 ∷ F ∷ 0 ∷ n ∷ [])
      clear-face =
          record {
            counts = λ h. of-lists.counts;
            numbers = λ h. of-lists.numbers;
            rows = λ h. of-lists.rows;
            of-face = λ f k b h. tested f k (face-before f k h);
            triples = λ f i is h. (entered f i is (edge-before f i 14 h)).0;
            sames = λ f i is h. (entered f i is (edge-before f i 15 h)).1;
            missing = λ h. whole-not {k = 20} h;
            bare = λ h. whole-not {k = 21} h;
            missed = λ h. whole-not {k = 22} h;
          }
        where
          tested : (f k : ℕ) → (f < F) ⊎ ((f ≡ F) × (k < n)) → Tests l f (suc k)
          tested f k (inl h) = below f h (suc k)
          tested f k (inr h) = subst (λ f. Tests l f (suc k)) (sym h.0) (tests-fewer l F (suc k) n h.1 tests)

      pub first-face : (g : Ground) → rank g ≡ n → Met c l m (face F) g → FirstMet c l m (face F) g
      first-face g is met =
          record {
            met = met;
            none_before = λ w g' b. none_before (1 ∷ F ∷ 0 ∷ n ∷ []) clear-face w g' (subst (λ n. Less (turn_of w g') (1 ∷ F ∷ 0 ∷ n ∷ [])) is b);
          }

    -- ---- before a ground of an edge

    module _ (F I n : ℕ) (below : (f : ℕ) → f ≤ F → (k : ℕ) → Tests l f k)
        (entered : (f i : ℕ) → IsPlace l f i → Earlier f i F I → (¬ Triple l f i) × (¬ Same l f i)) (third : 14 < n → ¬ Triple l F I) (last : n ≤ 15) where
      face-sooner : (f k : ℕ) → Less (1 ∷ f ∷ 0 ∷ k ∷ []) (1 ∷ F ∷ suc I ∷ n ∷ []) → f ≤ F
      face-sooner f k (inl h) = absurd (omega arith)
      face-sooner f k (inr (e, inl h)) = omega arith
      face-sooner f k (inr (e, inr (s, h))) = omega arith

      edge-sooner : (f i k : ℕ) → Less (1 ∷ f ∷ suc i ∷ k ∷ []) (1 ∷ F ∷ suc I ∷ n ∷ []) → Earlier f i F I ⊎ (((f ≡ F) × (i ≡ I)) × (k < n))
      edge-sooner f i k (inl h) = absurd (omega arith)
      edge-sooner f i k (inr (e, inl h)) = inl (inl h)
      edge-sooner f i k (inr (e, inr (s, inl h))) = inl (inr (s, omega arith))
      edge-sooner f i k (inr (e, inr (s, inr (z, inl h)))) = inr ((s, omega arith), h)
      edge-sooner f i k (inr (e, inr (s, inr (z, inr (y, h))))) = absurd h

      whole-later : {k : ℕ} {A : Type 0} → Less (2 ∷ k ∷ []) (1 ∷ F ∷ suc I ∷ n ∷ []) → A
      whole-later (inl h) = absurd (omega arith)
      whole-later (inr (h, z)) = absurd (omega arith)

      clear-edge : Clear (1 ∷ F ∷ suc I ∷ n ∷ [])
      clear-edge =
          record {
            counts = λ h. of-lists.counts;
            numbers = λ h. of-lists.numbers;
            rows = λ h. of-lists.rows;
            of-face = λ f k b h. below f (face-sooner f k h) (suc k);
            triples = λ f i is h. triple f i is (edge-sooner f i 14 h);
            sames = λ f i is h. same f i is (edge-sooner f i 15 h);
            missing = λ h. whole-later {k = 20} h;
            bare = λ h. whole-later {k = 21} h;
            missed = λ h. whole-later {k = 22} h;
          }
        where
          triple : (f i : ℕ) → IsPlace l f i → Earlier f i F I ⊎ (((f ≡ F) × (i ≡ I)) × (14 < n)) → ¬ Triple l f i
          triple f i is (inl h) = (entered f i is h).0
          triple f i is (inr h) = subst (λ f. ¬ Triple l f i) (sym h.0.0) (subst (λ i. ¬ Triple l F i) (sym h.0.1) (third h.1))

          same : (f i : ℕ) → IsPlace l f i → Earlier f i F I ⊎ (((f ≡ F) × (i ≡ I)) × (15 < n)) → ¬ Same l f i
          same f i is (inl h) = (entered f i is h).1
          same f i is (inr h) = absurd (omega (arith, h.1))

      pub first_edge : (g : Ground) → rank g ≡ n → Met c l m (edge F I) g → FirstMet c l m (edge F I) g
      first_edge g is met =
          record {
            met = met;
            none_before = λ w g' b. none_before (1 ∷ F ∷ suc I ∷ n ∷ []) clear-edge w g' (subst (λ n. Less (turn_of w g') (1 ∷ F ∷ suc I ∷ n ∷ [])) is b);
          }

    -- ---- before a ground of the whole

    module _ (tested : (f : ℕ) → f < faces_of l → (k : ℕ) → Tests l f k) (entered : (f i : ℕ) → IsPlace l f i → (¬ Triple l f i) × (¬ Same l f i)) where
      module _ (n : ℕ) (missing : 20 < n → ¬ HasMissingFace l) (bare : 21 < n → ¬ HasNoEdge l) (missed : 22 < n → ¬ HasMissedEdge l) where
        sooner : (k : ℕ) → Less (2 ∷ k ∷ []) (2 ∷ n ∷ []) → k < n
        sooner k (inl h) = absurd (omega arith)
        sooner k (inr (e, inl h)) = h
        sooner k (inr (e, inr (y, h))) = absurd h

        clear_whole : Clear (2 ∷ n ∷ [])
        clear_whole =
            record {
              counts = λ h. of-lists.counts;
              numbers = λ h. of-lists.numbers;
              rows = λ h. of-lists.rows;
              of-face = λ f k b h. tested f b (suc k);
              triples = λ f i is h. (entered f i is).0;
              sames = λ f i is h. (entered f i is).1;
              missing = λ h. missing (sooner 20 h);
              bare = λ h. bare (sooner 21 h);
              missed = λ h. missed (sooner 22 h);
            }

        pub first-whole : (g : Ground) → rank g ≡ n → Met c l m whole g → FirstMet c l m whole g
        first-whole g is met =
            record {
              met = met;
              none_before = λ w g' b. none_before (2 ∷ n ∷ []) clear_whole w g' (subst (λ n. Less (turn_of w g') (2 ∷ n ∷ [])) is b);
            }

      -- where the whole passes too, nothing is met
      pub nothing-met : ¬ HasMissingFace l → ¬ HasNoEdge l → ¬ HasMissedEdge l → (w : Where) (g : Ground) → ¬ Met c l m w g
      nothing-met a b d w g met = none_before (3 ∷ []) all w g (below w g) met
        where
          all : Clear (3 ∷ [])
          all =
              record {
                counts = λ h. of-lists.counts;
                numbers = λ h. of-lists.numbers;
                rows = λ h. of-lists.rows;
                of-face = λ f k b h. tested f b (suc k);
                triples = λ f i is h. (entered f i is).0;
                sames = λ f i is h. (entered f i is).1;
                missing = λ h. a;
                bare = λ h. b;
                missed = λ h. d;
              }

          below : (w : Where) (g : Ground) → Less (turn_of w g) (3 ∷ [])
          below lists g = inl (omega arith)
          below (face f) g = inl (omega arith)
          below (edge f i) g = inl (omega arith)
          below whole g = inl (omega arith)

  -- ---- before a ground of the lists

  module _ (n : ℕ) (counts : 2 < n → ¬ IsOverCounts c l) (numbers : 3 < n → ¬ HasUnfitNumber l) (last : n ≤ 4) where
    list-sooner : (k : ℕ) → Less (0 ∷ k ∷ []) (0 ∷ n ∷ []) → k < n
    list-sooner k (inl h) = absurd (omega arith)
    list-sooner k (inr (e, inl h)) = h
    list-sooner k (inr (e, inr (y, h))) = absurd h

    -- nothing else comes before
    list-not : (k : ℕ) (ks : List ℕ) {A : Type 0} → Less (suc k ∷ ks) (0 ∷ n ∷ []) → A
    list-not k ks (inl h) = absurd (omega arith)
    list-not k ks (inr (h, z)) = absurd (omega arith)

    pub first-lists : (g : Ground) → rank g ≡ n → Met c l m lists g → FirstMet c l m lists g
    first-lists g is met =
        record {
          met = met;
          none_before = λ w g' b. none_before (0 ∷ n ∷ []) clear w g' (subst (λ n. Less (turn_of w g') (0 ∷ n ∷ [])) is b);
        }
      where
        clear : Clear (0 ∷ n ∷ [])
        clear =
            record {
              counts = λ h. counts (list-sooner 2 h);
              numbers = λ h. numbers (list-sooner 3 h);
              rows = λ h. absurd (omega (arith, list-sooner 4 h));
              of-face = λ f k b h. list-not 0 (f ∷ 0 ∷ k ∷ []) h;
              triples = λ f i is h. list-not 0 (f ∷ suc i ∷ 14 ∷ []) h;
              sames = λ f i is h. list-not 0 (f ∷ suc i ∷ 15 ∷ []) h;
              missing = λ h. list-not 1 (20 ∷ []) h;
              bare = λ h. list-not 1 (21 ∷ []) h;
              missed = λ h. list-not 1 (22 ∷ []) h;
            }

-- ---- of two checks

ground_of : ℕ → Ground
ground_of n =
    cond (eqb n 2) OverCounts
    (cond (eqb n 3) UnfitNumber
    (cond (eqb n 4) FewRows
    (cond (eqb n 9) FaceSize
    (cond (eqb n 10) OutOfRange
    (cond (eqb n 11) PointTwice
    (cond (eqb n 12) FirstPoint
    (cond (eqb n 13) NonRectangularFace
    (cond (eqb n 14) EdgeTripleFace
    (cond (eqb n 15) SameWay
    (cond (eqb n 20) MissingFace
    (cond (eqb n 21) NoEdge MissedEdge)))))))))))

ground-of-number : (g : Ground) → ground_of (rank g) ≡ g
unfolding ground_of
ground-of-number OverCounts = refl
ground-of-number UnfitNumber = refl
ground-of-number FewRows = refl
ground-of-number FaceSize = refl
ground-of-number OutOfRange = refl
ground-of-number PointTwice = refl
ground-of-number FirstPoint = refl
ground-of-number NonRectangularFace = refl
ground-of-number EdgeTripleFace = refl
ground-of-number SameWay = refl
ground-of-number MissingFace = refl
ground-of-number NoEdge = refl
ground-of-number MissedEdge = refl

neither : (k n : ℕ) → ¬ (k < n) → ¬ (n < k) → k ≡ n
neither k n a b = go (dec_lt k n) (dec_lt n k)
  where
    go : Dec (k < n) → Dec (n < k) → k ≡ n
    go (yes h) d = absurd (a h)
    go (no h) (yes d) = absurd (b d)
    go (no h) (no d) = omega arith

-- Checks of which none is before the other have one number.
same_number : (w : Where) (g : Ground) (w' : Where) (h : Ground) → ¬ Less (turn_of w g) (turn_of w' h) → ¬ Less (turn_of w' h) (turn_of w g) → rank g ≡ rank h
same_number lists g lists h a b = neither _ _ (λ z. a (inr (refl, inl z))) (λ z. b (inr (refl, inl z)))
same_number lists g (face f) h a b = absurd (a (inl (omega arith)))
same_number lists g (edge f i) h a b = absurd (a (inl (omega arith)))
same_number lists g whole h a b = absurd (a (inl (omega arith)))
same_number (face f) g lists h a b = absurd (b (inl (omega arith)))
same_number (face f) g (face x) h a b =
    let e : f ≡ x = neither f x (λ z. a (inr (refl, inl z))) (λ z. b (inr (refl, inl z))) in
    neither _ _ (λ z. a (inr (refl, inr (e, inr (refl, inl z))))) (λ z. b (inr (refl, inr (sym e, inr (refl, inl z)))))
same_number (face f) g (edge x i) h a b =
    let e : f ≡ x = neither f x (λ z. a (inr (refl, inl z))) (λ z. b (inr (refl, inl z))) in
    absurd (a (inr (refl, inr (e, inl (omega arith)))))
same_number (face f) g whole h a b = absurd (a (inl (omega arith)))
same_number (edge f i) g lists h a b = absurd (b (inl (omega arith)))
same_number (edge f i) g (face x) h a b =
    let e : f ≡ x = neither f x (λ z. a (inr (refl, inl z))) (λ z. b (inr (refl, inl z))) in
    absurd (b (inr (refl, inr (sym e, inl (omega arith)))))
same_number (edge f i) g (edge x j) h a b =
    let e : f ≡ x = neither f x (λ z. a (inr (refl, inl z))) (λ z. b (inr (refl, inl z))) in
    let k : suc i ≡ suc j = neither _ _ (λ z. a (inr (refl, inr (e, inl z)))) (λ z. b (inr (refl, inr (sym e, inl z)))) in
    neither _ _ (λ z. a (inr (refl, inr (e, inr (k, inl z))))) (λ z. b (inr (refl, inr (sym e, inr (sym k, inl z)))))
same_number (edge f i) g whole h a b = absurd (a (inl (omega arith)))
same_number whole g lists h a b = absurd (b (inl (omega arith)))
same_number whole g (face f) h a b = absurd (b (inl (omega arith)))
same_number whole g (edge f i) h a b = absurd (b (inl (omega arith)))
same_number whole g whole h a b = neither _ _ (λ z. a (inr (refl, inl z))) (λ z. b (inr (refl, inl z)))

pub same-ground : (w : Where) (g : Ground) (w' : Where) (h : Ground) → ¬ Less (turn_of w g) (turn_of w' h) → ¬ Less (turn_of w' h) (turn_of w g) → g ≡ h
same-ground w g w' h a b = sym (ground-of-number g) ∙ ap ground_of (same_number w g w' h a b) ∙ ground-of-number h

-- Two grounds that are met first are one.
pub first-once : (c : Sizes) (l : Lists) (m : Mesh) (w : Where) (g : Ground) (w' : Where) (h : Ground) → FirstMet c l m w g → FirstMet c l m w' h → g ≡ h
first-once c l m w g w' h a b = same-ground w g w' h (λ z. b.none_before w g z a.met) (λ z. a.none_before w' h z b.met)
