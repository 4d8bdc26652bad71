-- The mender refuses by the first ground that is met, and answers 44 where none is. Assumes nothing.
--     FaceCame, face-came       the verdict on a face, and why
--     FacesCame, faces-came     that on all faces
--     faces-pass                the tests that each face has passed where none is refused
--     Came, came                the answer
--     none-answer, answer-none  no ground is met exactly if the lists are mended or the answer is 44
use mathlib.Core.Path.{◌≡◌, refl, sym, ◌∙◌, ap, subst}
use mathlib.Core.Bool.{Bool, true, false, not, cond, false≢true}
use mathlib.Core.Logic.{◌⊎◌, inl, inr}
use mathlib.Core.List.{List, [], ◌∷◌}
use Prim.Native.Nat.{ℕ, zero, suc, ◌+◌, ◌≤◌, ◌<◌}
use native.Mathlib.Omega.{arith}
use native.Mathlib.Decide.{ℕ_discrete}
use Rattle.std.specs.Prelude.{Result, Ok, Err, ⊤}
use Rattle.tables.specs.declared.Sizes.{Sizes}
use Rattle.tables.specs.Mesh.{Mesh, mesh_of}
use Rattle.audited_meshes.specs.Folds.{every}
use Rattle.audited_meshes.proofs.Tests.{self-is, every-is}
use Rattle.built_meshes.specs.Lists.{Lists, points_of, faces_of, size, offset, counts_fit, listed_fit}
use Rattle.built_meshes.specs.Faces.{face_verdict}
use Rattle.built_meshes.specs.Places.{IsPlace, Earlier}
use Rattle.built_meshes.specs.Grounds.{IsOverCounts, HasUnfitNumber, Where, lists, face, edge, whole, Met, over-counts, unfit-number, few-rows}
use Rattle.built_meshes.specs.Grounds.{face-size, out_of_range, point-twice, first-point, non-rectangular, triple-face}
use Rattle.built_meshes.specs.Grounds.{same_way, missing-face, no_edge, missed-edge, Less, rank, turn_of}
use Rattle.built_meshes.specs.declared.Ground.{Ground}
use Rattle.built_meshes.specs.declared.Ground.TheVariants.{EdgeTripleFace}
use Rattle.built_meshes.proofs.Begin.{counts-is, counts-fail, counted-fits, numbers-is, numbers-fail, numbered-fits}
use Rattle.built_meshes.proofs.Versions.{firsts-agree}
use Rattle.built_meshes.proofs.Before.{Tests, tests-of, tests-fewer, Triple, same-ground}
use Rattle.built_meshes.proofs.Faces as built
use Rattle.mended_lists.specs.declared.Unmended.{Unmended}
use Rattle.mended_lists.specs.declared.Unmended.TheVariants.{Refused, Twisted}
use Rattle.mended_lists.specs.Edges.{places_of, third}
use Rattle.mended_lists.specs.Parts.{faces_turned, twisted}
use Rattle.mended_lists.specs.Reversal.{Choice}
use Rattle.mended_lists.specs.Mending.{forgiven, edges_mend, then_edges, face_mends, then_face, faces_mend, whole_mends, edges_shared, mending_if, mending}
use Rattle.mended_lists.specs.Claims.{Works}
use Rattle.mended_lists.specs.Grounds.{is_shared, LoneEdge, Meets, as-built, lone-edge, MeetsFirst, MeetsNone, FirstGround, TwistedLast, ElseMended}
use Rattle.mended_lists.proofs.Checks.{third-triple, triple-third, lone-met, lone-not}
use Rattle.mended_lists.proofs.Passed.{unfit, mended-exactly}

-- no tables: no ground of the mender asks for them
abbrev pub no_tables : Mesh
no_tables = mesh_of [] [] [] [] []

-- ---- one face

-- the first number that fails a test
first-false : (n : ℕ) (test : ℕ → Bool) → every n test ≡ false → (k : ℕ) × (k < n) × (test k ≡ false) × ((j : ℕ) → j < k → test j ≡ true)
unfolding every
first-false zero test h = absurd (false≢true (sym h))
first-false (suc n) test h = go (every n test) refl (λ e. first-false n test e)
  where
    go :
        (b : Bool) → every n test ≡ b →
        (every n test ≡ false → (k : ℕ) × (k < n) × (test k ≡ false) × ((j : ℕ) → j < k → test j ≡ true)) →
        (k : ℕ) × (k < suc n) × (test k ≡ false) × ((j : ℕ) → j < k → test j ≡ true)
    go true e before = (n, omega arith, rw e at h, (every-is n (λ k. self-is (test k))).0 e)
    go false e before = let w = before e in (w.0, omega (arith, w.1), w.2, w.3)

not-true : (t : Bool) → not t ≡ true → t ≡ false
not-true true e = sym e
not-true false e = refl

not-false : (t : Bool) → not t ≡ false → t ≡ true
not-false true e = refl
not-false false e = sym e

module _ (c : Sizes) (l : Lists) where
  -- face f passes 10, 11, 12 and 43, and its first n edges pass 14
  pub record Passes (f n : ℕ) : Type 0 where
    pub tests : Tests l f 13
    pub edges : (i : ℕ) → i < n → i < size l f → ¬ Triple l f i

  data FaceCame (f : ℕ) : Result ⊤ Ground → Type 0 where
    passes : Passes f (size l f) → FaceCame f (Ok tt)
    by-test : {g : Ground} → is_shared g ≡ true → Met c l no_tables (face f) g → Tests l f (rank g) → rank g ≤ 13 → FaceCame f (Err g)
    by-edge : (i : ℕ) → i < size l f → Triple l f i → Passes f i → FaceCame f (Err EdgeTripleFace)

  edges-came : (f : ℕ) → f < faces_of l → Tests l f 13 → FaceCame f (then_edges (Ok tt) (edges_mend (places_of l) (offset l f) (size l f)))
  unfolding edges_mend
  edges-came f b t = go (every (size l f) (λ i. not (third (places_of l) (offset l f + i)))) refl
    where
      none : (i : ℕ) → not (third (places_of l) (offset l f + i)) ≡ true → ¬ Triple l f i
      none i e m = false≢true (sym (not-true (third (places_of l) (offset l f + i)) e) ∙ triple-third l f i m)

      go : (e : Bool) → every (size l f) (λ i. not (third (places_of l) (offset l f + i))) ≡ e → FaceCame f (then_edges (Ok tt) e)
      go true e =
          passes
          (record {
            tests = t;
            edges = λ i x y. none i ((every-is (size l f) (λ i. self-is (not (third (places_of l) (offset l f + i))))).0 e i y);
          })
      go false e =
          let w = first-false (size l f) (λ i. not (third (places_of l) (offset l f + i))) e in
          by-edge w.0 w.1 (third-triple l f w.0 (b, w.1) (not-false (third (places_of l) (offset l f + w.0)) w.2))
          (record { tests = t; edges = λ i x y. none i (w.3 i x) })

  -- what is left of building's verdict
  test-came :
      (f : ℕ) → f < faces_of l → {g : Ground} → Met c l no_tables (face f) g → Tests l f (rank g) →
      FaceCame f (then_edges (forgiven (Err g)) (edges_mend (places_of l) (offset l f) (size l f)))
  test-came f b (face-size x is h) t = by-test refl (face-size x is h) t (omega arith)
  test-came f b (out_of_range x i is h) t = by-test refl (out_of_range x i is h) t (omega arith)
  test-came f b (point-twice x i j is less same) t = by-test refl (point-twice x i j is less same) t (omega arith)
  test-came f b (first-point x k j two is kb last differs) t = by-test refl (first-point x k j two is kb last differs) t (omega arith)
  test-came f b (non-rectangular x is h) t = edges-came f b t

  face-came : (f : ℕ) → f < faces_of l → FaceCame f (face_mends l (places_of l) f)
  unfolding face_mends
  face-came f b = go (face_verdict l (points_of l) f (offset l f)) (built.verdict-is c l no_tables f b)
    where
      go :
          (v : Result ⊤ Ground) → built.FaceVerdict c l no_tables f v →
          FaceCame f (then_edges (forgiven v) (edges_mend (places_of l) (offset l f) (size l f)))
      go v (built.fit sound agrees) = edges-came f b (tests-of l f 13 sound agrees)
      go v (built.unfit met tests n) = test-came f b met tests

  -- ---- all faces

  data FacesCame (k : ℕ) : Result ⊤ Ground → Type 0 where
    all : ((f : ℕ) → f < k → Passes f (size l f)) → FacesCame k (Ok tt)
    stopped : {g : Ground} (f : ℕ) → f < k → ((e : ℕ) → e < f → Passes e (size l e)) → FaceCame f (Err g) → FacesCame k (Err g)

  faces-came : (k : ℕ) → k ≤ faces_of l → FacesCame k (faces_mend l (places_of l) k)
  unfolding faces_mend
  faces-came zero b = all (λ f h. absurd (never f h))
    where
      never : (f : ℕ) → f < 0 → ⊥
      never f h = omega arith
  faces-came (suc k) b = go (faces_mend l (places_of l) k) (faces-came k (omega arith))
    where
      this : (v : Result ⊤ Ground) → ((f : ℕ) → f < k → Passes f (size l f)) → FaceCame k v → FacesCame (suc k) v
      this v before (passes p) = all (λ f h. at f h (ℕ_discrete f k))
        where
          at : (f : ℕ) → f < suc k → Dec (f ≡ k) → Passes f (size l f)
          at f h (yes e) = subst (λ f. Passes f (size l f)) (sym e) p
          at f h (no e) = before f (omega arith)
      this v before (by-test s m t r) = stopped k (omega arith) before (by-test s m t r)
      this v before (by-edge i h m p) = stopped k (omega arith) before (by-edge i h m p)

      go : (v : Result ⊤ Ground) → FacesCame k v → FacesCame (suc k) (then_face v (face_mends l (places_of l) k))
      go v (all before) = this (face_mends l (places_of l) k) before (face-came k (omega arith))
      go v (stopped f h before came) = stopped f (omega arith) before came

  pub faces-pass : faces_mend l (places_of l) (faces_of l) ≡ Ok tt → (f : ℕ) → f < faces_of l → Passes f (size l f)
  faces-pass e f b = go (faces_mend l (places_of l) (faces_of l)) (faces-came (faces_of l) (omega arith)) e
    where
      go : (v : Result ⊤ Ground) → FacesCame (faces_of l) v → v ≡ Ok tt → Passes f (size l f)
      go v (all pass) e = pass f b
      go v (stopped {g = g} f' h before at) e = absurd (unfit g e)

  -- ---- nothing is met before a turn

  record Clear (K : List ℕ) : Type 0 where
    counts : Less (0 ∷ 2 ∷ []) K → ¬ IsOverCounts c l
    numbers : Less (0 ∷ 3 ∷ []) K → ¬ HasUnfitNumber l
    of-face : (f k : ℕ) → f < faces_of l → k ≤ 12 → Less (1 ∷ f ∷ 0 ∷ k ∷ []) K → Tests l f (suc k)
    triples : (f i : ℕ) → IsPlace l f i → Less (1 ∷ f ∷ suc i ∷ 14 ∷ []) K → ¬ Triple l f i
    lone : Less (2 ∷ 20 ∷ []) K → ¬ LoneEdge l

  built-before : (K : List ℕ) → Clear K → (m : Mesh) (w : Where) (g : Ground) → is_shared g ≡ true → Less (turn_of w g) K → ¬ Met c l m w g
  built-before K v m w g s b (over-counts h) = v.counts b h
  built-before K v m w g s b (unfit-number h) = v.numbers b h
  built-before K v m w g s b (few-rows h) = absurd (false≢true s)
  built-before K v m w g s b (face-size f is h) = go h
    where
      fits : (3 ≤ size l f) × (size l f ≤ 64)
      fits = (v.of-face f 9 is (omega arith) b).sizes (omega arith)

      go : (size l f < 3) ⊎ (64 < size l f) → ⊥
      go (inl z) = omega (arith, fits.0)
      go (inr z) = omega (arith, fits.1)
  built-before K v m w g s b (out_of_range f i is h) =
      let z = (v.of-face f 10 is.0 (omega arith) b).ranges (omega arith) i is.1 in omega arith
  built-before K v m w g s b (point-twice f i j is less same) =
      let z : i ≡ j = (v.of-face f 11 is.0 (omega arith) b).once (omega arith) i j is.1 (let h = is.1 in omega arith) same in
      omega arith
  built-before K v m w g s b (first-point f k j two is kb last differs) =
      differs (firsts-agree l f (offset l f) k j two ((v.of-face f 12 is (omega arith) b).firsts (omega arith)) kb last)
  built-before K v m w g s b (non-rectangular f is h) = absurd (false≢true s)
  built-before K v m w g s b (triple-face f i g' j h k p q r a b' e e' d) =
      v.triples f i r.is-place b (g', j, h, k, p, q, r, a, b', e, e', d)
  built-before K v m w g s b (same_way f i g' j p q r t e) = absurd (false≢true s)
  built-before K v m w g s b (missing-face h) = absurd (false≢true s)
  built-before K v m w g s b (no_edge h) = absurd (false≢true s)
  built-before K v m w g s b (missed-edge h) = absurd (false≢true s)

  none_before : (K : List ℕ) → Clear K → (w : Where) (g : Ground) → Less (turn_of w g) K → ¬ Meets c l w g
  none_before K v w g b (as-built m s met) = built-before K v m w g s b met
  none_before K v w g b (lone-edge h) = v.lone b h

  -- ---- before a ground of the lists

  module _ (n : ℕ) (small : n ≤ 3) (counts : 2 < n → ¬ IsOverCounts c l) where
    sooner : (k : ℕ) → Less (0 ∷ k ∷ []) (0 ∷ n ∷ []) → k < n
    sooner k (inl h) = absurd (omega arith)
    sooner k (inr (e, inl h)) = h
    sooner k (inr (e, inr (y, h))) = absurd h

    not-sooner : (k : ℕ) (ks : List ℕ) {A : Type 0} → Less (suc k ∷ ks) (0 ∷ n ∷ []) → A
    not-sooner k ks (inl h) = absurd (omega arith)
    not-sooner k ks (inr (h, z)) = absurd (omega arith)

    clear-lists : Clear (0 ∷ n ∷ [])
    clear-lists =
        record {
          counts = λ h. counts (sooner 2 h);
          numbers = λ h. absurd (omega (arith, sooner 3 h));
          of-face = λ f k b s h. not-sooner 0 (f ∷ 0 ∷ k ∷ []) h;
          triples = λ f i is h. not-sooner 0 (f ∷ suc i ∷ 14 ∷ []) h;
          lone = λ h. not-sooner 1 (20 ∷ []) h;
        }

  module _ (no-counts : ¬ IsOverCounts c l) (no-numbers : ¬ HasUnfitNumber l) where
    -- ---- before a ground of a face

    module _ (F n : ℕ) (below : (f : ℕ) → f < F → Passes f (size l f)) (tests : Tests l F n) where
      face-before : (f k : ℕ) → Less (1 ∷ f ∷ 0 ∷ k ∷ []) (1 ∷ F ∷ 0 ∷ n ∷ []) → (f < F) ⊎ ((f ≡ F) × (k < n))
      face-before f k (inl h) = absurd (omega arith)
      face-before f k (inr (e, inl h)) = inl h
      face-before f k (inr (e, inr (s, inl h))) = absurd (omega arith)
      face-before f k (inr (e, inr (s, inr (z, inl h)))) = inr (s, h)
      face-before f k (inr (e, inr (s, inr (z, inr (y, h))))) = absurd h

      edge-before : (f i k : ℕ) → Less (1 ∷ f ∷ suc i ∷ k ∷ []) (1 ∷ F ∷ 0 ∷ n ∷ []) → f < F
      edge-before f i k (inl h) = absurd (omega arith)
      edge-before f i k (inr (e, inl h)) = h
      edge-before f i k (inr (e, inr (s, inl h))) = absurd (omega arith)
      edge-before f i k (inr (e, inr (s, inr (z, h)))) = absurd (omega arith)

      whole-later : {k : ℕ} {A : Type 0} → Less (2 ∷ k ∷ []) (1 ∷ F ∷ 0 ∷ n ∷ []) → A
      whole-later (inl h) = absurd (omega arith)
      whole-later (inr (h, z)) = absurd (omega arith)

      clear-face : Clear (1 ∷ F ∷ 0 ∷ n ∷ [])
      clear-face =
          record {
            counts = λ h. no-counts;
            numbers = λ h. no-numbers;
            of-face = λ f k b s h. tested f k s (face-before f k h);
            triples = λ f i is h. (below f (edge-before f i 14 h)).edges i is.1 is.1;
            lone = λ h. whole-later {k = 20} h;
          }
        where
          tested : (f k : ℕ) → k ≤ 12 → (f < F) ⊎ ((f ≡ F) × (k < n)) → Tests l f (suc k)
          tested f k s (inl h) = tests-fewer l f (suc k) 13 (omega arith) (below f h).tests
          tested f k s (inr h) = subst (λ f. Tests l f (suc k)) (sym h.0) (tests-fewer l F (suc k) n h.1 tests)

    -- ---- before a ground of an edge

    module _ (F I : ℕ) (below : (f : ℕ) → f < F → Passes f (size l f)) (this : Passes F I) where
      face-sooner : (f k : ℕ) → Less (1 ∷ f ∷ 0 ∷ k ∷ []) (1 ∷ F ∷ suc I ∷ 14 ∷ []) → f ≤ F
      face-sooner f k (inl h) = absurd (omega arith)
      face-sooner f k (inr (e, inl h)) = omega arith
      face-sooner f k (inr (e, inr (s, h))) = omega arith

      edge-sooner : (f i : ℕ) → Less (1 ∷ f ∷ suc i ∷ 14 ∷ []) (1 ∷ F ∷ suc I ∷ 14 ∷ []) → Earlier f i F I
      edge-sooner f i (inl h) = absurd (omega arith)
      edge-sooner f i (inr (e, inl h)) = inl h
      edge-sooner f i (inr (e, inr (s, inl h))) = inr (s, omega arith)
      edge-sooner f i (inr (e, inr (s, inr (z, inl h)))) = absurd (omega arith)
      edge-sooner f i (inr (e, inr (s, inr (z, inr (y, h))))) = absurd h

      whole-after : {k : ℕ} {A : Type 0} → Less (2 ∷ k ∷ []) (1 ∷ F ∷ suc I ∷ 14 ∷ []) → A
      whole-after (inl h) = absurd (omega arith)
      whole-after (inr (h, z)) = absurd (omega arith)

      clear-edge : Clear (1 ∷ F ∷ suc I ∷ 14 ∷ [])
      clear-edge =
          record {
            counts = λ h. no-counts;
            numbers = λ h. no-numbers;
            of-face = λ f k b s h. tested f k s (face-sooner f k h) (ℕ_discrete f F);
            triples = λ f i is h. entered f i is (edge-sooner f i h);
            lone = λ h. whole-after {k = 20} h;
          }
        where
          tested : (f k : ℕ) → k ≤ 12 → f ≤ F → Dec (f ≡ F) → Tests l f (suc k)
          tested f k s h (yes e) = subst (λ f. Tests l f (suc k)) (sym e) (tests-fewer l F (suc k) 13 (omega arith) this.tests)
          tested f k s h (no e) = tests-fewer l f (suc k) 13 (omega arith) (below f (omega arith)).tests

          entered : (f i : ℕ) → IsPlace l f i → Earlier f i F I → ¬ Triple l f i
          entered f i is (inl h) = (below f h).edges i is.1 is.1
          entered f i is (inr (e, h)) =
              subst (λ f. i < size l f → ¬ Triple l f i) (sym e) (λ b. this.edges i h b) is.1

    -- ---- before a ground of the whole, and where none is met

    module _ (faces : (f : ℕ) → f < faces_of l → Passes f (size l f)) where
      clear_whole : (K : List ℕ) → (Less (2 ∷ 20 ∷ []) K → ¬ LoneEdge l) → Clear K
      clear_whole K no-lone =
          record {
            counts = λ h. no-counts;
            numbers = λ h. no-numbers;
            of-face = λ f k b s h. tests-fewer l f (suc k) 13 (omega arith) (faces f b).tests;
            triples = λ f i is h. (faces f is.0).edges i is.1 is.1;
            lone = no-lone;
          }

      itself-not : Less (2 ∷ 20 ∷ []) (2 ∷ 20 ∷ []) → ⊥
      itself-not (inl h) = omega arith
      itself-not (inr (e, inl h)) = omega arith
      itself-not (inr (e, inr (y, h))) = h

      pub none-met : ¬ LoneEdge l → MeetsNone c l
      none-met no-lone w g = none_before (3 ∷ []) (clear_whole (3 ∷ []) (λ h. no-lone)) w g (below w)
        where
          below : (w : Where) → Less (turn_of w g) (3 ∷ [])
          below lists = inl (omega arith)
          below (face f) = inl (omega arith)
          below (edge f i) = inl (omega arith)
          below whole = inl (omega arith)

  -- ---- the answer

  data Came : Result ⊤ Unmended → Type 0 where
    refuses : {g : Ground} (w : Where) → MeetsFirst c l w g → Came (Err (Refused g))
    passes-all : MeetsNone c l → Came (cond (twisted l) (Err Twisted) (Ok tt))

  face-first :
      ¬ IsOverCounts c l → ¬ HasUnfitNumber l → (F : ℕ) → F < faces_of l → ((f : ℕ) → f < F → Passes f (size l f)) → (v : Result ⊤ Ground) →
      FaceCame F v → (g : Ground) → v ≡ Err g → (w : Where) × MeetsFirst c l w g
  face-first nc nn F b below v (passes p) g e = absurd (unfit g (sym e))
  face-first nc nn F b below v (by-test {g = h} s m t r) g e =
      let q : h ≡ g = cc in
      subst (λ g. (w : Where) × MeetsFirst c l w g) q
      (face F, record { met = as-built no_tables s m; none_before = λ w k. none_before (1 ∷ F ∷ 0 ∷ rank h ∷ []) (clear-face nc nn F (rank h) below t) w k })
  face-first nc nn F b below v (by-edge i h (g', j, h', k, p, q, r, x, y, u, z, d) this) g e =
      let s : EdgeTripleFace ≡ g = cc in
      subst (λ g. (w : Where) × MeetsFirst c l w g) s (
        edge F i,
        record {
          met = as-built no_tables refl (triple-face F i g' j h' k p q r x y u z d);
          none_before = λ w k. none_before (1 ∷ F ∷ suc i ∷ 14 ∷ []) (clear-edge nc nn F i below this) w k;
        },
      )

  came : Came (mending c l)
  unfolding mending mending_if
  came = counts (counts_fit c l) refl
    where
      faces :
          ¬ IsOverCounts c l → ¬ HasUnfitNumber l → (v : Result ⊤ Ground) → FacesCame (faces_of l) v → (s : Bool) → edges_shared (places_of l) ≡ s →
          Came (whole_mends v s (twisted l))
      faces nc nn v (stopped {g = g} f b below at) s e =
          let z = face-first nc nn f b below (Err g) at g refl in refuses z.0 z.1
      faces nc nn v (all pass) false e =
          refuses whole
          (record {
            met = lone-edge (lone-met l e);
            none_before = λ w k. none_before (2 ∷ 20 ∷ []) (clear_whole nc nn pass (2 ∷ 20 ∷ []) (λ h. absurd (itself-not nc nn pass h))) w k;
          })
      faces nc nn v (all pass) true e = answer (twisted l) refl
        where
          answer : (t : Bool) → twisted l ≡ t → Came (whole_mends (Ok tt) true t)
          answer true t = subst Came (ap (λ (x : Bool). cond x (Err Twisted) (Ok tt)) t) (passes-all (none-met nc nn pass (lone-not l e)))
          answer false t = subst Came (ap (λ (x : Bool). cond x (Err Twisted) (Ok tt)) t) (passes-all (none-met nc nn pass (lone-not l e)))

      numbers : ¬ IsOverCounts c l → (b : Bool) → listed_fit l ≡ b → Came (mending_if true b l)
      numbers nc true e =
          faces nc (numbered-fits l (numbers-is l e)) (faces_mend l (places_of l) (faces_of l)) (faces-came (faces_of l) (omega arith))
          (edges_shared (places_of l)) refl
      numbers nc false e =
          refuses lists
          (record {
            met = as-built no_tables refl (unfit-number (numbers-fail l e));
            none_before = λ w k. none_before (0 ∷ 3 ∷ []) (clear-lists 3 (omega arith) (λ h. nc)) w k;
          })

      counts : (b : Bool) → counts_fit c l ≡ b → Came (mending_if b (listed_fit l) l)
      counts true e = numbers (counted-fits c l (counts-is c l e)) (listed_fit l) refl
      counts false e =
          refuses lists
          (record {
            met = as-built no_tables refl (over-counts (counts-fail c l e));
            none_before = λ w k. none_before (0 ∷ 2 ∷ []) (clear-lists 2 (omega arith) (λ h. absurd (omega arith))) w k;
          })

-- ---- the claims

clash : {A : Type 0} (g : Ground) (t : Bool) → ◌≡◌ {A = Result ⊤ Unmended} (Err (Refused g)) (cond t (Err Twisted) (Ok tt)) → A
clash g true e = let z : ◌≡◌ {A = ℕ} 0 1 = cc in absurd (omega arith)
clash g false e = let z : ◌≡◌ {A = ℕ} 0 1 = cc in absurd (omega arith)

pub first-ground : FirstGround
first-ground c l g = (to (mending c l) (came c l), λ w. from (mending c l) (came c l) w.0 w.1)
  where
    to : (r : Result ⊤ Unmended) → Came c l r → r ≡ Err (Refused g) → (w : Where) × MeetsFirst c l w g
    to r (refuses {g = h} w m) e = let same : h ≡ g = cc in (w, subst (λ g. MeetsFirst c l w g) same m)
    to r (passes-all none) e = clash g (twisted l) (sym e)

    from : (r : Result ⊤ Unmended) → Came c l r → (w : Where) → MeetsFirst c l w g → r ≡ Err (Refused g)
    from r (refuses {g = h} w' m) w f =
        ap (λ (x : Ground). Err (Refused x)) (same-ground w' h w g (λ z. f.none_before w' h z m.met) (λ z. m.none_before w g z f.met))
    from r (passes-all none) w f = absurd (none w g f.met)

-- where no ground is met, the answer is 44 or the lists are mended
pub none-answer : (c : Sizes) (l : Lists) → MeetsNone c l → (mending c l ≡ Ok tt) ⊎ (mending c l ≡ Err Twisted)
none-answer c l none = go (mending c l) (came c l)
  where
    go : (r : Result ⊤ Unmended) → Came c l r → (r ≡ Ok tt) ⊎ (r ≡ Err Twisted)
    go r (refuses {g = g} w m) = absurd (none w g m.met)
    go r (passes-all n) = this (twisted l)
      where
        this : (t : Bool) → ◌≡◌ {A = Result ⊤ Unmended} (cond t (Err Twisted) (Ok tt)) (Ok tt) ⊎ ◌≡◌ {A = Result ⊤ Unmended} (cond t (Err Twisted) (Ok tt)) (Err Twisted)
        this true = inr refl
        this false = inl refl

pub answer-none : (c : Sizes) (l : Lists) → (mending c l ≡ Ok tt) ⊎ (mending c l ≡ Err Twisted) → MeetsNone c l
answer-none c l e = go (mending c l) (came c l) e
  where
    go : (r : Result ⊤ Unmended) → Came c l r → (r ≡ Ok tt) ⊎ (r ≡ Err Twisted) → MeetsNone c l
    go r (refuses {g = g} w m) (inl e) = clash g false e
    go r (refuses {g = g} w m) (inr e) = clash g true e
    go r (passes-all none) e = none

pub twisted-last : TwistedLast
twisted-last c l =
    (λ e. (answer-none c l (inr e), (mended-exactly c l (inr e)).0.0 e), λ h. (mended-exactly c l (none-answer c l h.0)).0.1 h.1)

pub else-mended : ElseMended
else-mended c l = (
  λ e. (answer-none c l (inl e), (faces_turned l, (mended-exactly c l (inl e)).1.0 e)),
  λ h. go (none-answer c l h.0) h.1.0 h.1.1,
)
  where
    go : (mending c l ≡ Ok tt) ⊎ (mending c l ≡ Err Twisted) → (t : Choice) → Works l t → mending c l ≡ Ok tt
    go (inl e) t works = e
    go (inr e) t works = absurd ((mended-exactly c l (inr e)).0.0 e t works)
