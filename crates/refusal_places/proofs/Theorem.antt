-- The claims of the place. Assumes nothing.
--     Came, faces-came       what the first k faces come to: nothing is met in them, or the ground at the place is met first
--     first-came             what all faces come to
--     spot-is-first, spot-refuses, spot-in-faces    the claims of `specs/Claims.antt`
use mathlib.Core.Path.{◌≡◌, refl, sym, ◌∙◌, ap, subst}
use mathlib.Core.Bool.{Bool, true, false}
use mathlib.Core.Logic.{◌⊎◌, inl, inr, ◌≢◌}
use Prim.Native.Nat.{ℕ, zero, suc, ◌+◌, ◌≤◌, ◌<◌}
use native.Mathlib.Omega.{arith}
use native.Mathlib.Decide.{ℕ_discrete}
use Rattle.std.specs.Prelude.{Result, Ok, Err, ⊤}
use Rattle.tables.specs.declared.Sizes.{Sizes}
use Rattle.tables.specs.Mesh.{Mesh, none}
use Rattle.audited_meshes.proofs.Folds.{below_suc}
use Rattle.built_meshes.specs.Lists.{Lists, points_of, faces_of, size, offset, counts_fit, listed_fit}
use Rattle.built_meshes.specs.Faces.{face_verdict}
use Rattle.built_meshes.specs.Answers.{ground_number}
use Rattle.built_meshes.specs.Building.{build}
use Rattle.built_meshes.specs.Places.{IsPlace, Earlier}
use Rattle.built_meshes.specs.Grounds.{IsOverCounts, HasUnfitNumber, HasFewRows, Where, lists, face, edge, whole, Met, over-counts, unfit-number, few-rows}
use Rattle.built_meshes.specs.Grounds.{face-size, out_of_range, point-twice, first-point, non-rectangular, triple-face}
use Rattle.built_meshes.specs.Grounds.{same_way, missing-face, no_edge, missed-edge, FirstMet, rank}
use Rattle.built_meshes.specs.declared.Ground.{Ground}
use Rattle.built_meshes.specs.declared.Ground.TheVariants.{OverCounts, UnfitNumber, FewRows, EdgeTripleFace, SameWay}
use Rattle.built_meshes.proofs.Versions.{firsts-agree, sums-agree}
use Rattle.built_meshes.proofs.Before.{Tests, tests-of, Triple, Same, ClearLists, first-face, first_edge, first-once}
use Rattle.built_meshes.proofs.Faces.{FaceVerdict, fit, unfit, verdict-is}
use Rattle.built_meshes.proofs.Begin.{counts-is, counts-fail, counted-fits, numbers-is, numbers-fail, numbered-fits}
use Rattle.built_meshes.proofs.Theorem.{first-ground}
use Rattle.mended_lists.specs.Edges.{places_of, third}
use Rattle.refusal_places.specs.declared.Spot.{Spot}
use Rattle.refusal_places.specs.declared.Spot.TheVariants.{Face, Edge}
use Rattle.refusal_places.specs.Spots.{then_spot, runs_with_mate, spot_at, edge_spot, edges_spot, verdict_spot, face_spot, faces_spot, first_spot}
use Rattle.refusal_places.specs.Spots.{spot_if, spotted, where_of}
use Rattle.refusal_places.specs.Claims.{SpotIsFirst, SpotRefuses, SpotInFaces}
use Rattle.refusal_places.proofs.Edges.{triple-of, no-triple, same_of, no_same}

-- something is met there
pub data Stops : Result ⊤ Spot → Type 0 where
  stops : (x : Spot) → Stops (Err x)

pub not-clear : (s : Result ⊤ Spot) → Stops s → s ≡ Ok tt → ⊥
not-clear s (stops x) h = let z : ◌≡◌ {A = ℕ} 0 1 = cc in omega arith

module _ (c : Sizes) (l : Lists) (m : Mesh) (clear : ClearLists c l m) where
  -- nothing is met in the faces below k
  pub record SoFar (k : ℕ) : Type 0 where
    pub tested : (f : ℕ) → f < k → (n : ℕ) → Tests l f n
    pub entered : (f i : ℕ) → IsPlace l f i → f < k → (¬ Triple l f i) × (¬ Same l f i)

  pub data Came (Passed : Type 0) : Result ⊤ Spot → Type 0 where
    passed : Passed → Came Passed (Ok tt)
    at-face : {f : ℕ} {g : Ground} → FirstMet c l m (face f) g → Came Passed (Err (Face f g))
    at_edge : {f i : ℕ} {g : Ground} → FirstMet c l m (edge f i) g → Came Passed (Err (Edge f i g))

  then-came : {A B : Type 0} (s t : Result ⊤ Spot) → Came A s → (A → Came B t) → Came B (then_spot s t)
  then-came s t (passed a) go = go a
  then-came s t (at-face h) go = at-face h
  then-came s t (at_edge h) go = at_edge h

  -- ---- one face

  module _ (F : ℕ) (b : F < faces_of l) (far : SoFar F) (own : (n : ℕ) → Tests l F n) where
    tests-to : (f : ℕ) → f ≤ F → (n : ℕ) → Tests l f n
    tests-to f h = go (ℕ_discrete f F)
      where
        go : Dec (f ≡ F) → (n : ℕ) → Tests l f n
        go (yes e) n = subst (λ f. Tests l f n) (sym e) (own n)
        go (no e) n = far.tested f (omega arith) n

    -- nothing is met at the places below k of the face
    Edges-far : ℕ → Type 0
    Edges-far k = (i : ℕ) → i < k → (¬ Triple l F i) × (¬ Same l F i)

    entered-to : (I : ℕ) → Edges-far I → (f i : ℕ) → IsPlace l f i → Earlier f i F I → (¬ Triple l f i) × (¬ Same l f i)
    unfolding Edges-far
    entered-to I e f i is (inl h) = far.entered f i is h
    entered-to I e f i is (inr (q, h)) = subst (λ f. (¬ Triple l f i) × (¬ Same l f i)) (sym q) (e i h)

    edge-came : (i : ℕ) → i < size l F → Edges-far i → Came (Edges-far (suc i)) (edge_spot (places_of l) F (offset l F) i)
    unfolding edge_spot Edges-far
    edge-came i s e = go (third (places_of l) (offset l F + i)) refl (runs_with_mate (places_of l) (offset l F + i)) refl
      where
        is : IsPlace l F i
        is = (b, s)

        met-triple : Triple l F i → Met c l m (edge F i) EdgeTripleFace
        met-triple (g, j, h, k, p, q, r, x, y, ex, ey, d) = triple-face F i g j h k p q r x y ex ey d

        met-same : Same l F i → Met c l m (edge F i) SameWay
        met-same (g, j, p, q, r, t, h) = same_way F i g j p q r t h

        more : (¬ Triple l F i) × (¬ Same l F i) → Edges-far (suc i)
        more z j h = below_suc j i h (e j) (λ q. subst (λ j. (¬ Triple l F j) × (¬ Same l F j)) (sym q) z)

        go :
            (t : Bool) → third (places_of l) (offset l F + i) ≡ t → (u : Bool) → runs_with_mate (places_of l) (offset l F + i) ≡ u →
            Came (Edges-far (suc i)) (spot_at F i t u)
        go true x u y =
            at_edge
            (first_edge c l m clear F i 14 tests-to (entered-to i e) (λ h. absurd (omega arith)) (omega arith) EdgeTripleFace refl
            (met-triple (triple-of l F i is x)))
        go false x true y =
            at_edge
            (first_edge c l m clear F i 15 tests-to (entered-to i e) (λ h. no-triple l F i is x) (omega arith) SameWay refl
            (met-same (same_of l F i is y)))
        go false x false y = passed (more (no-triple l F i is x, no_same l F i is x y))

    edges-came : (k : ℕ) → k ≤ size l F → Came (Edges-far k) (edges_spot (places_of l) F (offset l F) k)
    unfolding edges_spot Edges-far
    edges-came zero h = passed (λ i z. absurd (omega arith))
    edges-came (suc k) h =
        then-came (edges_spot (places_of l) F (offset l F) k) (edge_spot (places_of l) F (offset l F) k) (edges-came k (omega arith))
        (λ e. edge-came k h e)

    face-passed : Edges-far (size l F) → SoFar (suc F)
    unfolding Edges-far
    face-passed e =
        record {
          tested = λ f h. tests-to f (omega arith);
          entered =
              λ f i is h.
              below_suc f F h (λ z. far.entered f i is z)
              (λ q. subst (λ f. (¬ Triple l f i) × (¬ Same l f i)) (sym q) (e i (subst (λ f. i < size l f) q is.1)));
        }

  face-came : (F : ℕ) → F < faces_of l → SoFar F → Came (SoFar (suc F)) (face_spot l (places_of l) F)
  unfolding face_spot
  face-came F b far = go (face_verdict l (points_of l) F (offset l F)) (verdict-is c l m F b)
    where
      go :
          (v : Result ⊤ Ground) → FaceVerdict c l m F v →
          Came (SoFar (suc F)) (then_spot (verdict_spot F v) (edges_spot (places_of l) F (offset l F) (size l F)))
      go v (fit sound agrees) =
          let own : (n : ℕ) → Tests l F n = λ n. tests-of l F n sound agrees in
          turn own (edges_spot (places_of l) F (offset l F) (size l F)) (edges-came F b far own (size l F) (omega arith))
        where
          turn : (own : (n : ℕ) → Tests l F n) (s : Result ⊤ Spot) → Came (Edges-far F b far own (size l F)) s → Came (SoFar (suc F)) s
          turn own s (passed e) = passed (face-passed F b far own e)
          turn own s (at-face h) = at-face h
          turn own s (at_edge h) = at_edge h
      go v (unfit {g = g} met tests n) =
          at-face
          (first-face c l m clear F (rank g) (λ f h. far.tested f h) tests (λ f i is h. far.entered f i is h) g refl met)

  -- ---- all faces

  pub faces-came : (k : ℕ) → k ≤ faces_of l → Came (SoFar k) (faces_spot l (places_of l) k)
  unfolding faces_spot
  faces-came zero h = passed (record { tested = λ f z. absurd (omega arith); entered = λ f i is z. absurd (omega arith) })
  faces-came (suc k) h =
      then-came (faces_spot l (places_of l) k) (face_spot l (places_of l) k) (faces-came k (omega arith)) (λ far. face-came k h far)

  pub first-came : Came (SoFar (faces_of l)) (first_spot l)
  unfolding first_spot
  first-came = faces-came (faces_of l) (omega arith)

  -- where nothing is met in the faces, what is met is of the lists or of the whole
  passed-met : SoFar (faces_of l) → (w : Where) (g : Ground) → Met c l m w g → (w ≡ lists) ⊎ (w ≡ whole)
  passed-met far w g (over-counts h) = inl refl
  passed-met far w g (unfit-number h) = inl refl
  passed-met far w g (few-rows h) = inl refl
  passed-met far w g (face-size f is h) = absurd (go h)
    where
      fits : (3 ≤ size l f) × (size l f ≤ 64)
      fits = (far.tested f is 14).sizes (omega arith)

      go : (size l f < 3) ⊎ (64 < size l f) → ⊥
      go (inl z) = omega (arith, fits.0)
      go (inr z) = omega (arith, fits.1)
  passed-met far w g (out_of_range f i is h) = absurd (let z = (far.tested f is.0 14).ranges (omega arith) i is.1 in omega arith)
  passed-met far w g (point-twice f i j is less same) =
      absurd
      (let z : i ≡ j = (far.tested f is.0 14).once (omega arith) i j is.1 (let h = is.1 in omega arith) same in omega arith)
  passed-met far w g (first-point f k j two is kb last differs) =
      absurd (differs (firsts-agree l f (offset l f) k j two ((far.tested f is 14).firsts (omega arith)) kb last))
  passed-met far w g (non-rectangular f is h) = absurd (sums-agree l f (offset l f) ((far.tested f is 14).sums (omega arith)) h)
  passed-met far w g (triple-face f i g' j h k p q r a b e e' d) =
      absurd ((far.entered f i r.is-place r.is-place.0).0 (g', j, h, k, p, q, r, a, b, e, e', d))
  passed-met far w g (same_way f i g' j p q r t e) = absurd ((far.entered f i r.is-place r.is-place.0).1 (g', j, p, q, r, t, e))
  passed-met far w g (missing-face h) = inr refl
  passed-met far w g (no_edge h) = inr refl
  passed-met far w g (missed-edge h) = inr refl

-- ---- what is met first is not of the lists

module _ (c : Sizes) (l : Lists) (m : Mesh) where
  list-number : (w : Where) (g : Ground) → Met c l m w g → w ≡ lists → ground_number g < 10
  list-number w g (over-counts h) e = omega arith
  list-number w g (unfit-number h) e = omega arith
  list-number w g (few-rows h) e = omega arith
  list-number w g (face-size f is h) e = absurd (let z : ◌≡◌ {A = ℕ} 0 1 = cc in omega arith)
  list-number w g (out_of_range f i is h) e = absurd (let z : ◌≡◌ {A = ℕ} 0 1 = cc in omega arith)
  list-number w g (point-twice f i j is less same) e = absurd (let z : ◌≡◌ {A = ℕ} 0 1 = cc in omega arith)
  list-number w g (first-point f k j two is kb last differs) e = absurd (let z : ◌≡◌ {A = ℕ} 0 1 = cc in omega arith)
  list-number w g (non-rectangular f is h) e = absurd (let z : ◌≡◌ {A = ℕ} 0 1 = cc in omega arith)
  list-number w g (triple-face f i g' j h k p q r a b x y d) e = absurd (let z : ◌≡◌ {A = ℕ} 0 1 = cc in omega arith)
  list-number w g (same_way f i g' j p q r t x) e = absurd (let z : ◌≡◌ {A = ℕ} 0 1 = cc in omega arith)
  list-number w g (missing-face h) e = absurd (let z : ◌≡◌ {A = ℕ} 0 1 = cc in omega arith)
  list-number w g (no_edge h) e = absurd (let z : ◌≡◌ {A = ℕ} 0 1 = cc in omega arith)
  list-number w g (missed-edge h) e = absurd (let z : ◌≡◌ {A = ℕ} 0 1 = cc in omega arith)

  pub lists-clear : (w : Where) (g : Ground) → 10 ≤ ground_number g → FirstMet c l m w g → ClearLists c l m
  lists-clear lists g n h = absurd (let z = list-number lists g h.met refl in omega arith)
  lists-clear (face f) g n h =
      record {
        counts = λ z. h.none_before lists OverCounts (inl (omega arith)) (over-counts z);
        numbers = λ z. h.none_before lists UnfitNumber (inl (omega arith)) (unfit-number z);
        rows = λ z. h.none_before lists FewRows (inl (omega arith)) (few-rows z);
      }
  lists-clear (edge f i) g n h =
      record {
        counts = λ z. h.none_before lists OverCounts (inl (omega arith)) (over-counts z);
        numbers = λ z. h.none_before lists UnfitNumber (inl (omega arith)) (unfit-number z);
        rows = λ z. h.none_before lists FewRows (inl (omega arith)) (few-rows z);
      }
  lists-clear whole g n h =
      record {
        counts = λ z. h.none_before lists OverCounts (inl (omega arith)) (over-counts z);
        numbers = λ z. h.none_before lists UnfitNumber (inl (omega arith)) (unfit-number z);
        rows = λ z. h.none_before lists FewRows (inl (omega arith)) (few-rows z);
      }

-- ---- the lists pass 2 and 3

-- there is a place only where the counts and the numbers are fit
spot_of : (a b : Bool) (s t : Result ⊤ Spot) → Stops t → spot_if a b s ≡ t → (a ≡ true) × (b ≡ true) × (s ≡ t)
spot_of true true s t h e = (refl, refl, e)
spot_of true false s t h e = absurd (not-clear t h (sym e))
spot_of false b s t h e = absurd (not-clear t h (sym e))

clear-fit : (c : Sizes) (l : Lists) (m : Mesh) → ClearLists c l m → spotted c l ≡ first_spot l
unfolding spotted
clear-fit c l m h = go (counts_fit c l) refl (listed_fit l) refl
  where
    go : (a : Bool) → counts_fit c l ≡ a → (b : Bool) → listed_fit l ≡ b → spot_if a b (first_spot l) ≡ first_spot l
    go true x true y = refl
    go true x false y = absurd (h.numbers (numbers-fail l y))
    go false x b y = absurd (h.counts (counts-fail c l x))

pub spot-is-first : SpotIsFirst
spot-is-first c l m few g n answer = go ((first-ground c l m few g).0 answer)
  where
    go : (w : Where) × FirstMet c l m w g → FirstMet c l m (where_of (spotted c l)) g
    go (w, h) = subst (λ s. FirstMet c l m (where_of s) g) (sym (clear-fit c l m clear)) (spot (first_spot l) (first-came c l m clear))
      where
        clear : ClearLists c l m
        clear = lists-clear c l m w g n h

        spot : (s : Result ⊤ Spot) → Came c l m clear (SoFar c l m clear (faces_of l)) s → FirstMet c l m (where_of s) g
        spot s (passed far) = turn (passed-met c l m clear far w g h.met)
          where
            turn : (w ≡ lists) ⊎ (w ≡ whole) → FirstMet c l m whole g
            turn (inl e) = absurd (let z = list-number c l m w g h.met e in omega arith)
            turn (inr e) = subst (λ w. FirstMet c l m w g) e h
        spot s (at-face {f = f} {g = g'} k) = subst (λ g. FirstMet c l m (face f) g) (first-once c l m (face f) g' w g k h) k
        spot s (at_edge {f = f} {i = i} {g = g'} k) = subst (λ g. FirstMet c l m (edge f i) g) (first-once c l m (edge f i) g' w g k h) k

pub spot-refuses : SpotRefuses
unfolding spotted
spot-refuses c l m few rows g f i (inl e) = go (spot_of (counts_fit c l) (listed_fit l) (first_spot l) (Err (Face f g)) (stops (Face f g)) e)
  where
    go : (counts_fit c l ≡ true) × (listed_fit l ≡ true) × (first_spot l ≡ Err (Face f g)) → (build c l m).answer ≡ Err g
    go (x, y, q) = came (first_spot l) q (first-came c l m clear)
      where
        clear : ClearLists c l m
        clear = record { counts = counted-fits c l (counts-is c l x); numbers = numbered-fits l (numbers-is l y); rows = rows }

        came : (s : Result ⊤ Spot) → s ≡ Err (Face f g) → Came c l m clear (SoFar c l m clear (faces_of l)) s → (build c l m).answer ≡ Err g
        came s q (passed far) = absurd (not-clear (Err (Face f g)) (stops (Face f g)) (sym q))
        came s q (at-face {f = f'} {g = g'} h) =
            let y : g' ≡ g = cc in (first-ground c l m few g).1 (face f', subst (λ g. FirstMet c l m (face f') g) y h)
        came s q (at_edge {f = f'} {i = i'} {g = g'} h) = absurd (let z : ◌≡◌ {A = ℕ} 0 1 = cc in omega arith)
spot-refuses c l m few rows g f i (inr e) = go (spot_of (counts_fit c l) (listed_fit l) (first_spot l) (Err (Edge f i g)) (stops (Edge f i g)) e)
  where
    go : (counts_fit c l ≡ true) × (listed_fit l ≡ true) × (first_spot l ≡ Err (Edge f i g)) → (build c l m).answer ≡ Err g
    go (x, y, q) = came (first_spot l) q (first-came c l m clear)
      where
        clear : ClearLists c l m
        clear = record { counts = counted-fits c l (counts-is c l x); numbers = numbered-fits l (numbers-is l y); rows = rows }

        came : (s : Result ⊤ Spot) → s ≡ Err (Edge f i g) → Came c l m clear (SoFar c l m clear (faces_of l)) s → (build c l m).answer ≡ Err g
        came s q (passed far) = absurd (not-clear (Err (Edge f i g)) (stops (Edge f i g)) (sym q))
        came s q (at-face {f = f'} {g = g'} h) = absurd (let z : ◌≡◌ {A = ℕ} 0 1 = cc in omega arith)
        came s q (at_edge {f = f'} {i = i'} {g = g'} h) =
            let y : g' ≡ g = cc in (first-ground c l m few g).1 (edge f' i', subst (λ g. FirstMet c l m (edge f' i') g) y h)

-- ---- the place is one of the faces

-- the place is at face f, or nothing is met
data AtFace (f : ℕ) : Result ⊤ Spot → Type 0 where
  nothing-at : AtFace f (Ok tt)
  face-at : (g : Ground) → AtFace f (Err (Face f g))
  edge_at : (i : ℕ) (g : Ground) → AtFace f (Err (Edge f i g))

at-then : (f : ℕ) (s t : Result ⊤ Spot) → AtFace f s → AtFace f t → AtFace f (then_spot s t)
at-then f s t nothing-at h = h
at-then f s t (face-at g) h = face-at g
at-then f s t (edge_at i g) h = edge_at i g

edges_at : (l : Lists) (f a n : ℕ) → AtFace f (edges_spot (places_of l) f a n)
unfolding edges_spot edge_spot
edges_at l f a zero = nothing-at
edges_at l f a (suc n) =
    at-then f (edges_spot (places_of l) f a n) (edge_spot (places_of l) f a n) (edges_at l f a n)
    (go (third (places_of l) (a + n)) (runs_with_mate (places_of l) (a + n)))
  where
    go : (t u : Bool) → AtFace f (spot_at f n t u)
    go true u = edge_at n EdgeTripleFace
    go false true = edge_at n SameWay
    go false false = nothing-at

face-spot-at : (l : Lists) (f : ℕ) → AtFace f (face_spot l (places_of l) f)
unfolding face_spot
face-spot-at l f =
    at-then f (verdict_spot f (face_verdict l (points_of l) f (offset l f))) (edges_spot (places_of l) f (offset l f) (size l f))
    (go (face_verdict l (points_of l) f (offset l f))) (edges_at l f (offset l f) (size l f))
  where
    go : (v : Result ⊤ Ground) → AtFace f (verdict_spot f v)
    go (Ok tt) = nothing-at
    go (Err g) = face-at g

-- the place of a spot is below k
data Below (k : ℕ) : Result ⊤ Spot → Type 0 where
  nothing-below : Below k (Ok tt)
  face-below : (f : ℕ) (g : Ground) → f < k → Below k (Err (Face f g))
  edge-below : (f i : ℕ) (g : Ground) → f < k → Below k (Err (Edge f i g))

below_then : (k : ℕ) (s t : Result ⊤ Spot) → Below k s → AtFace k t → Below (suc k) (then_spot s t)
below_then k s t nothing-below nothing-at = nothing-below
below_then k s t nothing-below (face-at g) = face-below k g (omega arith)
below_then k s t nothing-below (edge_at i g) = edge-below k i g (omega arith)
below_then k s t (face-below f g h) a = face-below f g (omega arith)
below_then k s t (edge-below f i g h) a = edge-below f i g (omega arith)

spots-below : (l : Lists) (k : ℕ) → Below k (faces_spot l (places_of l) k)
unfolding faces_spot
spots-below l zero = nothing-below
spots-below l (suc k) = below_then k (faces_spot l (places_of l) k) (face_spot l (places_of l) k) (spots-below l k) (face-spot-at l k)

pub spot-in-faces : SpotInFaces
unfolding spotted first_spot
spot-in-faces c l g f i (inl e) =
    go (faces_spot l (places_of l) (faces_of l)) (spots-below l (faces_of l))
    (spot_of (counts_fit c l) (listed_fit l) (first_spot l) (Err (Face f g)) (stops (Face f g)) e).2
  where
    go : (s : Result ⊤ Spot) → Below (faces_of l) s → s ≡ Err (Face f g) → f < faces_of l
    go s nothing-below q = absurd (not-clear (Err (Face f g)) (stops (Face f g)) (sym q))
    go s (face-below f' g' h) q = let y : f' ≡ f = cc in subst (λ f. f < faces_of l) y h
    go s (edge-below f' i' g' h) q = absurd (let z : ◌≡◌ {A = ℕ} 0 1 = cc in omega arith)
spot-in-faces c l g f i (inr e) =
    go (faces_spot l (places_of l) (faces_of l)) (spots-below l (faces_of l))
    (spot_of (counts_fit c l) (listed_fit l) (first_spot l) (Err (Edge f i g)) (stops (Edge f i g)) e).2
  where
    go : (s : Result ⊤ Spot) → Below (faces_of l) s → s ≡ Err (Edge f i g) → f < faces_of l
    go s nothing-below q = absurd (not-clear (Err (Edge f i g)) (stops (Edge f i g)) (sym q))
    go s (face-below f' g' h) q = absurd (let z : ◌≡◌ {A = ℕ} 0 1 = cc in omega arith)
    go s (edge-below f' i' g' h) q = let y : f' ≡ f = cc in subst (λ f. f < faces_of l) y h
