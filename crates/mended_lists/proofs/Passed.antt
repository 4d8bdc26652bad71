-- Lists that pass the mender's grounds before 44 are sound, and each place shares its edge. Assumes nothing.
use mathlib.Core.Path.{◌≡◌, refl, sym, ◌∙◌, ap}
use mathlib.Core.Bool.{Bool, true, false, not, cond, false≢true}
use mathlib.Core.Logic.{◌⊎◌, inl, inr, ◌≢◌, ◌↔◌}
use mathlib.Core.List.{List}
use Prim.Native.Nat.{ℕ, zero, suc, ◌+◌, ◌≤◌, ◌<◌}
use native.Mathlib.Omega.{arith}
use native.Mathlib.Decide.{ℕ_discrete, dec_lt}
use lib.Dec.{eqb}
use lib.ListN.{length}
use borrow.Author.Tests.{eqb-true}
use Rattle.std.specs.Prelude.{Result, Ok, Err, ⊤}
use Rattle.perimeters.specs.Places.{next_place}
use Rattle.perimeters.proofs.Laws.{next-below, next-differs}
use Rattle.tables.specs.declared.Sizes.{Sizes}
use Rattle.tables.specs.Layout.{longest_perimeter}
use Rattle.audited_meshes.specs.Folds.{every}
use Rattle.audited_meshes.proofs.Tests.{self-is, not_is, and_is, leb-is, eqb_is, every-is}
use Rattle.built_meshes.specs.Lists.{Lists, points_of, faces_of, size, offset, counts_fit, listed_fit}
use Rattle.built_meshes.specs.Faces.{size_fit, listed_in_range, no_point_twice, firsts_fit, sums_fit, face_verdict}
use Rattle.built_meshes.specs.Places.{point_of, IsPlace, Runs, Between, Differ}
use Rattle.built_meshes.specs.declared.Ground.{Ground}
use Rattle.built_meshes.specs.declared.Ground.TheVariants.{OverCounts, UnfitNumber, FaceSize, OutOfRange, PointTwice, FirstPoint, NonRectangularFace, EdgeTripleFace, MissingFace}
use Rattle.mended_lists.specs.declared.Unmended.{Unmended}
use Rattle.mended_lists.specs.declared.Unmended.TheVariants.{Refused, Twisted}
use Rattle.mended_lists.specs.Reversal.{Choice}
use Rattle.mended_lists.specs.Edges.{FacePlace, listed_place, places_of, place_at, same_edge, mate, third, follower, lone}
use Rattle.mended_lists.specs.Parts.{faces_turned, twisted}
use Rattle.mended_lists.specs.Mending.{forgiven, edges_mend, then_edges, face_mends, then_face, faces_mend, whole_mends, edges_shared, mending_if, mending}
use Rattle.mended_lists.specs.Claims.{Sound, Paired, Works, PassedSound, MendedExactly}
use Rattle.mended_lists.proofs.Reversal.{eqb-false}
use Rattle.mended_lists.proofs.Edges.{edge-is, latest-last, mate-last, mate-found, places-at, number-below, number-face, number-place, Numbered, numbered}
use Rattle.mended_lists.proofs.Choices.{between-edge, edge-between, between-place}
use Rattle.mended_lists.proofs.Theorem.{twisted-exactly, found}

-- ---- one edge, told from either place

pub same_back : (a b : FacePlace) → same_edge a b ≡ true → same_edge b a ≡ true
same_back a b e = (edge-is b a).1 (go ((edge-is a b).0 e))
  where
    go :
        ((a.from ≡ b.from) × (a.to ≡ b.to)) ⊎ ((a.from ≡ b.to) × (a.to ≡ b.from)) →
        ((b.from ≡ a.from) × (b.to ≡ a.to)) ⊎ ((b.from ≡ a.to) × (b.to ≡ a.from))
    go (inl (x, y)) = inl (sym x, sym y)
    go (inr (x, y)) = inr (sym y, sym x)

-- ---- one face

pub unfit : (g : Ground) → ◌≡◌ {A = Result ⊤ Ground} (Err g) (Ok tt) → ⊥
unfit g h = let z : ◌≡◌ {A = ℕ} 0 1 = cc in omega arith

pub fit_edges : (v : Result ⊤ Ground) (e : Bool) → then_edges v e ≡ Ok tt → (v ≡ Ok tt) × (e ≡ true)
fit_edges (Ok tt) true h = (refl, refl)
fit_edges (Ok tt) false h = absurd (unfit EdgeTripleFace h)
fit_edges (Err g) true h = let z : ◌≡◌ {A = ℕ} 0 1 = cc in absurd (omega arith)
fit_edges (Err g) false h = let z : ◌≡◌ {A = ℕ} 0 1 = cc in absurd (omega arith)

fit-face : (v w : Result ⊤ Ground) → then_face v w ≡ Ok tt → (v ≡ Ok tt) × (w ≡ Ok tt)
fit-face (Ok tt) w h = (refl, h)
fit-face (Err g) w h = absurd (unfit g h)

-- the tests that a face has passed
first-tests :
    (a b c : Bool) (rest : Result ⊤ Ground) →
    forgiven (cond (not a) (Err FaceSize) (cond (not b) (Err OutOfRange) (cond (not c) (Err PointTwice) rest))) ≡ Ok tt →
    (a ≡ true) × (c ≡ true)
first-tests true true true rest h = (refl, refl)
first-tests true true false rest h = absurd (unfit PointTwice h)
first-tests true false c rest h = absurd (unfit OutOfRange h)
first-tests false b c rest h = absurd (unfit FaceSize h)

module _ (l : Lists) where
  face-tests :
      (f : ℕ) → forgiven (face_verdict l (points_of l) f (offset l f)) ≡ Ok tt →
      (size_fit (size l f) ≡ true) × (no_point_twice l (offset l f) (size l f) ≡ true)
  unfolding face_verdict
  face-tests f h =
      first-tests (size_fit (size l f)) (listed_in_range l (points_of l) (offset l f) (size l f)) (no_point_twice l (offset l f) (size l f))
      (cond (not (firsts_fit l.version l f (offset l f))) (Err FirstPoint)
      (cond (not (sums_fit l.version l f (offset l f))) (Err NonRectangularFace) (Ok tt)))
      h

  faces-passed : (k : ℕ) → faces_mend l (places_of l) k ≡ Ok tt → (f : ℕ) → f < k → face_mends l (places_of l) f ≡ Ok tt
  unfolding faces_mend
  faces-passed zero h f b = absurd (never b)
    where
      never : f < 0 → ⊥
      never b = omega arith
  faces-passed (suc k) h f b = go (ℕ_discrete f k) (λ q. faces-passed k both.0 f q)
    where
      both : (faces_mend l (places_of l) k ≡ Ok tt) × (face_mends l (places_of l) k ≡ Ok tt)
      both = fit-face (faces_mend l (places_of l) k) (face_mends l (places_of l) k) h

      go : Dec (f ≡ k) → (f < k → face_mends l (places_of l) f ≡ Ok tt) → face_mends l (places_of l) f ≡ Ok tt
      go (yes e) before = rw e both.1
      go (no e) before = before (omega arith)

  module _ (passed : faces_mend l (places_of l) (faces_of l) ≡ Ok tt) where
    pub face-passed :
        (f : ℕ) → f < faces_of l →
        (forgiven (face_verdict l (points_of l) f (offset l f)) ≡ Ok tt) × (edges_mend (places_of l) (offset l f) (size l f) ≡ true)
    unfolding face_mends
    face-passed f b =
        fit_edges (forgiven (face_verdict l (points_of l) f (offset l f))) (edges_mend (places_of l) (offset l f) (size l f))
        (faces-passed (faces_of l) passed f b)

    -- 10 and 12
    pub at-least-three : (f : ℕ) → f < faces_of l → 3 ≤ size l f
    at-least-three f b =
        ((and_is (leb-is 3 (size l f)) (leb-is (size l f) longest_perimeter)).0 (face-tests f (face-passed f b).0).0).0

    pub points-differ : (f i j : ℕ) → f < faces_of l → i < size l f → j < i → point_of l f i ≢ point_of l f j
    unfolding no_point_twice
    points-differ f i j b c d =
        (not_is (eqb_is (point_of l f i) (point_of l f j))).0
        ((every-is i (λ j. self-is (not (eqb (point_of l f i) (point_of l f j))))).0
        ((every-is (size l f) (λ i. self-is (every i (λ j. not (eqb (point_of l f i) (point_of l f j)))))).0
        (face-tests f (face-passed f b).0).1 i c) j d)

    no_loop : (f i p : ℕ) → ¬ Runs l f i p p
    no_loop f i p r = go (dec_lt i (next_place (size l f) i)) (dec_lt (next_place (size l f) i) i)
      where
        b : f < faces_of l
        b = r.is-place.0

        c : i < size l f
        c = r.is-place.1

        go : Dec (i < next_place (size l f) i) → Dec (next_place (size l f) i < i) → ⊥
        go (yes d) e = points-differ f (next_place (size l f) i) i b (next-below (size l f) i c) d (r.ends ∙ sym r.begins)
        go (no d) (yes e) = points-differ f i (next_place (size l f) i) b c e (r.begins ∙ sym r.ends)
        go (no d) (no e) = next-differs (size l f) i (omega (arith, at-least-three f b)) c (omega arith)

    -- 14
    none-third : (f i : ℕ) → IsPlace l f i → third (places_of l) (offset l f + i) ≡ false
    unfolding edges_mend
    none-third f i (b, c) = false_of (third (places_of l) (offset l f + i))
        ((every-is (size l f) (λ i. self-is (not (third (places_of l) (offset l f + i))))).0 (face-passed f b).1 i c)
      where
        false_of : (t : Bool) → not t ≡ true → t ≡ false
        false_of true e = sym e
        false_of false e = refl

-- ---- places on one edge

pub record OnEdge (l : Lists) (p q k : ℕ) : Type 0 where
  pub face : ℕ
  pub place : ℕ
  pub between : Between l face place p q
  pub number : offset l face + place ≡ k

pub third-is : (ps : List FacePlace) (k m n : ℕ) → mate ps k ≡ suc m → mate ps m ≡ suc n → third ps k ≡ true
unfolding third
third-is ps k m n e h = rw (e, h) (ap not (eqb-false (suc n) 0 (λ z. omega arith)))

module _ (l : Lists) (p q : ℕ) where
  pub on-at : (k : ℕ) (o : OnEdge l p q k) → place_at (places_of l) k ≡ listed_place l o.face o.place
  on-at k o = rw (← o.number) (places-at l o.face o.place (between-place l o.face o.place p q o.between))

  pub on_below : (k : ℕ) → OnEdge l p q k → k < length (places_of l)
  on_below k o = rw o.number at (number-below l o.face o.place (between-place l o.face o.place p q o.between))

  pub on_same : (j k : ℕ) → OnEdge l p q j → OnEdge l p q k → same_edge (place_at (places_of l) j) (place_at (places_of l) k) ≡ true
  on_same j k a b =
      rw (on-at j a, on-at k b) (between-edge l a.face a.place b.face b.place p q a.between b.between)

  pub on-also : (j k : ℕ) → OnEdge l p q k → j < length (places_of l) → same_edge (place_at (places_of l) j) (place_at (places_of l) k) ≡ true → OnEdge l p q j
  on-also j k b h e =
      let u : Numbered l j = numbered l j h in
      record {
        face = u.face;
        place = u.place;
        between = edge-between l u.face u.place b.face b.place p q u.is-place b.between (rw (u.at, on-at k b) at e);
        number = u.number;
      }

  pub on-mate : (j k : ℕ) → OnEdge l p q k → mate (places_of l) k ≡ suc j → OnEdge l p q j
  on-mate j k b e =
      let m = mate-last (places_of l) k j e in on-also j k b (omega (arith, m.in-range, on_below k b)) m.passes

  -- the last of three is the third
  pub three : (i j k : ℕ) → i < j → j < k → OnEdge l p q i → OnEdge l p q j → OnEdge l p q k → third (places_of l) k ≡ true
  three i j k x y a b c = go (mate-found (places_of l) k j y (on_same j k b c))
    where
      go : (m : ℕ) × (mate (places_of l) k ≡ suc m) × (j ≤ m) → third (places_of l) k ≡ true
      go (m, e, le) = this (mate-found (places_of l) m i (omega arith) (on_same i m a (on-mate m k c e)))
        where
          this : (n : ℕ) × (mate (places_of l) m ≡ suc n) × (i ≤ n) → third (places_of l) k ≡ true
          this (n, h, b) = third-is (places_of l) k m n e h

-- ---- the whole

module _ (l : Lists) (passed : faces_mend l (places_of l) (faces_of l) ≡ Ok tt) where
  not_three : (p q i j k : ℕ) → i < j → j < k → OnEdge l p q i → OnEdge l p q j → OnEdge l p q k → ⊥
  not_three p q i j k x y a b c =
      false≢true
      (sym (rw c.number at (none-third l passed c.face c.place (between-place l c.face c.place p q c.between)))
      ∙ three l p q i j k x y a b c)

  -- in whichever order they come
  any-three : (p q i j k : ℕ) → OnEdge l p q i → OnEdge l p q j → OnEdge l p q k → i ≢ j → i ≢ k → j ≢ k → ⊥
  any-three p q i j k a b c x y z = go (dec_lt i j) (dec_lt j k) (dec_lt i k)
    where
      go : Dec (i < j) → Dec (j < k) → Dec (i < k) → ⊥
      go (yes u) (yes v) w = not_three p q i j k u v a b c
      go (yes u) (no v) (yes w) = not_three p q i k j w (omega arith) a c b
      go (yes u) (no v) (no w) = not_three p q k i j (omega arith) u c a b
      go (no u) (yes v) (yes w) = not_three p q j i k (omega arith) w b a c
      go (no u) (yes v) (no w) = not_three p q j k i v (omega arith) b c a
      go (no u) (no v) w = not_three p q k j i (omega arith) (omega arith) c b a

  passed-sound : Sound l
  passed-sound = record { no_loop = no_loop l passed; at_most_two = two }
    where
      on : (f i p q : ℕ) → Between l f i p q → OnEdge l p q (offset l f + i)
      on f i p q b = record { face = f; place = i; between = b; number = refl }

      apart : (f i g j p q : ℕ) → Between l f i p q → Between l g j p q → Differ f i g j → offset l f + i ≢ offset l g + j
      apart f i g j p q a b d e =
          d (
            number-face l f i g j (between-place l f i p q a) (between-place l g j p q b) e,
            number-place l f i g j (between-place l f i p q a) (between-place l g j p q b) e,
          )

      two :
          (f i g j h k p q : ℕ) → Between l f i p q → Between l g j p q → Between l h k p q → Differ f i g j → Differ f i h k → Differ g j h k → ⊥
      two f i g j h k p q a b c x y z =
          any-three p q (offset l f + i) (offset l g + j) (offset l h + k) (on f i p q a) (on g j p q b) (on h k p q c)
          (apart f i g j p q a b x) (apart f i h k p q a c y) (apart g j h k p q b c z)

module _ (l : Lists) (shared : edges_shared (places_of l) ≡ true) where
  not-lone : (k : ℕ) → k < length (places_of l) → lone (places_of l) k ≡ false
  unfolding edges_shared
  not-lone k b = false_of (lone (places_of l) k) ((every-is (length (places_of l)) (λ k. self-is (not (lone (places_of l) k)))).0 shared k b)
    where
      false_of : (t : Bool) → not t ≡ true → t ≡ false
      false_of true e = sym e
      false_of false e = refl

  mate-or-follower :
      (k : ℕ) → k < length (places_of l) → (mate (places_of l) k ≢ 0) ⊎ (follower (places_of l) (length (places_of l)) k ≢ 0)
  unfolding lone
  mate-or-follower k b = go (ℕ_discrete (mate (places_of l) k) 0) (ℕ_discrete (follower (places_of l) (length (places_of l)) k) 0)
    where
      go :
          Dec (mate (places_of l) k ≡ 0) → Dec (follower (places_of l) (length (places_of l)) k ≡ 0) →
          (mate (places_of l) k ≢ 0) ⊎ (follower (places_of l) (length (places_of l)) k ≢ 0)
      go (no d) e = inl d
      go (yes d) (no e) = inr e
      go (yes d) (yes e) =
          absurd
          (false≢true
          (sym (not-lone k b)
          ∙ (and_is (eqb_is (mate (places_of l) k) 0) (eqb_is (follower (places_of l) (length (places_of l)) k) 0)).1 (d, e)))

  pub passed-paired : Paired l
  unfolding follower
  passed-paired f i p q r =
      go (mate-or-follower (offset l f + i) (number-below l f i r.is-place))
    where
      here : OnEdge l p q (offset l f + i)
      here = record { face = f; place = i; between = inl r; number = refl }

      other : (j : ℕ) → OnEdge l p q j → j ≢ offset l f + i → (g : ℕ) × (j : ℕ) × Differ f i g j × Between l g j p q
      other j o d = (
        o.face,
        o.place,
        (λ s. d (sym o.number ∙ sym (ap (λ (x : ℕ). offset l x + i) s.0 ∙ ap (λ (x : ℕ). offset l o.face + x) s.1))),
        o.between,
      )

      some : (m : ℕ) → m ≢ 0 → (j : ℕ) × (m ≡ suc j)
      some zero d = absurd (d refl)
      some (suc j) d = (j, refl)

      go :
          (mate (places_of l) (offset l f + i) ≢ 0) ⊎ (follower (places_of l) (length (places_of l)) (offset l f + i) ≢ 0) →
          (g : ℕ) × (j : ℕ) × Differ f i g j × Between l g j p q
      go (inl d) =
          let m = some (mate (places_of l) (offset l f + i)) d in
          let less : m.0 < offset l f + i = (mate-last (places_of l) (offset l f + i) m.0 m.1).in-range in
          other m.0 (on-mate l p q m.0 (offset l f + i) here m.1) (λ e. omega arith)
      go (inr d) =
          let m = some (follower (places_of l) (length (places_of l)) (offset l f + i)) d in
          let last = latest-last (λ j. eqb (mate (places_of l) j) (suc (offset l f + i))) (length (places_of l)) m.0 m.1 in
          let e : mate (places_of l) m.0 ≡ suc (offset l f + i) = eqb-true (mate (places_of l) m.0) (suc (offset l f + i)) last.passes in
          let found = mate-last (places_of l) m.0 (offset l f + i) e in
          let less : offset l f + i < m.0 = found.in-range in
          other m.0
          (on-back m.0 last.in-range found.passes) (λ e. omega arith)
        where
          on-back :
              (j : ℕ) → j < length (places_of l) → same_edge (place_at (places_of l) (offset l f + i)) (place_at (places_of l) j) ≡ true →
              OnEdge l p q j
          on-back j b e = on-also l p q j (offset l f + i) here b (same_back (place_at (places_of l) (offset l f + i)) (place_at (places_of l) j) e)

-- ---- the answer

module _ (c : Sizes) (l : Lists) where
  pub mended-parts :
      (mending c l ≡ Ok tt) ⊎ (mending c l ≡ Err Twisted) →
      (faces_mend l (places_of l) (faces_of l) ≡ Ok tt) × (edges_shared (places_of l) ≡ true) × (mending c l ≡ cond (twisted l) (Err Twisted) (Ok tt))
  unfolding mending mending_if
  mended-parts = counts (counts_fit c l) (listed_fit l)
    where
      refused : (g : Ground) → ◌≡◌ {A = Result ⊤ Unmended} (Err (Refused g)) (Ok tt) ⊎ ◌≡◌ {A = Result ⊤ Unmended} (Err (Refused g)) (Err Twisted) → ⊥
      refused g (inl h) = let z : ◌≡◌ {A = ℕ} 0 1 = cc in omega arith
      refused g (inr h) = let z : ◌≡◌ {A = ℕ} 0 1 = cc in omega arith

      whole :
          (v : Result ⊤ Ground) (s t : Bool) → (whole_mends v s t ≡ Ok tt) ⊎ (whole_mends v s t ≡ Err Twisted) →
          (v ≡ Ok tt) × (s ≡ true) × (whole_mends v s t ≡ cond t (Err Twisted) (Ok tt))
      whole (Err g) s t h = absurd (refused g h)
      whole (Ok tt) false t h = absurd (refused MissingFace h)
      whole (Ok tt) true true h = (refl, refl, refl)
      whole (Ok tt) true false h = (refl, refl, refl)

      counts :
          (a b : Bool) → (mending_if a b l ≡ Ok tt) ⊎ (mending_if a b l ≡ Err Twisted) →
          (faces_mend l (places_of l) (faces_of l) ≡ Ok tt) × (edges_shared (places_of l) ≡ true) × (mending_if a b l ≡ cond (twisted l) (Err Twisted) (Ok tt))
      counts false b h = absurd (refused OverCounts h)
      counts true false h = absurd (refused UnfitNumber h)
      counts true true h = whole (faces_mend l (places_of l) (faces_of l)) (edges_shared (places_of l)) (twisted l) h

pub passed : PassedSound
passed c l h =
    let parts = mended-parts c l h in (passed-sound l parts.0, passed-paired l parts.1)

pub mended-exactly : MendedExactly
mended-exactly c l h = go (twisted l) refl
  where
    sound : Sound l
    sound = (passed c l h).0

    answer : mending c l ≡ cond (twisted l) (Err Twisted) (Ok tt)
    answer = (mended-parts c l h).2

    clash : ◌≡◌ {A = Result ⊤ Unmended} (Ok tt) (Err Twisted) → ⊥
    clash e = let z : ◌≡◌ {A = ℕ} 0 1 = cc in omega arith

    go :
        (t : Bool) → twisted l ≡ t →
        ((mending c l ≡ Err Twisted) ↔ ((t : Choice) → ¬ Works l t)) × ((mending c l ≡ Ok tt) ↔ Works l (faces_turned l))
    go true e =
        let r : mending c l ≡ Err Twisted = answer ∙ rw e in (
          (λ x. (twisted-exactly l sound).0 e, λ x. r),
          (λ x. absurd (clash (sym x ∙ r)), λ x. absurd ((twisted-exactly l sound).0 e (faces_turned l) x)),
        )
    go false e =
        let r : mending c l ≡ Ok tt = answer ∙ rw e in
        ((λ x. absurd (clash (sym r ∙ x)), λ x. absurd (x (faces_turned l) (found l sound e).0)), (λ x. (found l sound e).0, λ x. r))
