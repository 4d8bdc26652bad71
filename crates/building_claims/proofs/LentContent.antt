-- The content of lent tables shows nowhere. What an accepted build leaves is settled by the lists (`Builds`), so two builds of the same
-- lists leave the same; and which ground is met first depends on the numbers of rows alone. Assumes nothing.
--     places_same             edges of one number were made at one place
--     edge-once               a place has one edge
--     builds-same             what is built of the same lists is the same
--     lent-content            the claim of `specs/LentContent.antt`
use mathlib.Core.Path.{◌≡◌, refl, sym, ◌∙◌, ap, ap₂, subst}
use mathlib.Core.Bool.{◌||◌}
use mathlib.Core.Logic.{◌⊎◌, inl, inr, ◌≢◌}
use Prim.Native.Nat.{ℕ, zero, suc, ◌+◌, ◌*◌, ◌/◌, ◌%◌, ◌<◌, ◌≤◌}
use native.Mathlib.Omega.{arith}
use native.Mathlib.Decide.{ℕ_discrete, dec_lt}
use lib.Dec.{eqb}
use lib.Ieee.{nan, of_bits, binary64}
use lib.ListN.{length, get_or}
use Rattle.std.specs.Prelude.{Result, Ok, Err}
use Rattle.tables.specs.Counted.{zeroed_rows}
use Rattle.perimeters.specs.Places.{next_place, prev_place}
use Rattle.tables.specs.declared.Sizes.{Sizes}
use Rattle.t_spline.specs.declared.TnurccEdge.{TnurccEdge}
use Rattle.tables.specs.Mesh.{Mesh, none, valence, start, mark, origin, dest, left_face, right_face, left_cw, left_acw, right_cw, right_acw, interval}
use Rattle.tables.specs.declared.Counts.{Counts}
use Rattle.audited_meshes.specs.Folds.{one_if}
use Rattle.audited_meshes.specs.Walks.{touches, Touches}
use Rattle.audited_meshes.proofs.Folds.{below_suc, sum_to-cong}
use Rattle.built_meshes.specs.Lists.{Lists, points_of, faces_of, size, rows_of}
use Rattle.built_meshes.specs.Places.{point_of, next_of, beside_of, Runs, Between, Earlier}
use Rattle.built_meshes.specs.Building.{build}
use Rattle.built_meshes.specs.Builds.{EdgeOf, Builds}
use Rattle.built_meshes.specs.Answers.{ground_number}
use Rattle.built_meshes.specs.Grounds.{HasFewRows, few-points, few-faces, few-edges, Where, Met, over-counts}
use Rattle.built_meshes.specs.Grounds.{unfit-number, few-rows, face-size, out_of_range, point-twice, first-point, non-rectangular}
use Rattle.built_meshes.specs.Grounds.{triple-face, same_way, missing-face, no_edge, missed-edge, edge}
use Rattle.building_claims.specs.LentContent.{SameNumbers, SameCounted, ShowsNothing, LentContent}
use Rattle.built_meshes.specs.declared.Version.{Version}
use Rattle.built_meshes.specs.declared.Version.TheVariants.{One, Two}
use Rattle.built_meshes.specs.declared.Ground.{Ground}
use Rattle.built_meshes.specs.declared.Ground.TheVariants.{OverCounts, UnfitNumber, FewRows, FaceSize, OutOfRange}
use Rattle.built_meshes.specs.declared.Ground.TheVariants.{PointTwice, FirstPoint, NonRectangularFace, EdgeTripleFace}
use Rattle.built_meshes.specs.declared.Ground.TheVariants.{SameWay, MissingFace, NoEdge, MissedEdge}
use Rattle.built_meshes.proofs.Rows.{row}
use Rattle.built_meshes.proofs.Made.{earlier-not, earlier-differs}
use Rattle.built_meshes.proofs.Begin.{get_or-zeroed}
use Rattle.built_meshes.proofs.Builds.{earlier-or}
use Rattle.built_meshes.proofs.Theorem.{first-ground, refusals-hold, accepts-exactly, accepted-audited, accepted-builds}

-- of two numbers
compare : {A : Type 0} (k n : ℕ) → (k < n → A) → (k ≡ n → A) → (n < k → A) → A
compare {A} k n less same more = go (dec_lt k n) (ℕ_discrete k n)
  where
    go : Dec (k < n) → Dec (k ≡ n) → A
    go (yes h) d = less h
    go (no h) (yes d) = same d
    go (no h) (no d) = more (omega arith)

-- ---- the places at which edges were made

no-earlier :
    (l : Lists) (t t' : Mesh) (ne : ℕ) (b : Builds l t ne) (b' : Builds l t' ne) (e : ℕ) → e < ne →
    ((o : ℕ) → o < e → (left_face t o ≡ left_face t' o) × (b.place o ≡ b'.place o)) →
    Earlier (left_face t e) (b.place e) (left_face t' e) (b'.place e) → ⊥
no-earlier l t t' ne b b' e k ih z =
    let w = b'.all_first (left_face t e) (b.place e) (b.first e k) in
    compare w.0 e
    (λ lt.
    let same = ih w.0 lt in
    earlier-differs (left_face t w.0) (b.place w.0) (left_face t e) (b.place e) (b.in_order w.0 e lt k) (same.0 ∙ w.2, same.1 ∙ w.3))
    (λ same.
    earlier-differs (left_face t e) (b.place e) (left_face t' e) (b'.place e) z (sym w.2 ∙ ap (λ o. left_face t' o) same, sym w.3 ∙ ap b'.place same))
    (λ gt.
    earlier-not (left_face t e) (b.place e) (left_face t' e) (b'.place e) z
    (subst (λ i. Earlier (left_face t' e) (b'.place e) (left_face t e) i) w.3
    (subst (λ f. Earlier (left_face t' e) (b'.place e) f (b'.place w.0)) w.2 (b'.in_order e w.0 gt w.1))))

-- ---- a place has one edge

module _ (l : Lists) (t : Mesh) (ne : ℕ) (b : Builds l t ne) where
  -- the edge joins the points of the place
  ends_of : {f i a : ℕ} → EdgeOf l t ne f i a → ((origin t a ≡ point_of l f i) × (dest t a ≡ next_of l f i)) ⊎ ((origin t a ≡ next_of l f i) × (dest t a ≡ point_of l f i))
  ends_of (k, inl h) = inl (sym h.1.begins, sym h.1.ends)
  ends_of (k, inr h) = inr (sym h.1.ends, sym h.1.begins)

  not-both : {f i a o : ℕ} → EdgeOf l t ne f i a → EdgeOf l t ne f i o → Earlier (left_face t a) (b.place a) (left_face t o) (b.place o) → ⊥
  not-both {f} {i} {a} {o} x y z = (b.first o y.0).none-earlier (left_face t a) (b.place a) z (go (ends_of x) (ends_of y))
    where
      r : Runs l (left_face t a) (b.place a) (origin t a) (dest t a)
      r = b.runs a x.0

      s : Runs l (left_face t o) (b.place o) (origin t o) (dest t o)
      s = b.runs o y.0

      go : ((origin t a ≡ point_of l f i) × (dest t a ≡ next_of l f i)) ⊎ ((origin t a ≡ next_of l f i) × (dest t a ≡ point_of l f i)) →
          ((origin t o ≡ point_of l f i) × (dest t o ≡ next_of l f i)) ⊎ ((origin t o ≡ next_of l f i) × (dest t o ≡ point_of l f i)) →
          Between l (left_face t a) (b.place a) (point_of l (left_face t o) (b.place o)) (next_of l (left_face t o) (b.place o))
      go (inl h) (inl k) =
          inl (record { is-place = r.is-place; begins = r.begins ∙ h.0 ∙ sym k.0 ∙ sym s.begins; ends = r.ends ∙ h.1 ∙ sym k.1 ∙ sym s.ends })
      go (inl h) (inr k) =
          inr (record { is-place = r.is-place; begins = r.begins ∙ h.0 ∙ sym k.1 ∙ sym s.ends; ends = r.ends ∙ h.1 ∙ sym k.0 ∙ sym s.begins })
      go (inr h) (inl k) =
          inr (record { is-place = r.is-place; begins = r.begins ∙ h.0 ∙ sym k.1 ∙ sym s.ends; ends = r.ends ∙ h.1 ∙ sym k.0 ∙ sym s.begins })
      go (inr h) (inr k) =
          inl (record { is-place = r.is-place; begins = r.begins ∙ h.0 ∙ sym k.0 ∙ sym s.begins; ends = r.ends ∙ h.1 ∙ sym k.1 ∙ sym s.ends })

  edge-once : {f i a o : ℕ} → EdgeOf l t ne f i a → EdgeOf l t ne f i o → a ≡ o
  edge-once {f} {i} {a} {o} x y =
      compare a o (λ lt. absurd (not-both x y (b.in_order a o lt y.0))) (λ same. same) (λ gt. absurd (not-both y x (b.in_order o a gt x.0)))

-- ---- what is built of the same lists

-- every word of an edge
record SameEdge (t t' : Mesh) (e : ℕ) : Type 0 where
  origin-same : origin t' e ≡ origin t e
  dest-same : dest t' e ≡ dest t e
  left-same : left_face t' e ≡ left_face t e
  right-same : right_face t' e ≡ right_face t e
  left_cw-same : left_cw t' e ≡ left_cw t e
  left_acw-same : left_acw t' e ≡ left_acw t e
  right_cw-same : right_cw t' e ≡ right_cw t e
  right_acw-same : right_acw t' e ≡ right_acw t e
  interval-same : interval t' e ≡ interval t e

module _ (l : Lists) (t t' : Mesh) (ne : ℕ) (b : Builds l t ne) (b' : Builds l t' ne)
    (one_way : (f i g j p q : ℕ) → Runs l f i p q → Runs l g j p q → (f ≡ g) × (i ≡ j)) where
  abbrev SamePlace : ℕ → Type 0
  SamePlace e = (left_face t e ≡ left_face t' e) × (b.place e ≡ b'.place e)

  places-below : (n e : ℕ) → e < n → e < ne → SamePlace e
  places-below zero e h k = absurd (omega arith)
  places-below (suc n) e h k =
      below_suc e n h (λ lt. places-below n e lt k)
      (λ same.
      let ih : (o : ℕ) → o < e → SamePlace o = λ o z. places-below n o (omega arith) (omega arith) in
      earlier-or (left_face t e) (b.place e) (left_face t' e) (b'.place e) (λ z. absurd (no-earlier l t t' ne b b' e k ih z)) (λ z. z)
      (λ z. absurd (no-earlier l t' t ne b' b e k (λ o lt. (sym (ih o lt).0, sym (ih o lt).1)) z)))

  places_same : (e : ℕ) → e < ne → SamePlace e
  places_same e k = places-below (suc e) e (omega arith) k

  module _ (e : ℕ) (k : e < ne) where
    same : SamePlace e
    same = places_same e k

    origins : origin t' e ≡ origin t e
    origins = sym (b'.runs e k).begins ∙ ap₂ (λ (f i : ℕ). point_of l f i) (sym same.0) (sym same.1) ∙ (b.runs e k).begins

    dests : dest t' e ≡ dest t e
    dests = sym (b'.runs e k).ends ∙ ap₂ (λ (f i : ℕ). next_of l f i) (sym same.0) (sym same.1) ∙ (b.runs e k).ends

    intervals : interval t' e ≡ interval t e
    intervals =
        go l.version refl
      where
        go : (v : Version) → l.version ≡ v → interval t' e ≡ interval t e
        go One h = b'.interval-1 h e k ∙ ap₂ (λ (f i : ℕ). beside_of l f i) (sym same.0) (sym same.1) ∙ sym (b.interval-1 h e k)
        go Two h =
            b'.interval-2 h e k ∙ ap₂ (λ (f i : ℕ). beside_of l f (next_place (size l f) i)) (sym same.0) (sym same.1) ∙ sym (b.interval-2 h e k)

    seconds : (right_face t' e ≡ right_face t e) × ((b'.second e k).0 ≡ (b.second e k).0)
    seconds =
        let r = (b'.second e k).1 in
        one_way (right_face t' e) (b'.second e k).0 (right_face t e) (b.second e k).0 (dest t e) (origin t e)
        (record { is-place = r.is-place; begins = r.begins ∙ dests; ends = r.ends ∙ origins }) (b.second e k).1

  -- an edge of a place is so in both
  edge-in-both : {f i a : ℕ} → EdgeOf l t' ne f i a → EdgeOf l t ne f i a
  edge-in-both {f} {i} {a} (k, inl h) =
      (k, inl ((places_same a k).0 ∙ h.0, record { is-place = h.1.is-place; begins = h.1.begins ∙ origins a k; ends = h.1.ends ∙ dests a k }))
  edge-in-both {f} {i} {a} (k, inr h) =
      (k, inr (sym (seconds a k).0 ∙ h.0, record { is-place = h.1.is-place; begins = h.1.begins ∙ dests a k; ends = h.1.ends ∙ origins a k }))

  -- one edge for one place
  one-edge : {f i f' i' a o : ℕ} → f' ≡ f → i' ≡ i → EdgeOf l t ne f i a → EdgeOf l t' ne f' i' o → o ≡ a
  one-edge {f} {i} {f'} {i'} {a} {o} p q x y =
      edge-once l t ne b (edge-in-both (subst (λ i. EdgeOf l t' ne f i o) q (subst (λ f. EdgeOf l t' ne f i' o) p y))) x

  next-same : {f f' i i' : ℕ} → f' ≡ f → i' ≡ i → next_place (size l f') i' ≡ next_place (size l f) i
  next-same p q = ap₂ (λ (f i : ℕ). next_place (size l f) i) p q

  prev-same : {f f' i i' : ℕ} → f' ≡ f → i' ≡ i → prev_place (size l f') i' ≡ prev_place (size l f) i
  prev-same p q = ap₂ (λ (f i : ℕ). prev_place (size l f) i) p q

  edge_same : (e : ℕ) → e < ne → SameEdge t t' e
  edge_same e k =
      let f = sym (places_same e k).0 in
      let i = sym (places_same e k).1 in
      let s = seconds e k in
      record {
        origin-same = origins e k;
        dest-same = dests e k;
        left-same = f;
        right-same = s.0;
        left_cw-same = one-edge f (prev-same f i) (b.left-links e k).1 (b'.left-links e k).1;
        left_acw-same = one-edge f (next-same f i) (b.left-links e k).0 (b'.left-links e k).0;
        right_cw-same = one-edge s.0 (prev-same s.0 s.1) (b.second e k).2.1 (b'.second e k).2.1;
        right_acw-same = one-edge s.0 (next-same s.0 s.1) (b.second e k).2.0 (b'.second e k).2.0;
        interval-same = intervals e k;
      }

  -- ---- points

  touches-same : (p e : ℕ) → e < ne → one_if (touches t' p e) ≡ one_if (touches t p e)
  touches-same p e k = ap₂ (λ (i j : ℕ). one_if (eqb i p || eqb j p)) (origins e k) (dests e k)

  valence-same : (p : ℕ) → p < points_of l → valence t' p ≡ valence t p
  valence-same p h =
      b'.valence-is p h ∙ sum_to-cong ne (λ e. one_if (touches t' p e)) (λ e. one_if (touches t p e)) (touches-same p) ∙ sym (b.valence-is p h)

  touches-there : (p e : ℕ) → e < ne → Touches t p e → Touches t' p e
  touches-there p e k (inl h) = inl (origins e k ∙ h)
  touches-there p e k (inr h) = inr (dests e k ∙ h)

  touches-here : (p e : ℕ) → e < ne → Touches t' p e → Touches t p e
  touches-here p e k (inl h) = inl (sym (origins e k) ∙ h)
  touches-here p e k (inr h) = inr (sym (dests e k) ∙ h)

  start-same : (p : ℕ) → p < points_of l → start t' p ≡ start t p
  start-same p h =
      let s = b.start-touches p h in
      let s' = b'.start-touches p h in
      omega (
        arith,
        b'.start-highest p (start t p) h s.0 (touches-there p (start t p) s.0 s.1),
        b.start-highest p (start t' p) h s'.0 (touches-here p (start t' p) s'.0 s'.1),
      )

  mark-same : (p : ℕ) → p < points_of l → mark t' p ≡ mark t p
  mark-same p h = go (ℕ_discrete (valence t p) 4)
    where
      go : Dec (valence t p ≡ 4) → mark t' p ≡ mark t p
      go (yes z) = b'.ordinary p h (valence-same p h ∙ z) ∙ sym (b.ordinary p h z)
      go (no z) = b'.extraordinary p h (λ y. z (sym (valence-same p h) ∙ y)) ∙ sym (b.extraordinary p h z)

-- ---- every counted word

-- the word i of rows of three, of five, of eight words
module _ (P : ℕ → Type 0) where
  of_three : (p : ℕ) → P (p * 3) → P (p * 3 + 1) → P (p * 3 + 2) → (j : ℕ) → j < 3 → P (p * 3 + j)
  of_three p a b c zero h = subst P (let z : p * 3 ≡ p * 3 + 0 = omega arith in z) a
  of_three p a b c (suc zero) h = b
  of_three p a b c (suc (suc zero)) h = c
  of_three p a b c (suc (suc (suc j))) h = absurd (omega arith)

  of-five : (p : ℕ) → P (p * 5) → ((j : ℕ) → j < 4 → P (p * 5 + (j + 1))) → (j : ℕ) → j < 5 → P (p * 5 + j)
  of-five p a b zero h = subst P (let z : p * 5 ≡ p * 5 + 0 = omega arith in z) a
  of-five p a b (suc j) h = subst P (let z : p * 5 + (j + 1) ≡ p * 5 + suc j = omega arith in z) (b j (omega arith))

  of-eight :
      (p : ℕ) → P (p * 8) → P (p * 8 + 1) → P (p * 8 + 2) → P (p * 8 + 3) → P (p * 8 + 4) → P (p * 8 + 5) → P (p * 8 + 6) → P (p * 8 + 7) →
      (j : ℕ) → j < 8 → P (p * 8 + j)
  of-eight p a b c d e f g h zero z = subst P (let z : p * 8 ≡ p * 8 + 0 = omega arith in z) a
  of-eight p a b c d e f g h (suc zero) z = b
  of-eight p a b c d e f g h (suc (suc zero)) z = c
  of-eight p a b c d e f g h (suc (suc (suc zero))) z = d
  of-eight p a b c d e f g h (suc (suc (suc (suc zero)))) z = e
  of-eight p a b c d e f g h (suc (suc (suc (suc (suc zero))))) z = f
  of-eight p a b c d e f g h (suc (suc (suc (suc (suc (suc zero)))))) z = g
  of-eight p a b c d e f g h (suc (suc (suc (suc (suc (suc (suc zero))))))) z = h
  of-eight p a b c d e f g h (suc (suc (suc (suc (suc (suc (suc (suc j)))))))) z = absurd (omega arith)

-- the same row, the same words
edge-of-row : (t t' : Mesh) (e : ℕ) → row t' e ≡ row t e → SameEdge t t' e
edge-of-row t t' e h =
    record {
      origin-same = ap (λ (r : TnurccEdge). r.origin) h;
      dest-same = ap (λ (r : TnurccEdge). r.dest) h;
      left-same = ap (λ (r : TnurccEdge). r.face_left) h;
      right-same = ap (λ (r : TnurccEdge). r.face_right) h;
      left_cw-same = ap (λ (r : TnurccEdge). get_or r.connections 0 0) h;
      left_acw-same = ap (λ (r : TnurccEdge). get_or r.connections 1 0) h;
      right_cw-same = ap (λ (r : TnurccEdge). get_or r.connections 2 0) h;
      right_acw-same = ap (λ (r : TnurccEdge). get_or r.connections 3 0) h;
      interval-same = ap (λ (r : TnurccEdge). r.knot_interval) h;
    }

module _ (l : Lists) (t t' : Mesh) (ne : ℕ) (b : Builds l t ne) (b' : Builds l t' ne)
    (one_way : (f i g j p q : ℕ) → Runs l f i p q → Runs l g j p q → (f ≡ g) × (i ≡ j))
    (beyond : (e : ℕ) → ne ≤ e → e < length l.listed → row t' e ≡ row t e) where
  every-edge : (e : ℕ) → e < length l.listed → SameEdge t t' e
  every-edge e h = go (dec_lt e ne)
    where
      go : Dec (e < ne) → SameEdge t t' e
      go (yes k) = edge_same l t t' ne b b' one_way e k
      go (no k) = edge-of-row t t' e (beyond e (omega arith) h)

  builds-same : SameCounted l t t'
  builds-same =
      record {
        positions = λ i h. b'.position i (omega arith) ∙ sym (b.position i (omega arith));
        points = λ i h. at3 i h;
        edges = λ i h. at8 i h;
        intervals = λ i h. (every-edge i h).interval-same;
        faces = λ i h. at5 i h;
      }
    where
      at3 : (i : ℕ) → i < points_of l * 3 → get_or t'.points i 0 ≡ get_or t.points i 0
      at3 i h =
          let p = i / 3 in
          let pb : p < points_of l = omega arith in
          subst (λ i. get_or t'.points i 0 ≡ get_or t.points i 0) (let z : p * 3 + i % 3 ≡ i = omega arith in z)
          (of_three (λ i. get_or t'.points i 0 ≡ get_or t.points i 0) p (valence-same l t t' ne b b' one_way p pb) (start-same l t t' ne b b' one_way p pb)
          (mark-same l t t' ne b b' one_way p pb) (i % 3) (omega arith))

      at5 : (i : ℕ) → i < faces_of l * 5 → get_or t'.faces i 0 ≡ get_or t.faces i 0
      at5 i h =
          let f = i / 5 in
          let fb : f < faces_of l = omega arith in
          subst (λ i. get_or t'.faces i 0 ≡ get_or t.faces i 0) (let z : f * 5 + i % 5 ≡ i = omega arith in z)
          (of-five (λ i. get_or t'.faces i 0 ≡ get_or t.faces i 0) f (one-edge l t t' ne b b' one_way refl refl (b.face-start f fb) (b'.face-start f fb))
          (λ j k. b'.no-corners f j fb k ∙ sym (b.no-corners f j fb k)) (i % 5) (omega arith))

      at8 : (i : ℕ) → i < length l.listed * 8 → get_or t'.edges i 0 ≡ get_or t.edges i 0
      at8 i h =
          let e = i / 8 in
          let s = every-edge e (omega arith) in
          subst (λ i. get_or t'.edges i 0 ≡ get_or t.edges i 0) (let z : e * 8 + i % 8 ≡ i = omega arith in z)
          (of-eight (λ i. get_or t'.edges i 0 ≡ get_or t.edges i 0) e s.origin-same s.dest-same s.left-same s.right-same s.left_cw-same
          s.left_acw-same s.right_cw-same s.right_acw-same (i % 8) (omega arith))

-- ---- the ground that is met first

few-same : (l : Lists) (m m' : Mesh) → SameNumbers m m' → HasFewRows l m → HasFewRows l m'
few-same l m m' s (few-points h) = few-points (omega (arith, s.points))
few-same l m m' s (few-faces h) = few-faces (omega (arith, s.faces))
few-same l m m' s (few-edges h) = few-edges (omega (arith, s.edges))

met-same : (c : Sizes) (l : Lists) (m m' : Mesh) → SameNumbers m m' → (w : Where) (g : Ground) → Met c l m w g → Met c l m' w g
met-same c l m m' s w g (over-counts h) = over-counts h
met-same c l m m' s w g (unfit-number h) = unfit-number h
met-same c l m m' s w g (few-rows h) = few-rows (few-same l m m' s h)
met-same c l m m' s w g (face-size f is h) = face-size f is h
met-same c l m m' s w g (out_of_range f i is h) = out_of_range f i is h
met-same c l m m' s w g (point-twice f i j is h k) = point-twice f i j is h k
met-same c l m m' s w g (first-point f k j two is b h d) = first-point f k j two is b h d
met-same c l m m' s w g (non-rectangular f is h) = non-rectangular f is h
met-same c l m m' s w g (triple-face f i g' j h k p q r a b x y z) = triple-face f i g' j h k p q r a b x y z
met-same c l m m' s w g (same_way f i g' j p q r t x) = same_way f i g' j p q r t x
met-same c l m m' s w g (missing-face h) = missing-face h
met-same c l m m' s w g (no_edge h) = no_edge h
met-same c l m m' s w g (missed-edge h) = missed-edge h

numbers-back : {m m' : Mesh} → SameNumbers m m' → SameNumbers m' m
numbers-back s = record { points = sym s.points; edges = sym s.edges; faces = sym s.faces }

-- a ground from 10 on
late : (g : Ground) → ◌≢◌ {A = Result Counts Ground} (Err g) (Err OverCounts) → ◌≢◌ {A = Result Counts Ground} (Err g) (Err UnfitNumber)
    → ◌≢◌ {A = Result Counts Ground} (Err g) (Err FewRows) → 10 ≤ ground_number g
late OverCounts a b c = absurd (a refl)
late UnfitNumber a b c = absurd (b refl)
late FewRows a b c = absurd (c refl)
late FaceSize a b c = omega arith
late OutOfRange a b c = omega arith
late PointTwice a b c = omega arith
late FirstPoint a b c = omega arith
late NonRectangularFace a b c = omega arith
late EdgeTripleFace a b c = omega arith
late SameWay a b c = omega arith
late MissingFace a b c = omega arith
late NoEdge a b c = omega arith
late MissedEdge a b c = omega arith

zeroed-same : (l : Lists) (m m' : Mesh) → SameCounted l (zeroed_rows (rows_of l) m) (zeroed_rows (rows_of l) m')
unfolding zeroed_rows
zeroed-same l m m' =
    record {
      positions = λ i h.
          get_or-zeroed (points_of l * 3) i (of_bits binary64 0) nan m'.positions h ∙ sym (get_or-zeroed (points_of l * 3) i (of_bits binary64 0) nan m.positions h);
      points = λ i h. get_or-zeroed (points_of l * 3) i 0 0 m'.points h ∙ sym (get_or-zeroed (points_of l * 3) i 0 0 m.points h);
      edges = λ i h. get_or-zeroed (length l.listed * 8) i 0 0 m'.edges h ∙ sym (get_or-zeroed (length l.listed * 8) i 0 0 m.edges h);
      intervals = λ i h.
          get_or-zeroed (length l.listed) i (of_bits binary64 0) nan m'.intervals h
          ∙ sym (get_or-zeroed (length l.listed) i (of_bits binary64 0) nan m.intervals h);
      faces = λ i h. get_or-zeroed (faces_of l * 5) i 0 0 m'.faces h ∙ sym (get_or-zeroed (faces_of l * 5) i 0 0 m.faces h);
    }

module _ (c : Sizes) (l : Lists) (m m' : Mesh) (few : c.faces ≤ none) (s : SameNumbers m m') where
  nothing-met : (k : Counts) → (build c l m).answer ≡ Ok k → (w : Where) (g : Ground) → ¬ Met c l m w g
  nothing-met k e w g h = (accepts-exactly c l m few).0 (k, e) g (w, h)

  accepts-too : (k : Counts) → (build c l m).answer ≡ Ok k → (k' : Counts) × ((build c l m').answer ≡ Ok k')
  accepts-too k e = (accepts-exactly c l m' few).1 (λ g h. nothing-met k e h.0 g (met-same c l m' m (numbers-back s) h.0 g h.1))

  counts_same : (k k' : Counts) → (build c l m).answer ≡ Ok k → (build c l m').answer ≡ Ok k' → k' ≡ k
  counts_same k k' e e' =
      let a = accepted-audited c l m few k e in
      let a' = accepted-audited c l m' few k' e' in
      let edges : k'.edges ≡ k.edges = omega (arith, a.half-listed, a'.half-listed) in
      counts k k' (a'.all-points ∙ sym a.all-points) edges (a'.all-faces ∙ sym a.all-faces)
    where
      counts : (k k' : Counts) → k'.points ≡ k.points → k'.edges ≡ k.edges → k'.faces ≡ k.faces → k' ≡ k
      counts k k' x y z =
          let e : ◌≡◌ {A = Counts} (record { points = k'.points; edges = k'.edges; faces = k'.faces }) (record { points = k.points; edges = k.edges; faces = k.faces })
          = rw (x, y, z) in
          e

  first-same : (g : Ground) → (build c l m).answer ≡ Err g → (build c l m').answer ≡ Err g
  first-same g e =
      let w = (first-ground c l m few g).0 e in
      (first-ground c l m' few g).1 (
        w.0,
        record {
          met = met-same c l m m' s w.0 g w.1.met;
          none_before = λ w' g' b h. w.1.none_before w' g' b (met-same c l m' m (numbers-back s) w' g' h);
        },
      )

  accepted-same : (k : Counts) → (build c l m).answer ≡ Ok k → (build c l m').answer ≡ Ok k
  accepted-same k e = let w = accepts-too k e in w.1 ∙ ap Ok (counts_same k w.0 e w.1)

  -- no two places of accepted lists run the same way
  one_way : (k : Counts) → (build c l m).answer ≡ Ok k → (f i g j p q : ℕ) → Runs l f i p q → Runs l g j p q → (f ≡ g) × (i ≡ j)
  one_way k e f i g j p q r t =
      earlier-or f i g j (λ z. absurd (nothing-met k e (edge g j) SameWay (same_way g j f i p q t r z))) (λ z. z)
      (λ z. absurd (nothing-met k e (edge f i) SameWay (same_way f i g j p q r t z)))

  pub shows_nothing : ShowsNothing c l m m'
  shows_nothing = go (build c l m).answer refl
    where
      go : (a : Result Counts Ground) → (build c l m).answer ≡ a → ShowsNothing c l m m'
      go (Err g) e =
          record {
            answer = first-same g e ∙ sym e;
            rows = λ a b d.
                let n = late g (λ z. a (e ∙ z)) (λ z. b (e ∙ z)) (λ z. d (e ∙ z)) in
                subst (λ t. SameCounted l t (build c l m').tables) (sym ((refusals-hold c l m few g e).zeroed n))
                (subst (λ t. SameCounted l (zeroed_rows (rows_of l) m) t) (sym ((refusals-hold c l m' few g (first-same g e)).zeroed n)) (zeroed-same l m m'));
          }
      go (Ok k) e =
          let e' = accepted-same k e in
          let a = accepted-audited c l m few k e in
          let a' = accepted-audited c l m' few k e' in
          record {
            answer = e' ∙ sym e;
            rows = λ x y z.
                builds-same l (build c l m).tables (build c l m').tables k.edges (accepted-builds c l m few k e) (accepted-builds c l m' few k e') (one_way k e)
                (λ o h b. a'.zero-beyond o h b ∙ sym (a.zero-beyond o h b));
          }

pub lent-content : LentContent
lent-content = shows_nothing
