-- The grounds of the whole told by places, where nothing is met in the faces. Assumes nothing.
--     missing-of, none-missing      `edges_shared` is that 20 is not met
--     bare_of, none_bare            `points_begun` is that 21 is not met
--     missed-of, none-missed        `turns_come` is that 22 is not met, where 20 is not
use mathlib.Core.Path.{◌≡◌, refl, sym, ◌∙◌, ap, subst}
use mathlib.Core.Bool.{Bool, true, false, not, false≢true}
use mathlib.Core.Logic.{◌⊎◌, inl, inr, ◌≢◌}
use mathlib.Core.List.{List}
use Prim.Native.Nat.{ℕ, zero, suc, ◌+◌, ◌-◌, ◌≤◌, ◌<◌}
use native.Mathlib.Omega.{arith}
use native.Mathlib.Decide.{ℕ_discrete, dec_lt}
use lib.Dec.{eqb}
use lib.ListN.{length, get_or}
use borrow.Author.Tests.{eqb-true, eq-eqb}
use Rattle.perimeters.specs.Places.{next_place, prev_place}
use Rattle.perimeters.proofs.Laws.{next-below, next-differs, next-prev, next-injective, prev-below}
use Rattle.tables.specs.declared.Sizes.{Sizes}
use Rattle.tables.specs.Mesh.{Mesh}
use Rattle.audited_meshes.specs.Folds.{every}
use Rattle.audited_meshes.proofs.Tests.{self-is, and_is, eqb_is, every-is}
use Rattle.built_meshes.specs.Lists.{Lists, points_of, faces_of, size, offset}
use Rattle.built_meshes.specs.Places.{point_of, next_of, IsPlace, Runs, Between, Differ, Earlier}
use Rattle.built_meshes.specs.Grounds.{HasMissingFace, HasNoEdge, HasMissedEdge, Turns, Chain, here, further}
use Rattle.built_meshes.proofs.Before.{ClearLists}
use Rattle.built_meshes.proofs.Versions.{every-false}
use Rattle.mended_lists.specs.Edges.{FacePlace, listed_place, places_of, place_at, same_edge, latest, mate, third, follower, lone}
use Rattle.mended_lists.specs.Mending.{edges_shared}
use Rattle.mended_lists.proofs.Reversal.{eqb-false}
use Rattle.mended_lists.proofs.InTurn.{get_or-in_turn}
use Rattle.mended_lists.proofs.Edges.{latest-none, latest-last, edge-is, mate-last, mate-found, places-at, places-length, number-below, number-face, number-place, Numbered, numbered}
use Rattle.mended_lists.proofs.Passed.{OnEdge, on-at, on_below, on_same, on-also, on-mate, three, same_back, passed-paired}
use Rattle.refusal_places.proofs.Edges.{earlier-of, triple-of}
use Rattle.refusal_places.proofs.Theorem.{SoFar}
use Rattle.whole_grounds.specs.Turning.{linked_to, partner, nexts_of, turn_from, start_at, comes, points_begun, comes_back, turns_come}
use Rattle.whole_grounds.proofs.Steps.{iter, iter-add, iter-more, comes-to, to-comes, short-way, back_from}

module _ (c : Sizes) (l : Lists) (m : Mesh) (clear : ClearLists c l m) (far : SoFar c l m clear (faces_of l)) where
  abbrev ps : List FacePlace
  ps = places_of l

  abbrev N : ℕ
  N = length (places_of l)

  abbrev from_of : ℕ → ℕ
  from_of k = (place_at (places_of l) k).from

  abbrev to_of : ℕ → ℕ
  to_of k = (place_at (places_of l) k).to

  -- ---- places by their numbers

  runs-at : (k : ℕ) (u : Numbered l k) → Runs l u.face u.place (from_of k) (to_of k)
  runs-at k u =
      record {
        is-place = u.is-place;
        begins = sym (ap (λ (x : FacePlace). x.from) u.at);
        ends = sym (ap (λ (x : FacePlace). x.to) u.at);
      }

  on-it : (k : ℕ) → k < N → OnEdge l (from_of k) (to_of k) k
  on-it k b = let u = numbered l k b in record { face = u.face; place = u.place; between = inl (runs-at k u); number = u.number }

  from_at : (f i : ℕ) → IsPlace l f i → from_of (offset l f + i) ≡ point_of l f i
  from_at f i is = ap (λ (x : FacePlace). x.from) (places-at l f i is)

  to_at : (f i : ℕ) → IsPlace l f i → to_of (offset l f + i) ≡ next_of l f i
  to_at f i is = ap (λ (x : FacePlace). x.to) (places-at l f i is)

  -- no place runs from a point to itself
  no_loop : (k : ℕ) → k < N → from_of k ≢ to_of k
  no_loop k b e =
      let u = numbered l k b in
      let r = runs-at k u in
      let f = u.face in
      let i = u.place in
      let t = far.tested f u.is-place.0 14 in
      next-differs (size l f) i (omega (arith, (t.sizes (omega arith)).0)) u.is-place.1
      (t.once (omega arith) (next_place (size l f) i) i (next-below (size l f) i u.is-place.1) u.is-place.1
      (r.ends ∙ sym e ∙ sym r.begins))

  -- no two places run the same way
  earlier-same : (j k : ℕ) → j < k → k < N → from_of j ≡ from_of k → to_of j ≡ to_of k → ⊥
  earlier-same j k h b x y =
      let u = numbered l j (omega (arith, b)) in
      let w = numbered l k b in
      let r = runs-at j u in
      (far.entered w.face w.place w.is-place w.is-place.0).1 (
        u.face,
        u.place,
        from_of k,
        to_of k,
        runs-at k w,
        record { is-place = u.is-place; begins = r.begins ∙ x; ends = r.ends ∙ y },
        earlier-of l u.face u.place w.face w.place u.is-place w.is-place (omega (arith, u.number, w.number)),
      )

  one_way : (j k : ℕ) → j < N → k < N → from_of j ≡ from_of k → to_of j ≡ to_of k → j ≡ k
  one_way j k a b x y = go (dec_lt j k) (dec_lt k j)
    where
      go : Dec (j < k) → Dec (k < j) → j ≡ k
      go (yes h) d = absurd (earlier-same j k h b x y)
      go (no h) (yes d) = absurd (earlier-same k j d a (sym x) (sym y))
      go (no h) (no d) = omega arith

  not_third : (k : ℕ) → k < N → third ps k ≡ true → ⊥
  not_third k b h =
      let u = numbered l k b in
      (far.entered u.face u.place u.is-place u.is-place.0).0
      (triple-of l u.face u.place u.is-place (ap (third ps) u.number ∙ h))

  -- another place on the edge runs back
  runs-back : (j k : ℕ) → j < N → k < N → j ≢ k → same_edge (place_at ps j) (place_at ps k) ≡ true → (from_of j ≡ to_of k) × (to_of j ≡ from_of k)
  runs-back j k a b d e = go ((edge-is (place_at ps j) (place_at ps k)).0 e)
    where
      go :
          ((from_of j ≡ from_of k) × (to_of j ≡ to_of k)) ⊎ ((from_of j ≡ to_of k) × (to_of j ≡ from_of k)) →
          (from_of j ≡ to_of k) × (to_of j ≡ from_of k)
      go (inl (x, y)) = absurd (d (one_way j k a b x y))
      go (inr h) = h

  -- ---- 20

  back-runs : (j k : ℕ) → from_of j ≡ to_of k → to_of j ≡ from_of k → same_edge (place_at ps j) (place_at ps k) ≡ true
  back-runs j k x y = (edge-is (place_at ps j) (place_at ps k)).1 (inr (x, y))

  -- a place that runs back has the place as its mate, or is its mate
  partnered : (j k : ℕ) → j < N → k < N → from_of j ≡ to_of k → to_of j ≡ from_of k → (mate ps k ≡ suc j) ⊎ (mate ps j ≡ suc k)
  partnered j k a b x y = go (dec_lt j k) (dec_lt k j)
    where
      go : Dec (j < k) → Dec (k < j) → (mate ps k ≡ suc j) ⊎ (mate ps j ≡ suc k)
      go (yes h) d = this (mate-found ps k j h (back-runs j k x y))
        where
          this : (n : ℕ) × (mate ps k ≡ suc n) × (j ≤ n) → (mate ps k ≡ suc j) ⊎ (mate ps j ≡ suc k)
          this (n, e, le) = equal (ℕ_discrete j n)
            where
              equal : Dec (j ≡ n) → (mate ps k ≡ suc j) ⊎ (mate ps j ≡ suc k)
              equal (yes q) = inl (rw q e)
              equal (no q) =
                  absurd
                  (not_third k b
                  (three l (from_of k) (to_of k) j n k (omega arith) (mate-last ps k n e).in-range
                  (on-also l (from_of k) (to_of k) j k (on-it k b) a (back-runs j k x y)) (on-mate l (from_of k) (to_of k) n k (on-it k b) e)
                  (on-it k b)))
      go (no h) (yes d) = this (mate-found ps j k d (same_back (place_at ps j) (place_at ps k) (back-runs j k x y)))
        where
          this : (n : ℕ) × (mate ps j ≡ suc n) × (k ≤ n) → (mate ps k ≡ suc j) ⊎ (mate ps j ≡ suc k)
          this (n, e, le) = equal (ℕ_discrete k n)
            where
              equal : Dec (k ≡ n) → (mate ps k ≡ suc j) ⊎ (mate ps j ≡ suc k)
              equal (yes q) = inr (rw q e)
              equal (no q) =
                  absurd
                  (not_third j a
                  (three l (from_of j) (to_of j) k n j (omega arith) (mate-last ps j n e).in-range
                  (on-also l (from_of j) (to_of j) k j (on-it j a) b (same_back (place_at ps j) (place_at ps k) (back-runs j k x y)))
                  (on-mate l (from_of j) (to_of j) n j (on-it j a) e) (on-it j a)))
      go (no h) (no d) = let q : j ≡ k = omega arith in absurd (no_loop k b (sym (ap from_of q) ∙ x))

  pub missing-of : edges_shared ps ≡ false → HasMissingFace l
  unfolding edges_shared lone follower
  missing-of h = go (every-false N (λ k. not (lone ps k)) h)
    where
      lone_is : (t : Bool) → not t ≡ false → t ≡ true
      lone_is true e = refl
      lone_is false e = absurd (false≢true (sym e))

      go : (k : ℕ) × (k < N) × (not (lone ps k) ≡ false) → HasMissingFace l
      go (k, b, e) =
          let u = numbered l k b in
          let both = (and_is (eqb_is (mate ps k) 0) (eqb_is (follower ps N k) 0)).0 (lone_is (lone ps k) e) in
          record {
            p = from_of k;
            q = to_of k;
            f = u.face;
            i = u.place;
            runs = runs-at k u;
            none-back = λ g j r. none g j r both.0 both.1;
          }
        where
          none : (g j : ℕ) → Runs l g j (to_of k) (from_of k) → mate ps k ≡ 0 → follower ps N k ≡ 0 → ⊥
          none g j r x y =
              this
              (partnered (offset l g + j) k (number-below l g j r.is-place) b (from_at g j r.is-place ∙ r.begins)
              (to_at g j r.is-place ∙ r.ends))
            where
              differ : (n : ℕ) → 0 ≡ suc n → ⊥
              differ n z = omega arith

              this : (mate ps k ≡ suc (offset l g + j)) ⊎ (mate ps (offset l g + j) ≡ suc k) → ⊥
              this (inl e) = differ (offset l g + j) (sym x ∙ e)
              this (inr e) =
                  false≢true
                  (sym (latest-none (λ i. eqb (mate ps i) (suc k)) N y (offset l g + j) (number-below l g j r.is-place))
                  ∙ eq-eqb (mate ps (offset l g + j)) (suc k) e)

  pub none-missing : edges_shared ps ≡ true → ¬ HasMissingFace l
  none-missing h w = go (passed-paired l h w.f w.i w.p w.q w.runs)
    where
      this : Runs l w.f w.i w.p w.q
      this = w.runs

      go : (g : ℕ) × (j : ℕ) × Differ w.f w.i g j × Between l g j w.p w.q → ⊥
      go (g, j, d, inr r) = w.none-back g j r
      go (g, j, d, inl r) =
          let e : offset l w.f + w.i ≡ offset l g + j =
          one_way (offset l w.f + w.i) (offset l g + j) (number-below l w.f w.i this.is-place) (number-below l g j r.is-place)
          (from_at w.f w.i this.is-place ∙ this.begins ∙ sym r.begins ∙ sym (from_at g j r.is-place))
          (to_at w.f w.i this.is-place ∙ this.ends ∙ sym r.ends ∙ sym (to_at g j r.is-place)) in
          d (
            number-face l w.f w.i g j this.is-place r.is-place e,
            number-place l w.f w.i g j this.is-place r.is-place e,
          )

  -- ---- 21

  start_is : (p k : ℕ) → start_at ps p ≡ suc k → (k < N) × (from_of k ≡ p)
  unfolding start_at
  start_is p k e =
      let w = latest-last (λ k. eqb (from_of k) p) N k e in (w.in-range, eqb-true (from_of k) p w.passes)

  pub bare_of : points_begun l ≡ false → HasNoEdge l
  unfolding points_begun start_at
  bare_of h = go (every-false (points_of l) (λ p. not (eqb (start_at ps p) 0)) h)
    where
      zero_is : (n : ℕ) → not (eqb n 0) ≡ false → n ≡ 0
      zero_is zero e = refl
      zero_is (suc n) e = absurd (false≢true (sym e ∙ ap not (eqb-false (suc n) 0 (λ z. omega arith))))

      go : (p : ℕ) × (p < points_of l) × (not (eqb (start_at ps p) 0) ≡ false) → HasNoEdge l
      go (p, b, e) =
          record {
            point = p;
            is-point = b;
            none-begins =
                λ f i is q.
                false≢true
                (sym (latest-none (λ k. eqb (from_of k) p) N (zero_is (start_at ps p) e) (offset l f + i) (number-below l f i is))
                ∙ eq-eqb (from_of (offset l f + i)) p (from_at f i is ∙ q));
          }

  some : (n : ℕ) → not (eqb n 0) ≡ true → (k : ℕ) × (n ≡ suc k)
  some zero h = absurd (false≢true h)
  some (suc k) h = (k, refl)

  pub none_bare : points_begun l ≡ true → ¬ HasNoEdge l
  unfolding points_begun
  none_bare h w = go (some (start_at ps w.point) ((every-is (points_of l) (λ p. self-is (not (eqb (start_at ps p) 0)))).0 h w.point w.is-point))
    where
      go : (k : ℕ) × (start_at ps w.point ≡ suc k) → ⊥
      go (k, e) =
          let s = start_is w.point k e in
          let u = numbered l k s.0 in
          w.none-begins u.face u.place u.is-place ((runs-at k u).begins ∙ s.1)

  -- ---- 22, where 20 is not met

  module _ (shared : edges_shared ps ≡ true) where
    -- the partner runs back
    pub partner-is : (k : ℕ) → k < N → (partner ps k < N) × (from_of (partner ps k) ≡ to_of k) × (to_of (partner ps k) ≡ from_of k)
    unfolding partner follower
    partner-is k b = go (mate ps k) refl (follower ps N k) refl
      where
        lone-not : mate ps k ≡ 0 → follower ps N k ≡ 0 → ⊥
        lone-not x y =
            let u = numbered l k b in
            none-missing shared
            (record {
              p = from_of k;
              q = to_of k;
              f = u.face;
              i = u.place;
              runs = runs-at k u;
              none-back =
                  λ g j r.
                  this g j r
                  (partnered (offset l g + j) k (number-below l g j r.is-place) b (from_at g j r.is-place ∙ r.begins)
                  (to_at g j r.is-place ∙ r.ends));
            })
          where
            differ : (n : ℕ) → 0 ≡ suc n → ⊥
            differ n z = omega arith

            this : (g j : ℕ) → Runs l g j (to_of k) (from_of k) → (mate ps k ≡ suc (offset l g + j)) ⊎ (mate ps (offset l g + j) ≡ suc k) → ⊥
            this g j r (inl e) = differ (offset l g + j) (sym x ∙ e)
            this g j r (inr e) =
                false≢true
                (sym (latest-none (λ i. eqb (mate ps i) (suc k)) N y (offset l g + j) (number-below l g j r.is-place))
                ∙ eq-eqb (mate ps (offset l g + j)) (suc k) e)

        go :
            (x : ℕ) → mate ps k ≡ x → (y : ℕ) → follower ps N k ≡ y →
            (linked_to x y < N) × (from_of (linked_to x y) ≡ to_of k) × (to_of (linked_to x y) ≡ from_of k)
        go zero e zero q = absurd (lone-not e q)
        go zero e (suc j) q =
            let w = latest-last (λ i. eqb (mate ps i) (suc k)) N j q in
            let v = mate-last ps j k (eqb-true (mate ps j) (suc k) w.passes) in
            let r = runs-back k j b w.in-range (λ z. omega (arith, v.in-range)) v.passes in
            (w.in-range, sym r.1, sym r.0)
        go (suc j) e y q =
            let v = mate-last ps k j e in
            let less : j < N = omega (arith, v.in-range) in
            let r = runs-back j k less b (λ z. omega (arith, v.in-range)) v.passes in
            (less, r.0, r.1)

    -- turning from place k leads to place i of face f, and back from there
    pub record Turned (k : ℕ) : Type 0 where
      pub face : ℕ
      pub place : ℕ
      pub is-place : IsPlace l face place
      pub number : turn_from l k ≡ offset l face + place
      pub from-prev : point_of l face (prev_place (size l face) place) ≡ to_of k
      pub from-same : point_of l face place ≡ from_of k

    nexts-at : (f i : ℕ) → IsPlace l f i → get_or (nexts_of l) (offset l f + i) 0 ≡ offset l f + next_place (size l f) i
    unfolding nexts_of offset
    nexts-at f i (a, b) = get_or-in_turn (faces_of l) (λ f. size l f) (λ f i. offset l f + next_place (size l f) i) f i 0 a b

    prev-next : (n i : ℕ) → i < n → prev_place n (next_place n i) ≡ i
    prev-next n i b =
        next-injective n (prev_place n (next_place n i)) i (prev-below n (next_place n i) (next-below n i b)) b
        (next-prev n (next_place n i) (next-below n i b))

    pub turned : (k : ℕ) → k < N → Turned k
    unfolding turn_from
    turned k b =
        let q = partner-is k b in
        let u = numbered l (partner ps k) q.0 in
        let r = runs-at (partner ps k) u in
        let f = u.face in
        let i = u.place in
        record {
          face = f;
          place = next_place (size l f) i;
          is-place = (u.is-place.0, next-below (size l f) i u.is-place.1);
          number = ap (λ (x : ℕ). get_or (nexts_of l) x 0) (sym u.number) ∙ nexts-at f i u.is-place;
          from-prev = ap (point_of l f) (prev-next (size l f) i u.is-place.1) ∙ r.begins ∙ q.1;
          from-same = r.ends ∙ q.2;
        }

    turn_below : (k : ℕ) → k < N → turn_from l k < N
    turn_below k b = let t = turned k b in rw t.number (number-below l t.face t.place t.is-place)

    turn-shares : (j k : ℕ) → j < N → k < N → turn_from l j ≡ turn_from l k → j ≡ k
    turn-shares j k a b e =
        let t = turned j a in
        let w = turned k b in
        let q : offset l t.face + t.place ≡ offset l w.face + w.place = sym t.number ∙ e ∙ w.number in
        let ef : t.face ≡ w.face = number-face l t.face t.place w.face w.place t.is-place w.is-place q in
        let ei : t.place ≡ w.place = number-place l t.face t.place w.face w.place t.is-place w.is-place q in
        let same : (f g i j : ℕ) → f ≡ g → i ≡ j → point_of l f (prev_place (size l f) i) ≡ point_of l g (prev_place (size l g) j) = λ f g i j x y. rw (x, y) in
        one_way j k a b
        (sym t.from-same ∙ ap (λ (x : ℕ). point_of l x t.place) ef ∙ ap (point_of l w.face) ei ∙ w.from-same)
        (sym t.from-prev ∙ same t.face w.face t.place w.place ef ei ∙ w.from-prev)

    -- ---- chains are turns the other way

    -- the place by its number
    Chain-to : ℕ → ℕ → Type 0
    Chain-to x y = (f i g j : ℕ) → IsPlace l f i → IsPlace l g j → offset l f + i ≡ x → offset l g + j ≡ y → Chain l f i g j

    turn-chain : (k : ℕ) → k < N → Chain-to (turn_from l k) k
    unfolding Chain-to
    turn-chain k b f i g j p q e h =
        let t = turned k b in
        let n : offset l f + i ≡ offset l t.face + t.place = e ∙ t.number in
        let ef : f ≡ t.face = number-face l f i t.face t.place p t.is-place n in
        let ei : i ≡ t.place = number-place l f i t.face t.place p t.is-place n in
        let prev : (f g i j : ℕ) → f ≡ g → i ≡ j → point_of l f (prev_place (size l f) i) ≡ point_of l g (prev_place (size l g) j) = λ f g i j x y. rw (x, y) in
        further here
        (record {
          is-place = q;
          begins =
              sym (from_at g j q) ∙ ap from_of h ∙ sym t.from-same
              ∙ sym (ap (λ (x : ℕ). point_of l x i) ef ∙ ap (point_of l t.face) ei);
          ends = sym (to_at g j q) ∙ ap to_of h ∙ sym t.from-prev ∙ sym (prev f t.face i t.place ef ei);
        })

    chain-on : {f i g j h k : ℕ} → Chain l f i g j → Chain l g j h k → Chain l f i h k
    chain-on a here = a
    chain-on a (further b t) = further (chain-on a b) t

    -- a steps from y lead to x: then a chain joins x to y
    iter-chain : (a y x : ℕ) → y < N → iter (turn_from l) a y ≡ x → Chain-to x y
    unfolding Chain-to
    iter-chain zero y x b e f i g j p q u w = same f g i j ef ei
      where
        n : offset l f + i ≡ offset l g + j
        n = u ∙ sym e ∙ sym w

        ef : f ≡ g
        ef = number-face l f i g j p q n

        ei : i ≡ j
        ei = number-place l f i g j p q n

        same : (f g i j : ℕ) → f ≡ g → i ≡ j → Chain l f i g j
        same f g i j x y = subst (λ g. Chain l f i g j) x (subst (λ j. Chain l f i f j) y here)
    iter-chain (suc a) y x b e f i g j p q u w =
        let t = turned y b in
        chain-on
        (iter-chain a (turn_from l y) x (turn_below y b) e f i t.face t.place p t.is-place u (sym t.number))
        (turn-chain y b t.face t.place g j t.is-place q (sym t.number) w)

    -- what a place turns to, it is turned from
    turns-from : (f i g j : ℕ) → IsPlace l f i → Turns l f i g j → turn_from l (offset l g + j) ≡ offset l f + i
    unfolding turn_from
    turns-from f i g j is r =
        let k = offset l g + j in
        let b : k < N = number-below l g j r.is-place in
        let i' = prev_place (size l f) i in
        let is' : IsPlace l f i' = (is.0, prev-below (size l f) i is.1) in
        let q = partner-is k b in
        let e : partner ps k ≡ offset l f + i' =
        one_way (partner ps k) (offset l f + i') q.0 (number-below l f i' is')
        (q.1 ∙ to_at g j r.is-place ∙ r.ends ∙ sym (from_at f i' is'))
        (q.2 ∙ from_at g j r.is-place ∙ r.begins ∙ sym (ap (point_of l f) (next-prev (size l f) i is.1)) ∙ sym (to_at f i' is')) in
        ap (λ (x : ℕ). get_or (nexts_of l) x 0) e ∙ nexts-at f i' is' ∙ ap (λ (x : ℕ). offset l f + x) (next-prev (size l f) i is.1)

    chain-iter : (f i g j : ℕ) → IsPlace l f i → Chain l f i g j → (a : ℕ) × IsPlace l g j × (iter (turn_from l) a (offset l g + j) ≡ offset l f + i)
    chain-iter f i g j is here = (0, is, refl)
    chain-iter f i g j is (further {g = g'} {j = j'} ch t) = go (chain-iter f i g' j' is ch)
      where
        go :
            (a : ℕ) × IsPlace l g' j' × (iter (turn_from l) a (offset l g' + j') ≡ offset l f + i) →
            (a : ℕ) × IsPlace l g j × (iter (turn_from l) a (offset l g + j) ≡ offset l f + i)
        go (a, is', e) = (suc a, t.is-place, ap (iter (turn_from l) a) (turns-from g' j' g j is' t) ∙ e)

    -- ---- both ways

    started : (k : ℕ) → k < N → (s : ℕ) × (start_at ps (from_of k) ≡ suc s) × (s < N) × (from_of s ≡ from_of k)
    unfolding start_at
    started k b = go (start_at ps (from_of k)) refl
      where
        go : (n : ℕ) → start_at ps (from_of k) ≡ n → (s : ℕ) × (start_at ps (from_of k) ≡ suc s) × (s < N) × (from_of s ≡ from_of k)
        go zero e =
            absurd
            (false≢true (sym (latest-none (λ j. eqb (from_of j) (from_of k)) N e k b) ∙ eq-eqb (from_of k) (from_of k) refl))
        go (suc s) e = let w = start_is (from_of k) s e in (s, e, w.0, w.1)

    pub missed-of : turns_come l ≡ false → HasMissedEdge l
    unfolding turns_come
    missed-of h = go (every-false N (λ k. comes_back l k) h)
      where
        go : (k : ℕ) × (k < N) × (comes_back l k ≡ false) → HasMissedEdge l
        go (k, b, e) =
            let st = started k b in
            let s = st.0 in
            let u = numbered l s st.2 in
            let w = numbered l k b in
            record {
              f = u.face;
              i = u.place;
              g = w.face;
              j = w.place;
              first-place = u.is-place;
              second-place = w.is-place;
              same_point = (runs-at k w).begins ∙ sym st.3 ∙ sym (runs-at s u).begins;
              apart = λ ch. apart s st.1 u w (chain-iter u.face u.place w.face w.place u.is-place ch);
            }
          where
            apart :
                (s : ℕ) → start_at ps (from_of k) ≡ suc s → (u : Numbered l s) (w : Numbered l k) →
                (a : ℕ) × IsPlace l w.face w.place × (iter (turn_from l) a (offset l w.face + w.place) ≡ offset l u.face + u.place) → ⊥
            apart s q u w (a, is, r) =
                let r' : iter (turn_from l) a k ≡ s = sym (ap (iter (turn_from l) a) w.number) ∙ r ∙ u.number in
                let short = short-way (turn_from l) N turn_below turn-shares k s b a r' in
                let z : start_at ps (from_of k) - 1 ≡ s = ap (λ (x : ℕ). x - 1) q ∙ omega arith in
                false≢true (sym e ∙ to-comes (turn_from l) N k (start_at ps (from_of k) - 1) short.0 short.1 (short.2 ∙ sym z))

    pub none-missed : turns_come l ≡ true → ¬ HasMissedEdge l
    unfolding turns_come Chain-to
    none-missed h w = w.apart (iter-chain way.0 y x by way.1 w.f w.i w.g w.j w.first-place w.second-place refl refl)
      where
        x : ℕ
        x = offset l w.f + w.i

        y : ℕ
        y = offset l w.g + w.j

        bx : x < N
        bx = number-below l w.f w.i w.first-place

        by : y < N
        by = number-below l w.g w.j w.second-place

        to_start : (k : ℕ) → k < N → (a : ℕ) × (a ≤ N) × (iter (turn_from l) a k ≡ start_at ps (from_of k) - 1)
        to_start k b = comes-to (turn_from l) N k (start_at ps (from_of k) - 1) ((every-is N (λ k. self-is (comes_back l k))).0 h k b)

        same : from_of y ≡ from_of x
        same = from_at w.g w.j w.second-place ∙ w.same_point ∙ sym (from_at w.f w.i w.first-place)

        way : (a : ℕ) × (iter (turn_from l) a y ≡ x)
        way =
            let p = to_start x bx in
            let q = to_start y by in
            let e : iter (turn_from l) q.0 y ≡ start_at ps (from_of x) - 1 = q.2 ∙ ap (λ (v : ℕ). start_at ps v - 1) same in
            let back = back_from (turn_from l) N turn_below turn-shares p.0 x (start_at ps (from_of x) - 1) bx p.2 in
            (q.0 + back.0, iter-add (turn_from l) q.0 back.0 y ∙ ap (iter (turn_from l) back.0) e ∙ back.1)
