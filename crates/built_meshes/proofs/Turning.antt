-- Ground 22 is said of the lists: the walk about a point, from its start edge, passes all edges at the point exactly if chains of places
-- that run back the one before join all places that begin there. Assumes nothing.
--     spread                  what a step keeps holds of all that a walk passes, if of one of them
--     never-lost              a walk by a step that no two edges share comes back within their number
--     turn-place, turn-sits   the step about a point, and the place that runs back the one before
--     missed-met, no-missed   both ways
use mathlib.Core.Path.{◌≡◌, refl, sym, ◌∙◌, ap, subst}
use mathlib.Core.Bool.{Bool, true, false, not, ◌&&◌}
use mathlib.Core.Logic.{◌⊎◌, inl, inr, ⊎_elim, ◌≢◌}
use mathlib.Core.List.{List, [], ◌∷◌}
use Prim.Native.Nat.{ℕ, zero, suc, ◌+◌, ◌<◌, ◌≤◌}
use native.Mathlib.Omega.{arith}
use native.Mathlib.Decide.{ℕ_discrete, dec_lt}
use lib.Dec.{eqb, ltb}
use lib.ListN.{length}
use borrow.Author.Tests.{eqb-false, eq-eqb, ne_eqb, ltb-true, not-false}
use Rattle.perimeters.proofs.Laws.{prev-below, next-prev}
use Rattle.perimeters.specs.Places.{next_place, prev_place}
use Rattle.t_spline.specs.Edge.{none}
use Rattle.t_spline.specs.Ends.{face_from_side}
use Rattle.edge_ends.specs.declared.TnurccFaceSide.{TnurccFaceSide}
use Rattle.edge_ends.specs.declared.TnurccFaceSide.TheVariants.{Left, Right}
use Rattle.tables.specs.Mesh.{Mesh, valence, start, origin}
use Rattle.closed_meshes.specs.Renumbering.{sum_to}
use Rattle.audited_meshes.specs.Folds.{one_if, occurrences}
use Rattle.audited_meshes.specs.Walks.{Walk, back, lost, pass, walk, passed, touches, acw_of_point, point_walk, Touches}
use Rattle.audited_meshes.specs.Audited.{Passes, last, more, PointWalked}
use Rattle.audited_meshes.proofs.Folds.{sum_to-cong, sum_to-tight, length-sum_to}
use Rattle.audited_meshes.proofs.Tests.{Is, and_is, ltb-is}
use Rattle.audited_meshes.proofs.Walks.{occurrences-here, occurrences-there, in-longer, passes-head, passes_on}
use Rattle.audited_meshes.proofs.Audited.{touches-is, point_walk-is}
use Rattle.built_meshes.specs.Lists.{Lists, points_of, faces_of, size}
use Rattle.built_meshes.specs.Places.{point_of, next_of, IsPlace}
use Rattle.built_meshes.specs.Whole.{no_missed_edge}
use Rattle.built_meshes.specs.Grounds.{Turns, Chain, here, further, HasMissedEdge}
use Rattle.built_meshes.proofs.Connecting.{first_of, second_of, acw_of, cw_of}
use Rattle.built_meshes.proofs.Rows.{row}
use Rattle.built_meshes.proofs.Invariant.{Sits, Invariant, sits-unique}
use Rattle.built_meshes.proofs.Perimeter.{Done, Chained}
use Rattle.built_meshes.proofs.Versions.{every-false}
use Rattle.built_meshes.proofs.Whole.{place_of, prev-side, sits-side, point-walk}

-- a sum that is less has a number that is less
sum_to-less : (n : ℕ) (a b : ℕ → ℕ) → sum_to n a < sum_to n b → (k : ℕ) × (k < n) × (a k < b k)
unfolding sum_to
sum_to-less zero a b h = absurd (omega arith)
sum_to-less (suc n) a b h = go (dec_lt (a n) (b n)) (sum_to-less n a b)
  where
    go : Dec (a n < b n) → (sum_to n a < sum_to n b → (k : ℕ) × (k < n) × (a k < b k)) → (k : ℕ) × (k < suc n) × (a k < b k)
    go (yes z) ih = (n, omega arith, z)
    go (no z) ih = let w = ih (omega arith) in (w.0, omega (arith, w.1), w.2)

-- ---- walks

longer : (x k : ℕ) (ks : List ℕ) → 0 < occurrences x ks → 0 < occurrences x (k ∷ ks)
unfolding occurrences
longer x k ks h = omega arith

module _ (step : ℕ → ℕ) (On : ℕ → Type 0) (s : ℕ) where
  -- a walk goes on from what it passes, or has come back
  passes-next : (e : ℕ) (es : List ℕ) → Passes step On s e es → (x : ℕ) → 0 < occurrences x es → (step x ≡ s) ⊎ (0 < occurrences (step x) es)
  unfolding occurrences
  passes-next e es (last {e = k} o b) x h = in-longer x k [] h (λ same. inl (subst (λ x. step x ≡ s) same b)) (λ h. absurd (omega arith))
  passes-next e es (more {e = k} {es = rest} o b p) x h =
      in-longer x k rest h (λ same. inr (subst (λ x. 0 < occurrences (step x) (k ∷ rest)) same (longer (step k) k rest (passes-head step On s (step k) rest p))))
      (λ h. ⊎_elim (λ z. inl z) (λ z. inr (longer (step x) k rest z)) (passes-next (step k) rest p x h))

  module _ (P : ℕ → Type 0) (keeps : (x : ℕ) → On x → P x → P (step x)) where
    to_start : (e : ℕ) (es : List ℕ) → Passes step On s e es → (x : ℕ) → 0 < occurrences x es → P x → P s
    unfolding occurrences
    to_start e es (last {e = k} o b) x h px =
        in-longer x k [] h (λ same. subst P b (keeps k o (subst P (sym same) px))) (λ h. absurd (omega arith))
    to_start e es (more {e = k} {es = rest} o b p) x h px =
        in-longer x k rest h (λ same. to_start (step k) rest p (step k) (passes-head step On s (step k) rest p) (keeps k o (subst P (sym same) px)))
        (λ h. to_start (step k) rest p x h px)

    from-head : (e : ℕ) (es : List ℕ) → Passes step On s e es → P e → (x : ℕ) → 0 < occurrences x es → P x
    unfolding occurrences
    from-head e es (last {e = k} o b) pe x h = in-longer x k [] h (λ same. subst P same pe) (λ h. absurd (omega arith))
    from-head e es (more {e = k} {es = rest} o b p) pe x h =
        in-longer x k rest h (λ same. subst P same pe) (λ h. from-head (step k) rest p (keeps k o pe) x h)

    spread : (es : List ℕ) → Passes step On s s es → (x y : ℕ) → 0 < occurrences x es → 0 < occurrences y es → P x → P y
    spread es p x y h k px = from-head s es p (to_start s es p x h px) y k

  -- ---- a walk by a step that no two share

  module _ (on : ℕ → Bool) (on-is : (e : ℕ) → Is (on e) (On e)) (n : ℕ) (below : (e : ℕ) → On e → e < n)
      (goes : (e : ℕ) → On e → On (step e)) (shares : (x y : ℕ) → On x → On y → step x ≡ step y → x ≡ y) where
    -- the edges es were passed before e
    record Trail (es : List ℕ) (e : ℕ) : Type 0 where
      once : (x : ℕ) → occurrences x es ≤ one_if (on x)
      is-on : On e
      fresh : occurrences e es ≡ 0
      comes : (x : ℕ) → 0 < occurrences x (e ∷ es) → (x ≡ s) ⊎ ((y : ℕ) × (0 < occurrences y es) × (step y ≡ x))

    was-on : (es : List ℕ) (e : ℕ) → Trail es e → (x : ℕ) → 0 < occurrences x es → On x
    was-on es e t x h = (on-is x).0 (go (on x) (t.once x))
      where
        go : (b : Bool) → occurrences x es ≤ one_if b → b ≡ true
        go true z = refl
        go false z = absurd (omega arith)

    trail-on : (es : List ℕ) (e : ℕ) → Trail es e → step e ≢ s → Trail (e ∷ es) (step e)
    unfolding occurrences
    trail-on es e t away =
        record {
          once = once';
          is-on = goes e t.is-on;
          fresh = fresh' (dec_lt 0 (occurrences (step e) (e ∷ es)));
          comes = λ x h. in-longer x (step e) (e ∷ es) h (λ same. inr (e, omega (arith, occurrences-here e es), same)) (λ h. before x (t.comes x h));
        }
      where
        once' : (x : ℕ) → occurrences x (e ∷ es) ≤ one_if (on x)
        once' x = go (ℕ_discrete e x)
          where
            go : Dec (e ≡ x) → occurrences x (e ∷ es) ≤ one_if (on x)
            go (yes h) =
                subst (λ x. occurrences x (e ∷ es) ≤ one_if (on x)) h (omega (arith, occurrences-here e es, t.fresh, ap one_if ((on-is e).1 t.is-on)))
            go (no h) = omega (arith, occurrences-there x e es h, t.once x)

        before : (x : ℕ) → (x ≡ s) ⊎ ((y : ℕ) × (0 < occurrences y es) × (step y ≡ x)) → (x ≡ s) ⊎ ((y : ℕ) × (0 < occurrences y (e ∷ es)) × (step y ≡ x))
        before x (inl h) = inl h
        before x (inr h) = inr (h.0, longer h.0 e es h.1, h.2)

        again : (step e ≡ s) ⊎ ((y : ℕ) × (0 < occurrences y es) × (step y ≡ step e)) → ⊥
        again (inl h) = away h
        again (inr h) =
            let same : h.0 ≡ e = shares h.0 e (was-on es e t h.0 h.1) t.is-on h.2 in
            let z : 0 < occurrences e es = subst (λ x. 0 < occurrences x es) same h.1 in
            omega (arith, t.fresh)

        fresh' : Dec (0 < occurrences (step e) (e ∷ es)) → occurrences (step e) (e ∷ es) ≡ 0
        fresh' (yes h) = absurd (again (t.comes (step e) h))
        fresh' (no h) = omega arith

    never-lost : (k : ℕ) (es : List ℕ) (e : ℕ) → Trail es e → length es + k ≡ sum_to n (λ x. one_if (on x)) → walk step on s k false (on e) e ≢ lost
    unfolding walk
    never-lost zero es e t many h =
        let sum : length es ≡ sum_to n (λ x. occurrences x es) = length-sum_to n es (λ x z. below x (was-on es e t x z)) in
        let tight : occurrences e es ≡ one_if (on e) =
        sum_to-tight n (λ x. occurrences x es) (λ x. one_if (on x)) (λ x b. t.once x) (omega arith) e (below e t.is-on) in
        let here' : one_if (on e) ≡ 1 = ap one_if ((on-is e).1 t.is-on) in
        omega (arith, t.fresh)
    never-lost (suc k) es e t many h =
        go (on e) ((on-is e).1 t.is-on) (λ away. never-lost k (e ∷ es) (step e) (trail-on es e t away) (omega arith)) h
      where
        Goes_on : Type 0
        Goes_on = step e ≢ s → walk step on s k false (on (step e)) (step e) ≢ lost

        met : Goes_on → (b : Bool) → eqb (step e) s ≡ b → pass e (walk step on s k b (on (step e)) (step e)) ≢ lost
        met ih true z h = absurd-pass k h
          where
            absurd-pass : (k : ℕ) → pass e (walk step on s k true (on (step e)) (step e)) ≢ lost
            absurd-pass zero h = let z : ◌≡◌ {A = ℕ} 0 1 = cc in omega arith
            absurd-pass (suc k) h = let z : ◌≡◌ {A = ℕ} 0 1 = cc in omega arith
        met ih false z h = came (walk step on s k false (on (step e)) (step e)) h (ih (eqb-false (step e) s z))
          where
            came : (w : Walk) → pass e w ≡ lost → w ≢ lost → ⊥
            came (back es) h n = let z : ◌≡◌ {A = ℕ} 0 1 = cc in omega arith
            came lost h n = n refl

        go : (b : Bool) → b ≡ true → Goes_on → walk step on s (suc k) false b e ≡ lost → ⊥
        go true z ih h = met ih (eqb (step e) s) refl h
        go false z ih h = let y : ◌≡◌ {A = ℕ} 0 1 = cc in omega arith

-- ---- the walk about a point

module _ (l : Lists) (m : Mesh) (ne : ℕ) (v : Invariant l (Done l (faces_of l) 0) (Chained l (faces_of l) 0) m ne)
    (right : (e : ℕ) → e < ne → (row m e).face_right ≢ none) where
  abbrev flip : TnurccFaceSide → TnurccFaceSide
  flip Left = Right
  flip Right = Left

  first-flip : (s : TnurccFaceSide) (e : ℕ) → first_of (flip s) (row m e) ≡ second_of s (row m e)
  first-flip Left e = refl
  first-flip Right e = refl

  second-flip : (s : TnurccFaceSide) (e : ℕ) → second_of (flip s) (row m e) ≡ first_of s (row m e)
  second-flip Left e = refl
  second-flip Right e = refl

  unique : (f i : ℕ) {e o : ℕ} → IsPlace l f i → Sits l m ne f i e → Sits l m ne f i o → e ≡ o
  unique f i is = sits-unique l (Done l (faces_of l) 0) (Chained l (faces_of l) 0) m ne v f i (v.good f i (inl is))

  module _ (p : ℕ) where
    abbrev On : ℕ → Type 0
    On e = (e < ne) × Touches m p e

    -- the side of an edge that begins at the point
    side-at : (e : ℕ) → Touches m p e → (s : TnurccFaceSide) × (first_of s (row m e) ≡ p)
    side-at e (inl h) = (Left, h)
    side-at e (inr h) = (Right, h)

    touches-second : (s : TnurccFaceSide) (e : ℕ) → second_of s (row m e) ≡ p → Touches m p e
    touches-second Left e h = inr h
    touches-second Right e h = inl h

    touches-first : (s : TnurccFaceSide) (e : ℕ) → first_of s (row m e) ≡ p → Touches m p e
    touches-first Left e h = inl h
    touches-first Right e h = inr h

    -- an edge has one side that begins there, and one that ends there
    one-begins : (s t : TnurccFaceSide) (e : ℕ) → e < ne → first_of s (row m e) ≡ p → first_of t (row m e) ≡ p → s ≡ t
    one-begins Left Left e b h k = refl
    one-begins Left Right e b h k = absurd (v.ends-differ e b (h ∙ sym k))
    one-begins Right Left e b h k = absurd (v.ends-differ e b (k ∙ sym h))
    one-begins Right Right e b h k = refl

    one-ends : (s t : TnurccFaceSide) (e : ℕ) → e < ne → second_of s (row m e) ≡ p → second_of t (row m e) ≡ p → s ≡ t
    one-ends Left Left e b h k = refl
    one-ends Left Right e b h k = absurd (v.ends-differ e b (k ∙ sym h))
    one-ends Right Left e b h k = absurd (v.ends-differ e b (h ∙ sym k))
    one-ends Right Right e b h k = refl

    step-on : (s : TnurccFaceSide) (e : ℕ) → e < ne → first_of s (row m e) ≡ p → acw_of_point m p e ≡ cw_of s (row m e)
    step-on Left e b h = rw (eq-eqb (origin m e) p h)
    step-on Right e b h = rw (ne_eqb (origin m e) p (λ z. v.ends-differ e b (z ∙ sym h)))

    step-goes : (e : ℕ) → On e → On (acw_of_point m p e)
    step-goes e o =
        let s = side-at e o.1 in
        let n = prev-side l m ne v right s.0 e o.0 in
        subst On (sym (step-on s.0 e o.0 s.1 ∙ n.cw-is)) (n.below, touches-second n.side n.other (n.meets ∙ s.1))

    step-shares : (x y : ℕ) → On x → On y → acw_of_point m p x ≡ acw_of_point m p y → x ≡ y
    step-shares x y o o' same =
        let s = side-at x o.1 in
        let t = side-at y o'.1 in
        let a = prev-side l m ne v right s.0 x o.0 in
        let b = prev-side l m ne v right t.0 y o'.0 in
        let one_if : a.other ≡ b.other = sym a.cw-is ∙ sym (step-on s.0 x o.0 s.1) ∙ same ∙ step-on t.0 y o'.0 t.1 ∙ b.cw-is in
        let ends : second_of b.side (row m a.other) ≡ p = ap (λ e. second_of b.side (row m e)) one_if ∙ b.meets ∙ t.1 in
        let sides : a.side ≡ b.side = one-ends a.side b.side a.other a.below (a.meets ∙ s.1) ends in
        sym a.links-back ∙ ap (λ s. acw_of s (row m a.other)) sides ∙ ap (λ e. acw_of b.side (row m e)) one_if ∙ b.links-back

    -- the place of an edge that begins at the point
    record PlaceAt (e : ℕ) : Type 0 where
      face : ℕ
      place : ℕ
      is-place : IsPlace l face place
      begins : point_of l face place ≡ p
      sits : Sits l m ne face place e

    place_at : (e : ℕ) → On e → PlaceAt e
    place_at e o =
        let s = side-at e o.1 in
        let x = place_of l m ne v right s.0 e o.0 in
        record {
          face = face_from_side (row m e) s.0;
          place = x.place;
          is-place = (x.face-below, x.place-below);
          begins = x.begins ∙ s.1;
          sits = sits-side l m ne v right s.0 e o.0;
        }

    -- there is one such place
    place-once : (e f i g j : ℕ) → IsPlace l f i → IsPlace l g j → Sits l m ne f i e → Sits l m ne g j e → point_of l f i ≡ p → point_of l g j ≡ p → (f ≡ g) × (i ≡ j)
    place-once e f i g j is is' a b h k =
        let sides : a.on-side ≡ b.on-side = one-begins a.on-side b.on-side e a.below (a.first-is ∙ h) (b.first-is ∙ k) in
        v.one_way f i g j (inl is) (inl is') (h ∙ sym k) (sym a.second_is ∙ ap (λ s. second_of s (row m e)) sides ∙ b.second_is)

    -- the place to which the step goes runs back the place before
    turn-place : (f i e : ℕ) → IsPlace l f i → Sits l m ne f i e → point_of l f i ≡ p → (g : ℕ) × (j : ℕ) × Turns l f i g j × Sits l m ne g j (acw_of_point m p e)
    turn-place f i e is t h =
        let n = size l f in
        let y = prev_place n i in
        let w : (prev_place n i < n) × (next_place n (prev_place n i) ≡ i) = (prev-below n i is.1, next-prev n i is.1) in
        let o = v.entered f y (inl (is.0, w.0)) in
        let begin : first_of t.on-side (row m e) ≡ next_of l f y = t.first-is ∙ ap (λ i. point_of l f i) (sym w.1) in
        let links = v.linked f y (inl (is.0, w.0)) o.1.on-side o.0 t.on-side e o.1.below t.below o.1.face-is t.face-is o.1.first-is begin in
        let s = flip o.1.on-side in
        let x = place_of l m ne v right s o.0 o.1.below in (
          face_from_side (row m o.0) s,
          x.place,
          record {
            is-place = (x.face-below, x.place-below);
            begins = x.begins ∙ first-flip o.1.on-side o.0 ∙ o.1.second_is ∙ ap (λ i. point_of l f i) w.1;
            ends = x.ends ∙ second-flip o.1.on-side o.0 ∙ o.1.first-is;
          },
          subst (λ a. Sits l m ne (face_from_side (row m o.0) s) x.place a) (sym (step-on t.on-side e t.below (t.first-is ∙ h) ∙ links.1))
              (sits-side l m ne v right s o.0 o.1.below),
        )

    turn-sits : (f i e : ℕ) → IsPlace l f i → Sits l m ne f i e → point_of l f i ≡ p → (g j : ℕ) → Turns l f i g j → Sits l m ne g j (acw_of_point m p e)
    turn-sits f i e is t h g j r =
        let x = turn-place f i e is t h in
        let same = v.one_way x.0 x.1 g j (inl x.2.is-place) (inl r.is-place) (x.2.begins ∙ sym r.begins) (x.2.ends ∙ sym r.ends) in
        subst (λ j. Sits l m ne g j (acw_of_point m p e)) same.1 (subst (λ g. Sits l m ne g x.1 (acw_of_point m p e)) same.0 x.3)

    -- ---- a walk that passes all edges joins all places

    module _ (f i : ℕ) where
      -- the place of an edge is joined to place i of face f
      Joined : ℕ → Type 0
      Joined e = (g j : ℕ) → IsPlace l g j → Sits l m ne g j e → point_of l g j ≡ p → Chain l f i g j

      joined_step : (e : ℕ) → On e → Joined e → Joined (acw_of_point m p e)
      unfolding Joined
      joined_step e o c g j is t h =
          let x = place_at e o in
          let y = turn-place x.face x.place e x.is-place x.sits x.begins in
          let same = place-once (acw_of_point m p e) y.0 y.1 g j y.2.is-place is y.3 t (y.2.begins ∙ x.begins) h in
          subst (λ j. Chain l f i g j) same.1
          (subst (λ g. Chain l f i g y.1) same.0 (further (c x.face x.place x.is-place x.sits x.begins) y.2))

      joined-here : (e : ℕ) → IsPlace l f i → Sits l m ne f i e → point_of l f i ≡ p → Joined e
      unfolding Joined
      joined-here e is t h g j is' t' h' =
          let same = place-once e f i g j is is' t t' h h' in
          subst (λ j. Chain l f i g j) same.1 (subst (λ g. Chain l f i g i) same.0 here)

      all-joined : PointWalked m ne p → (g j : ℕ) → IsPlace l f i → IsPlace l g j → point_of l f i ≡ p → point_of l g j ≡ p → Chain l f i g j
      unfolding Joined
      all-joined w g j is is' h h' =
          let a = v.entered f i (inl is) in
          let b = v.entered g j (inl is') in
          let on : (e : ℕ) → On e → 0 < occurrences e w.edges = λ e o. (let z = w.each-once e o.0 o.1 in omega arith) in
          spread (acw_of_point m p) On (start m p) Joined joined_step w.edges w.passes a.0 b.0
          (on a.0 (a.1.below, touches-first a.1.on-side a.0 (a.1.first-is ∙ h)))
          (on b.0 (b.1.below, touches-first b.1.on-side b.0 (b.1.first-is ∙ h')))
          (joined-here a.0 is a.1 h) g j is' b.1 h'

    -- ---- a chain from the start edge stays on the walk

    chain-walked :
        (es : List ℕ) → Passes (acw_of_point m p) On (start m p) (start m p) es → (f i : ℕ) → IsPlace l f i → Sits l m ne f i (start m p) → point_of l f i ≡ p →
        (g j : ℕ) → Chain l f i g j → IsPlace l g j × (point_of l g j ≡ p) × ((e : ℕ) × (0 < occurrences e es) × Sits l m ne g j e)
    chain-walked es w f i is t h g j here = (is, h, (start m p, passes-head (acw_of_point m p) On (start m p) (start m p) es w, t))
    chain-walked es w f i is t h g j (further {g = x} {j = y} c r) =
        let (is', h', z) = chain-walked es w f i is t h x y c in (
          r.is-place,
          r.begins ∙ h',
          (acw_of_point m p z.0, on z.0 z.1, turn-sits x y z.0 is' z.2 h' g j r),
        )
      where
        on : (e : ℕ) → 0 < occurrences e es → 0 < occurrences (acw_of_point m p e) es
        on e h =
            ⊎_elim (λ same. subst (λ x. 0 < occurrences x es) (sym same) (passes-head (acw_of_point m p) On (start m p) (start m p) es w)) (λ z. z)
            (passes-next (acw_of_point m p) On (start m p) (start m p) es w e h)

    -- ---- a walk that passes fewer

    module _ (pb : p < points_of l) (edged : valence m p ≢ 0) where
      starts : On (start m p)
      starts = v.start_is p pb (omega (arith, edged))

      abbrev on : ℕ → Bool
      on e = ltb e ne && touches m p e

      on-is : (e : ℕ) → Is (on e) (On e)
      on-is e = and_is (ltb-is e ne) (touches-is m p e)

      on-touches : (e : ℕ) → e < ne → one_if (on e) ≡ one_if (touches m p e)
      on-touches e b = rw ((ltb-is e ne).1 b)

      comes_back : point_walk m ne (valence m p) p ≢ lost
      unfolding point_walk occurrences
      comes_back =
          never-lost (acw_of_point m p) On (start m p) on on-is ne (λ e o. o.0) step-goes step-shares (valence m p) [] (start m p)
          (record { once = λ x. omega arith; is-on = starts; fresh = refl; comes = λ x h. in-longer x (start m p) [] h (λ same. inl (sym same)) (λ h. absurd (none' x h)) })
          (nought (valence m p) ∙ v.valence-is p pb ∙ sym (sum_to-cong ne (λ e. one_if (on e)) (λ e. one_if (touches m p e)) on-touches))
        where
          nought : (n : ℕ) → 0 + n ≡ n
          nought n = omega arith

          none' : (x : ℕ) → 0 < occurrences x [] → ⊥
          none' x h = omega arith

      fewer : passed (point_walk m ne (valence m p) p) < valence m p → HasMissedEdge l
      fewer less = go (point_walk m ne (valence m p) p) refl less
        where
          go : (w : Walk) → point_walk m ne (valence m p) p ≡ w → passed w < valence m p → HasMissedEdge l
          go lost h z = absurd (comes_back h)
          go (back es) h z =
              let walk' = ((point_walk-is m ne p (valence m p) es).0 h).0 in
              let sum : length es ≡ sum_to ne (λ e. occurrences e es) =
              length-sum_to ne es (λ e y. (passes_on (acw_of_point m p) On (start m p) (start m p) es walk' e y).0) in
              let all' : valence m p ≡ sum_to ne (λ e. one_if (touches m p e)) = v.valence-is p pb in
              let u = sum_to-less ne (λ e. occurrences e es) (λ e. one_if (touches m p e)) (omega arith) in
              let hit = one-above (touches m p u.0) (occurrences u.0 es) u.2 in
              let a = place_at (start m p) starts in
              let b = place_at u.0 (u.1, (touches-is m p u.0).0 hit.0) in
              record {
                f = a.face;
                i = a.place;
                g = b.face;
                j = b.place;
                first-place = a.is-place;
                second-place = b.is-place;
                same_point = b.begins ∙ sym a.begins;
                apart = λ c.
                    let x = chain-walked es walk' a.face a.place a.is-place a.sits a.begins b.face b.place c in
                    let same : x.2.0 ≡ u.0 = unique b.face b.place b.is-place x.2.2 b.sits in
                    let y : 0 < occurrences u.0 es = subst (λ e. 0 < occurrences e es) same x.2.1 in
                    omega (arith, hit.1);
              }
            where
              one-above : (b : Bool) (n : ℕ) → n < one_if b → (b ≡ true) × (n ≡ 0)
              one-above true n h = (refl, omega arith)
              one-above false n h = absurd (omega arith)

  -- ---- both ways

  pub missed-met : ((p : ℕ) → p < points_of l → valence m p ≢ 0) → no_missed_edge m (points_of l) ne ≡ false → HasMissedEdge l
  unfolding no_missed_edge
  missed-met edged h =
      let w = every-false (points_of l) (λ p. not (ltb (passed (point_walk m ne (valence m p) p)) (valence m p))) h in
      fewer w.0 w.1 (edged w.0 w.1) (ltb-true _ _ (not-false (ltb (passed (point_walk m ne (valence m w.0) w.0)) (valence m w.0)) w.2))

  pub no-missed :
      ((p : ℕ) → p < points_of l → valence m p ≢ 0) → ((p : ℕ) → p < points_of l → valence m p ≤ passed (point_walk m ne (valence m p) p)) → ¬ HasMissedEdge l
  no-missed edged walked h =
      let p = point_of l h.f h.i in
      let b = (v.good h.f h.i (inl h.first-place)).sound.in-range h.i h.first-place.1 in
      h.apart (all-joined p h.f h.i (point-walk l m ne v right p b (edged p b) (walked p b)) h.g h.j h.first-place h.second-place refl h.same_point)
