-- What stands when all faces are in and every side has its face: next and previous sides, walks about faces and points. Assumes nothing.
--     NextSide, PrevSide        the side that follows a side about its face, and the one before
--     sides-differ                the two faces of an edge differ
--     face-walk                   the walk about a face passes its places in turn
--     point-walk                  the walk about a point that passes as many edges as its valence passes each of its edges once
use mathlib.Core.Path.{◌≡◌, refl, sym, ◌∙◌, ap, subst}
use mathlib.Core.Bool.{Bool, true, false, false≢true}
use mathlib.Core.Logic.{inl, inr, ◌≢◌}
use mathlib.Core.List.{List, [], ◌∷◌, map}
use Prim.Native.Nat.{ℕ, zero, suc, ◌+◌, ◌<◌, ◌≤◌}
use native.Mathlib.Omega.{arith}
use native.Mathlib.Decide.{ℕ_discrete, dec_lt}
use lib.ListN.{length, get_or, length-map}
use borrow.Author.Tests.{eq-eqb, ne_eqb}
use Rattle.perimeters.specs.Places.{next_place, prev_place}
use Rattle.perimeters.proofs.Laws.{next_more, next_last, next-below, next-next-differs, prev-below, next-prev}
use Rattle.t_spline.specs.Edge.{none}
use Rattle.t_spline.specs.Ends.{face_from_side}
use Rattle.edge_ends.specs.declared.TnurccFaceSide.{TnurccFaceSide}
use Rattle.edge_ends.specs.declared.TnurccFaceSide.TheVariants.{Left, Right}
use Rattle.tables.specs.Mesh.{Mesh, valence, start, origin, dest, left_face, right_face, face_start}
use Rattle.audited_meshes.specs.Folds.{one_if, occurrences}
use Rattle.audited_meshes.specs.Walks.{Walk, back, lost, passed, touches, acw_of_face, cw_of_face, acw_of_point, first_point, point_walk, Touches}
use Rattle.audited_meshes.specs.Audited.{Borders, SameEnds, Passes, last, more, AcwLinks, CwLinks, FaceWalked, PointWalked}
use Rattle.audited_meshes.proofs.Folds.{below_suc, sum_to-tight, length-sum_to}
use Rattle.audited_meshes.proofs.Walks.{occurrences-here, passes_on, passes-once}
use Rattle.audited_meshes.proofs.Audited.{touches-is, point_walk-is}
use Rattle.built_meshes.specs.Lists.{Lists, points_of, faces_of, size}
use Rattle.built_meshes.specs.Places.{point_of, next_of}
use Rattle.built_meshes.proofs.Connecting.{first_of, second_of, acw_of, cw_of}
use Rattle.built_meshes.proofs.Rows.{row}
use Rattle.built_meshes.proofs.Invariant.{FaceSound, Sits, Good, Invariant, sits-unique}
use Rattle.built_meshes.proofs.Perimeter.{Done, Chained}

module _ (l : Lists) (m : Mesh) (ne : ℕ) (v : Invariant l (Done l (faces_of l) 0) (Chained l (faces_of l) 0) m ne)
    (right : (e : ℕ) → e < ne → (row m e).face_right ≢ none) where
  pub a-side : (s : TnurccFaceSide) (e : ℕ) → e < ne → face_from_side (row m e) s ≢ none
  a-side Left e b = v.left-face e b
  a-side Right e b = right e b

  -- the place of a side
  pub record PlaceOf (s : TnurccFaceSide) (e : ℕ) : Type 0 where
    pub place : ℕ
    pub face-below : face_from_side (row m e) s < faces_of l
    pub place-below : place < size l (face_from_side (row m e) s)
    pub begins : point_of l (face_from_side (row m e) s) place ≡ first_of s (row m e)
    pub ends : next_of l (face_from_side (row m e) s) place ≡ second_of s (row m e)
    pub is-good : Good l (face_from_side (row m e) s) place

  pub place_of : (s : TnurccFaceSide) (e : ℕ) → e < ne → PlaceOf s e
  place_of s e b =
      let at = v.placed s e b (a-side s e b) in
      go at.0 at.1 at.2 at.3
    where
      go : (i : ℕ) → Done l (faces_of l) 0 (face_from_side (row m e) s) i → point_of l (face_from_side (row m e) s) i ≡ first_of s (row m e) →
          next_of l (face_from_side (row m e) s) i ≡ second_of s (row m e) → PlaceOf s e
      go i (inl h) x y = record { place = i; face-below = h.0; place-below = h.1; begins = x; ends = y; is-good = v.good _ i (inl h) }
      go i (inr h) x y = absurd (omega (arith, h.1))

  -- ---- the faces of an edge differ

  pub sides-differ : (e : ℕ) → e < ne → left_face m e ≢ right_face m e
  sides-differ e b same =
      let x = place_of Left e b in
      let y = place_of Right e b in
      let f = left_face m e in
      let g = x.is-good in
      let yb : y.place < size l f = subst (λ f. y.place < size l f) (sym same) y.place-below in
      let ybegins : point_of l f y.place ≡ dest m e = subst (λ f. point_of l f y.place ≡ dest m e) (sym same) y.begins in
      let yends : next_of l f y.place ≡ origin m e = subst (λ f. next_of l f y.place ≡ origin m e) (sym same) y.ends in
      let on : next_place (size l f) x.place ≡ y.place =
      g.sound.distinct _ _ (next-below (size l f) x.place x.place-below) yb (x.ends ∙ sym ybegins) in
      let back' : next_place (size l f) y.place ≡ x.place =
      g.sound.distinct _ _ (next-below (size l f) y.place yb) x.place-below (yends ∙ sym x.begins) in
      next-next-differs (size l f) x.place g.sound.at-least-3 x.place-below (ap (next_place (size l f)) on ∙ back')

  -- ---- the sides next to a side

  pub record NextSide (s : TnurccFaceSide) (e : ℕ) : Type 0 where
    pub other : ℕ
    pub side : TnurccFaceSide
    pub below : other < ne
    pub same-face : face_from_side (row m other) side ≡ face_from_side (row m e) s
    pub meets : first_of side (row m other) ≡ second_of s (row m e)
    pub acw-is : acw_of s (row m e) ≡ other
    pub links-back : cw_of side (row m other) ≡ e

  pub record PrevSide (s : TnurccFaceSide) (e : ℕ) : Type 0 where
    pub other : ℕ
    pub side : TnurccFaceSide
    pub below : other < ne
    pub same-face : face_from_side (row m other) side ≡ face_from_side (row m e) s
    pub meets : second_of side (row m other) ≡ first_of s (row m e)
    pub cw-is : cw_of s (row m e) ≡ other
    pub links-back : acw_of side (row m other) ≡ e

  pub next-side : (s : TnurccFaceSide) (e : ℕ) → e < ne → NextSide s e
  next-side s e b =
      let f = face_from_side (row m e) s in
      let x = place_of s e b in
      let i' = next_place (size l f) x.place in
      let o = v.entered f i' (inl (x.face-below, next-below (size l f) x.place x.place-below)) in
      let t = o.1 in
      let links = v.linked f x.place (inl (x.face-below, x.place-below)) s e t.on-side o.0 b t.below refl t.face-is (sym x.begins) t.first-is in
      record {
        other = o.0;
        side = t.on-side;
        below = t.below;
        same-face = t.face-is;
        meets = t.first-is ∙ x.ends;
        acw-is = links.0;
        links-back = links.1;
      }

  pub prev-side : (s : TnurccFaceSide) (e : ℕ) → e < ne → PrevSide s e
  prev-side s e b =
      let f = face_from_side (row m e) s in
      let x = place_of s e b in
      let j = prev_place (size l f) x.place in
      let jb = prev-below (size l f) x.place x.place-below in
      let o = v.entered f j (inl (x.face-below, jb)) in
      let t = o.1 in
      let first : first_of s (row m e) ≡ next_of l f j =
      sym x.begins ∙ ap (λ i. point_of l f i) (sym (next-prev (size l f) x.place x.place-below)) in
      let links = v.linked f j (inl (x.face-below, jb)) t.on-side o.0 s e t.below b t.face-is refl t.first-is first in
      record {
        other = o.0;
        side = t.on-side;
        below = t.below;
        same-face = t.face-is;
        meets = t.second_is ∙ sym first;
        cw-is = links.1;
        links-back = links.0;
      }

  -- ---- the steps of the walks, seen from a side

  pub acw-on : (t : TnurccFaceSide) (o f : ℕ) → o < ne → face_from_side (row m o) t ≡ f → acw_of_face m f o ≡ acw_of t (row m o)
  acw-on Left o f b h = rw (eq-eqb (left_face m o) f h)
  acw-on Right o f b h = rw (ne_eqb (left_face m o) f (λ z. sides-differ o b (z ∙ sym h)))

  pub cw-on : (t : TnurccFaceSide) (o f : ℕ) → o < ne → face_from_side (row m o) t ≡ f → cw_of_face m f o ≡ cw_of t (row m o)
  cw-on Left o f b h = rw (eq-eqb (left_face m o) f h)
  cw-on Right o f b h = rw (ne_eqb (left_face m o) f (λ z. sides-differ o b (z ∙ sym h)))

  first_on : (t : TnurccFaceSide) (o f : ℕ) → o < ne → face_from_side (row m o) t ≡ f → first_point m f o ≡ first_of t (row m o)
  first_on Left o f b h = rw (eq-eqb (left_face m o) f h)
  first_on Right o f b h = rw (ne_eqb (left_face m o) f (λ z. sides-differ o b (z ∙ sym h)))

  borders-on : (t : TnurccFaceSide) (o f : ℕ) → face_from_side (row m o) t ≡ f → Borders m f o
  borders-on Left o f h = inl h
  borders-on Right o f h = inr h

  touches-first : (t : TnurccFaceSide) (o p : ℕ) → first_of t (row m o) ≡ p → Touches m p o
  touches-first Left o p h = inl h
  touches-first Right o p h = inr h

  -- ---- links

  pub acw-links : (s : TnurccFaceSide) (e : ℕ) → e < ne → AcwLinks m e (second_of s (row m e)) (face_from_side (row m e) s) (acw_of s (row m e))
  acw-links s e b =
      let n = next-side s e b in
      subst (λ a. AcwLinks m e (second_of s (row m e)) (face_from_side (row m e) s) a) (sym n.acw-is)
      (record {
        touches-end = touches-first n.side n.other (second_of s (row m e)) n.meets;
        borders-face = borders-on n.side n.other (face_from_side (row m e) s) n.same-face;
        links-back = cw-on n.side n.other (face_from_side (row m e) s) n.below n.same-face ∙ n.links-back;
      })

  pub cw-links : (s : TnurccFaceSide) (e : ℕ) → e < ne → CwLinks m e (face_from_side (row m e) s) (cw_of s (row m e))
  cw-links s e b =
      let n = prev-side s e b in
      subst (λ a. CwLinks m e (face_from_side (row m e) s) a) (sym n.cw-is)
      (record {
        borders-face = borders-on n.side n.other (face_from_side (row m e) s) n.same-face;
        links-back = acw-on n.side n.other (face_from_side (row m e) s) n.below n.same-face ∙ n.links-back;
      })

  pub acw-below : (s : TnurccFaceSide) (e : ℕ) → e < ne → acw_of s (row m e) < ne
  acw-below s e b = let n = next-side s e b in subst (λ a. a < ne) (sym n.acw-is) n.below

  pub cw-below : (s : TnurccFaceSide) (e : ℕ) → e < ne → cw_of s (row m e) < ne
  cw-below s e b = let n = prev-side s e b in subst (λ a. a < ne) (sym n.cw-is) n.below

  pub one-edge : (e i : ℕ) → e < ne → i < ne → SameEnds m e i → e ≡ i
  one-edge e i b b' (inl h) = (v.one_side Left e Left i b b' h.0 h.1).1
  one-edge e i b b' (inr h) = (v.one_side Left e Right i b b' h.0 h.1).1

  -- ---- the walk about a face

  same-sides : (s t : TnurccFaceSide) (e : ℕ) → e < ne → face_from_side (row m e) s ≡ face_from_side (row m e) t → s ≡ t
  same-sides Left Left e b h = refl
  same-sides Left Right e b h = absurd (sides-differ e b h)
  same-sides Right Left e b h = absurd (sides-differ e b (sym h))
  same-sides Right Right e b h = refl

  pub sits-side : (s : TnurccFaceSide) (e : ℕ) (b : e < ne) → Sits l m ne (face_from_side (row m e) s) (place_of s e b).place e
  sits-side s e b = let x = place_of s e b in record { on-side = s; below = b; face-is = refl; first-is = sym x.begins; second_is = sym x.ends }

  module _ (f : ℕ) (fb : f < faces_of l) (sound : FaceSound l f) (starts : Sits l m ne f 0 (face_start m f)) (few : f ≢ none) where
    good : (i : ℕ) → i < size l f → Good l f i
    good i b = record { sound = sound; is_below = b; a-face = few }

    unique : (i : ℕ) {e o : ℕ} → i < size l f → Sits l m ne f i e → Sits l m ne f i o → e ≡ o
    unique i b = sits-unique l (Done l (faces_of l) 0) (Chained l (faces_of l) 0) m ne v f i (good i b)

    one_place : (i j e : ℕ) → i < size l f → j < size l f → Sits l m ne f i e → Sits l m ne f j e → i ≡ j
    one_place i j e b b' x y =
        let s : x.on-side ≡ y.on-side = same-sides x.on-side y.on-side e x.below (x.face-is ∙ sym y.face-is) in
        sound.distinct i j b b' (sym x.first-is ∙ ap (λ s. first_of s (row m e)) s ∙ y.first-is)

    -- a step from a place's edge goes to the next place's
    step-sits : (i e : ℕ) → i < size l f → Sits l m ne f i e → Sits l m ne f (next_place (size l f) i) (acw_of_face m f e)
    step-sits i e b x =
        let o = v.entered f (next_place (size l f) i) (inl (fb, next-below (size l f) i b)) in
        let t = o.1 in
        let links = v.linked f i (inl (fb, b)) x.on-side e t.on-side o.0 x.below t.below x.face-is t.face-is x.first-is t.first-is in
        subst (λ a. Sits l m ne f (next_place (size l f) i) a) (sym (acw-on x.on-side e f x.below x.face-is ∙ links.0)) t

    abbrev On : ℕ → Type 0
    On e = (e < ne) × Borders m f e

    on-face : (i e : ℕ) → Sits l m ne f i e → On e
    on-face i e x = (x.below, borders-on x.on-side e f x.face-is)

    -- the walk from the edge e of place i on, with c places behind it
    record RestOf (i e c : ℕ) : Type 0 where
      edges : List ℕ
      passes : Passes (acw_of_face m f) On (face_start m f) e edges
      many : length edges ≡ suc c
      points : (j : ℕ) → j < length edges → get_or (map (first_point m f) edges) j 0 ≡ point_of l f (i + j)
      all : (j x : ℕ) → i ≤ j → j < size l f → Sits l m ne f j x → 0 < occurrences x edges

    first-place : (i e : ℕ) → Sits l m ne f i e → first_point m f e ≡ point_of l f (i + 0)
    first-place i e x = first_on x.on-side e f x.below x.face-is ∙ x.first-is ∙ ap (λ i. point_of l f i) (let z : i ≡ i + 0 = omega arith in z)

    here-or : (i e j x : ℕ) (es : List ℕ) → i < size l f → Sits l m ne f i e → i ≤ j → Sits l m ne f j x → (suc i ≤ j → 0 < occurrences x es) → 0 < occurrences x (e ∷ es)
    unfolding occurrences
    here-or i e j x es b t le u rest =
        below_suc i j (omega arith) (λ lt. omega (arith, rest lt)) (λ same.
        subst (λ x. 0 < occurrences x (e ∷ es)) (unique i b t (subst (λ j. Sits l m ne f j x) (sym same) u)) (omega (arith, occurrences-here e es)))

    rest_of : (c i e : ℕ) → i + suc c ≡ size l f → Sits l m ne f i e → RestOf i e c
    rest_of zero i e h x =
        record {
          edges = e ∷ [];
          passes = last (on-face i e x) (unique 0 (omega arith) (subst (λ i. Sits l m ne f i (acw_of_face m f e)) wraps (step-sits i e (omega arith) x)) starts);
          many = refl;
          points = points';
          all = λ j y le b u. here-or i e j y [] (omega arith) x le u (λ lt. absurd (omega arith));
        }
      where
        wraps : next_place (size l f) i ≡ 0
        wraps = next_last (size l f) i (omega arith)

        points' : (j : ℕ) → j < 1 → get_or (first_point m f e ∷ []) j 0 ≡ point_of l f (i + j)
        points' zero b = first-place i e x
        points' (suc j) b = absurd (omega arith)
    rest_of (suc c) i e h x = go (rest_of c (suc i) (acw_of_face m f e) (omega arith) step)
      where
        moves : next_place (size l f) i ≡ suc i
        moves = next_more (size l f) i (omega arith)

        step : Sits l m ne f (suc i) (acw_of_face m f e)
        step = subst (λ i. Sits l m ne f i (acw_of_face m f e)) moves (step-sits i e (omega arith) x)

        away : acw_of_face m f e ≢ face_start m f
        away same =
            let z : suc i ≡ 0 = one_place (suc i) 0 (face_start m f) (omega arith) (omega arith) (subst (λ y. Sits l m ne f (suc i) y) same step) starts in
            omega arith

        go : RestOf (suc i) (acw_of_face m f e) c → RestOf i e (suc c)
        go r =
            record {
              edges = e ∷ r.edges;
              passes = more (on-face i e x) away r.passes;
              many = ap suc r.many;
              points = points';
              all = λ j y le b u. here-or i e j y r.edges (omega arith) x le u (λ lt. r.all j y lt b u);
            }
          where
            points' : (j : ℕ) → j < suc (length r.edges) → get_or (first_point m f e ∷ map (first_point m f) r.edges) j 0 ≡ point_of l f (i + j)
            points' zero b = first-place i e x
            points' (suc j) b = r.points j (omega arith) ∙ ap (λ i. point_of l f i) (let z : suc i + j ≡ i + suc j = omega arith in z)

    whole-walk : (n : ℕ) → suc n ≡ size l f → FaceWalked m ne f
    whole-walk n h = go (rest_of n 0 (face_start m f) (omega arith) starts)
      where
        go : RestOf 0 (face_start m f) n → FaceWalked m ne f
        go r =
            record {
              edges = r.edges;
              passes = r.passes;
              each-once = each-once';
              no-point-twice = λ i j b lt same.
                  let many' : length (map (first_point m f) r.edges) ≡ size l f = length-map r.edges (first_point m f) ∙ r.many ∙ h in
                  let ends : length r.edges ≡ size l f = r.many ∙ h in
                  let z : i ≡ j =
                  sound.distinct i j (omega arith) (omega arith)
                  (ap (λ i. point_of l f i) (let z : i ≡ 0 + i = omega arith in z) ∙ sym (r.points i (omega arith)) ∙ same ∙ r.points j (omega arith)
                  ∙ ap (λ j. point_of l f j) (let z : 0 + j ≡ j = omega arith in z)) in
                  omega arith;
              at-least-3 = omega (arith, r.many, sound.at-least-3);
              at-most-64 = omega (arith, r.many, sound.at-most-64);
            }
          where
            found : (s : TnurccFaceSide) (e : ℕ) → (b : e < ne) → face_from_side (row m e) s ≡ f → 0 < occurrences e r.edges
            found s e b face =
                let x = place_of s e b in
                r.all x.place e (omega arith) (subst (λ f. x.place < size l f) face x.place-below)
                (subst (λ f. Sits l m ne f x.place e) face (sits-side s e b))

            each-once' : (e : ℕ) → e < ne → Borders m f e → occurrences e r.edges ≡ 1
            each-once' e b (inl h) = let z = found Left e b h in omega (arith, passes-once _ _ _ _ r.edges r.passes e)
            each-once' e b (inr h) = let z = found Right e b h in omega (arith, passes-once _ _ _ _ r.edges r.passes e)

    pub face-walk : FaceWalked m ne f
    face-walk = go (size l f) refl
      where
        go : (n : ℕ) → size l f ≡ n → FaceWalked m ne f
        go zero h = absurd (omega (arith, sound.at-least-3))
        go (suc n) h = whole-walk n (sym h)

  -- ---- the walk about a point

  one_at_most : (b : Bool) (n : ℕ) → n ≤ 1 → (0 < n → b ≡ true) → n ≤ one_if b
  one_at_most true n h k = h
  one_at_most false n h k = go (dec_lt 0 n)
    where
      go : Dec (0 < n) → n ≤ 0
      go (yes z) = absurd (false≢true (k z))
      go (no z) = omega arith

  -- the step about a point is no step to the edge itself: the previous side about a face is another edge's
  moves-on : (p e : ℕ) → e < ne → Touches m p e → acw_of_point m p e ≢ e
  moves-on p e b t = go (ℕ_discrete (origin m e) p) t
    where
      stays : (s : TnurccFaceSide) → cw_of s (row m e) ≡ e → ⊥
      stays s h =
          let n = prev-side s e b in
          let same : n.other ≡ e = sym n.cw-is ∙ h in
          let face : face_from_side (row m e) n.side ≡ face_from_side (row m e) s = subst (λ x. face_from_side (row m x) n.side ≡ face_from_side (row m e) s) same n.same-face in
          let meet : second_of n.side (row m e) ≡ first_of s (row m e) = subst (λ x. second_of n.side (row m x) ≡ first_of s (row m e)) same n.meets in
          turned s (subst (λ t. second_of t (row m e) ≡ first_of s (row m e)) (same-sides n.side s e b face) meet)
        where
          turned : (s : TnurccFaceSide) → second_of s (row m e) ≡ first_of s (row m e) → ⊥
          turned Left z = v.ends-differ e b (sym z)
          turned Right z = v.ends-differ e b z

      go : Dec (origin m e ≡ p) → Touches m p e → acw_of_point m p e ≡ e → ⊥
      go (yes h) t z = stays Left (rw (eq-eqb (origin m e) p h) at z)
      go (no h) t z = stays Right (rw (ne_eqb (origin m e) p h) at z)

  module _ (p : ℕ) (pb : p < points_of l) (edged : valence m p ≢ 0) (walked : valence m p ≤ passed (point_walk m ne (valence m p) p)) where
    two : (es : List ℕ) → Passes (acw_of_point m p) (λ e. (e < ne) × Touches m p e) (start m p) (start m p) es → 2 ≤ length es
    two es w = go (start m p) es refl w
      where
        go : (x : ℕ) (es : List ℕ) → x ≡ start m p → Passes (acw_of_point m p) (λ e. (e < ne) × Touches m p e) (start m p) x es → 2 ≤ length es
        go x es same (last {e = k} o h) = absurd (moves-on p k o.0 o.1 (h ∙ sym same))
        go x es same (more {e = k} {es = rest} o h w) = omega (arith, some rest w)
          where
            some : (es : List ℕ) {y : ℕ} → Passes (acw_of_point m p) (λ e. (e < ne) × Touches m p e) (start m p) y es → 1 ≤ length es
            some es (last o h) = omega arith
            some es (more o h w) = omega arith

    pub point-walk : PointWalked m ne p
    point-walk = go (point_walk m ne (valence m p) p) refl walked
      where
        go : (w : Walk) → point_walk m ne (valence m p) p ≡ w → valence m p ≤ passed w → PointWalked m ne p
        go lost h le = absurd (edged (omega arith))
        go (back es) h le =
            record {
              edges = es;
              passes = walk;
              each-once = λ e b t. once e b ∙ ap one_if ((touches-is m p e).1 t);
              at-least-2 = two es walk;
              is-valence = many;
            }
          where
            both : Passes (acw_of_point m p) (λ e. (e < ne) × Touches m p e) (start m p) (start m p) es × (length es ≤ valence m p)
            both = (point_walk-is m ne p (valence m p) es).0 h

            walk : Passes (acw_of_point m p) (λ e. (e < ne) × Touches m p e) (start m p) (start m p) es
            walk = both.0

            many : length es ≡ valence m p
            many = omega (arith, both.1)

            once : (e : ℕ) → e < ne → occurrences e es ≡ one_if (touches m p e)
            once e b =
                sum_to-tight ne (λ e. occurrences e es) (λ e. one_if (touches m p e))
                (λ e b. one_at_most (touches m p e) (occurrences e es) (passes-once _ _ _ _ es walk e) (λ z. (touches-is m p e).1 (passes_on _ _ _ _ es walk e z).1))
                (sym (length-sum_to ne es (λ e z. (passes_on _ _ _ _ es walk e z).0)) ∙ many ∙ v.valence-is p pb) e b
