-- The lists of a text whose faces are turned are the lists of the text with these faces reversed, if the first points agree. Assumes
-- nothing.
--     Four t                  every face of the text has four sides
--     side-at .. beside_at    where the lists of a text have what a face says
--     round-of-firsts         a face that 43 does not refuse: its sides lead round
--     lists-turned            the lists of the turned text
use mathlib.Core.Path.{◌≡◌, refl, sym, ap, ◌∙◌}
use mathlib.Core.Bool.{Bool, true, false, cond}
use mathlib.Core.List.{List, [], ◌∷◌, ◌++◌, map}
use Prim.Native.Nat.{ℕ, zero, suc, ◌+◌, ◌-◌, ◌*◌, ◌/◌, ◌≤◌, ◌<◌}
use native.Mathlib.Omega.{arith}
use native.Mathlib.Nat.{mul-div_cancel}
use native.Mathlib.Decide.{ℕ_discrete}
use lib.ListN.{length, get_or, length-append, length-map}
use lib.Ieee.{nan}
use Rattle.closed_meshes.specs.Renumbering.{sum_to}
use Rattle.audited_meshes.proofs.Tests.{eqb_is, every-is}
use Rattle.mesh_lines.specs.Grammar.{Side, flat, side_first, side_count, side_points, side_intervals}
use Rattle.mesh_lines.proofs.Laws.{same_count}
use Rattle.mesh_text.specs.Text.{TextMesh}
use Rattle.mesh_text.specs.Lists.{lengths, firsts, listed_points, intervals}
use Rattle.built_meshes.specs.Lists.{Lists, faces_of, side_length, size, offset}
use Rattle.built_meshes.specs.Faces.{side_from, last_before, first_at, firsts_fit}
use Rattle.built_meshes.specs.Places.{point_of, beside_of, IsPlace}
use Rattle.built_meshes.specs.declared.Version.TheVariants.{Two}
use Rattle.text_meshes.specs.TextBuilding.{lists_of}
use Rattle.mended_lists.specs.Reversal.{Choice, reversed, turned_point, turned_interval, turned_side, turned_first}
use Rattle.mended_lists.proofs.InTurn.{sum_to-same, sum_to-four}
use Rattle.mended_lists.proofs.Reversal.{turned-below, first_below}
use Rattle.mended_lists.proofs.Again.{Turned, reversed-is}
use Rattle.mended_lists.proofs.Sides.{last-below}
use Rattle.mended_texts.specs.Turning.{turned_if, turned_faces, turned_text}
use Rattle.mended_texts.proofs.Flat.{Parts, length-parts, get_d_part}
use Rattle.mended_texts.proofs.Faces.{four-sides, before, Agree, Round, agreeing, turned-count, turned-points}
use Rattle.mended_texts.proofs.Faces.{side-turned, first-turned, point-turned, interval-turned}

abbrev pub face_of : TextMesh → ℕ → List Side
face_of t f = get_or t.faces f []

abbrev pub Four : TextMesh → Type 0
Four t = (f : ℕ) → f < length t.faces → length (face_of t f) ≡ 4

four-counts :
    (ds : List Side) → length ds ≡ 4 →
    get_or (map side_count ds) 0 0 + get_or (map side_count ds) 1 0 + get_or (map side_count ds) 2 0 + get_or (map side_count ds) 3 0
    ≡ length (flat side_points ds)
unfolding flat
four-counts ds e =
    four-sides
    (λ ds.
    get_or (map side_count ds) 0 0 + get_or (map side_count ds) 1 0 + get_or (map side_count ds) 2 0 + get_or (map side_count ds) 3 0
    ≡ length (flat side_points ds)) each ds e
  where
    each :
        (d0 d1 d2 d3 : Side) →
        side_count d0 + side_count d1 + side_count d2 + side_count d3 ≡ length (flat side_points (d0 ∷ d1 ∷ d2 ∷ d3 ∷ []))
    each d0 d1 d2 d3 =
        let e0 = length-append (side_points d0) (side_points d1 ++ (side_points d2 ++ (side_points d3 ++ []))) in
        let e1 = length-append (side_points d1) (side_points d2 ++ (side_points d3 ++ [])) in
        let e2 = length-append (side_points d2) (side_points d3 ++ []) in
        let e3 = length-append (side_points d3) [] in
        let c0 : length (side_points d0) ≡ side_count d0 = length-map d0.listed _ in
        let c1 : length (side_points d1) ≡ side_count d1 = length-map d1.listed _ in
        let c2 : length (side_points d2) ≡ side_count d2 = length-map d2.listed _ in
        let c3 : length (side_points d3) ≡ side_count d3 = length-map d3.listed _ in
        omega arith

module _ (t : TextMesh) (four : Four t) where
  abbrev l : Lists
  l = lists_of t

  four-each : {A : Type 0} (g : Side → A) → Parts (map g) [] t.faces (λ k. 4)
  four-each g k b = length-map (face_of t k) g ∙ four k b

  pub sides-length : length (lengths t) ≡ length t.faces * 4
  sides-length = length-parts (map side_count) [] t.faces (λ k. 4) (four-each side_count) ∙ sum_to-four (length t.faces)

  pub firsts-length : length (firsts t) ≡ length t.faces * 4
  firsts-length = length-parts (map side_first) [] t.faces (λ k. 4) (four-each side_first) ∙ sum_to-four (length t.faces)

  pub faces-count : faces_of l ≡ length t.faces
  faces-count = ap (λ (x : ℕ). x / 4) sides-length ∙ mul-div_cancel (length t.faces) {n = 4} (omega arith)

  pub side-at : (f k : ℕ) → f < length t.faces → k < 4 → side_length l f k ≡ get_or (map side_count (face_of t f)) k 0
  side-at f k a b =
      ap (λ (x : ℕ). get_or (lengths t) (x + k) 0) (sym (sum_to-four f))
      ∙ get_d_part (map side_count) [] t.faces (λ k. 4) 0 (four-each side_count) f k a b

  pub first-at : (f k : ℕ) → f < length t.faces → k < 4 → first_at l f k ≡ get_or (map side_first (face_of t f)) k 0
  first-at f k a b =
      ap (λ (x : ℕ). get_or (firsts t) (x + k) 0) (sym (sum_to-four f))
      ∙ get_d_part (map side_first) [] t.faces (λ k. 4) 0 (four-each side_first) f k a b

  pub size-at : (f : ℕ) → f < length t.faces → length (flat side_points (face_of t f)) ≡ size l f
  size-at f a =
      sym
      (rw (side-at f 0 a (omega arith), side-at f 1 a (omega arith), side-at f 2 a (omega arith), side-at f 3 a (omega arith))
      (four-counts (face_of t f) (four f a)))

  intervals-at : (f : ℕ) → f < length t.faces → length (flat side_intervals (face_of t f)) ≡ size l f
  intervals-at f a = sym (same_count (face_of t f)) ∙ size-at f a

  pub listed-length : length (listed_points t) ≡ offset l (faces_of l)
  unfolding offset
  listed-length =
      length-parts (flat side_points) [] t.faces (λ k. size l k) size-at ∙ ap (λ (x : ℕ). sum_to x (λ k. size l k)) (sym faces-count)

  pub beside-length : length (intervals t) ≡ offset l (faces_of l)
  unfolding offset
  beside-length =
      length-parts (flat side_intervals) [] t.faces (λ k. size l k) intervals-at
      ∙ ap (λ (x : ℕ). sum_to x (λ k. size l k)) (sym faces-count)

  pub point_at : (f i : ℕ) → f < length t.faces → i < size l f → point_of l f i ≡ get_or (flat side_points (face_of t f)) i 0
  unfolding offset
  point_at f i a b = get_d_part (flat side_points) [] t.faces (λ k. size l k) 0 size-at f i a b

  pub beside_at : (f i : ℕ) → f < length t.faces → i < size l f → beside_of l f i ≡ get_or (flat side_intervals (face_of t f)) i nan
  unfolding offset
  beside_at f i a b = get_d_part (flat side_intervals) [] t.faces (λ k. size l k) nan intervals-at f i a b

  -- ---- first points that agree

  from_is : (f k : ℕ) → f < length t.faces → k ≤ 4 → side_from l f 0 k ≡ before (face_of t f) k
  from_is f zero a b = refl
  from_is f (suc k) a b = plus _ _ _ _ (from_is f k a (omega arith)) (side-at f k a (omega arith))
    where
      plus : (x y u v : ℕ) → x ≡ y → u ≡ v → x + u ≡ y + v
      plus x y u v e h = omega arith

  from-within : (f k : ℕ) → k < 4 → side_from l f 0 k ≤ size l f
  from-within f zero b = omega arith
  from-within f (suc zero) b = omega arith
  from-within f (suc (suc zero)) b = omega arith
  from-within f (suc (suc (suc zero))) b = omega arith
  from-within f (suc (suc (suc (suc k)))) b = absurd (omega arith)

  pub round-of-firsts :
      (f : ℕ) → f < length t.faces → 0 < size l f → firsts_fit Two l f (offset l f) ≡ true → Round (face_of t f)
  unfolding firsts_fit
  round-of-firsts f a some h =
      agreeing (face_of t f) (four f a) (rw (size-at f a) some)
      (λ k b.
      sym (first-at f k a b)
      ∙ (every-is 4 (λ k. eqb_is (first_at l f k) (point_of l f (last_before (size l f) (side_from l f 0 k))))).0 h k b
      ∙ point_at f (last_before (size l f) (side_from l f 0 k)) a (last-below (size l f) (side_from l f 0 k) (from-within f k b) some)
      ∙ ap (λ (x : ℕ). get_or (flat side_points (face_of t f)) (last_before (size l f) x) 0) (from_is f k a (omega arith))
      ∙ ap (λ (x : ℕ). get_or (flat side_points (face_of t f)) (last_before x (before (face_of t f) k)) 0) (sym (size-at f a)))

-- ---- the faces of a choice turned

pub turned-length : (c : Choice) (fs : List (List Side)) → length (turned_faces c fs) ≡ length fs
unfolding turned_faces
turned-length c [] = refl
turned-length c (f ∷ fs) = ap suc (turned-length (λ k. c (suc k)) fs)

pub face-turned :
    (c : Choice) (fs : List (List Side)) (f : ℕ) → f < length fs → get_or (turned_faces c fs) f [] ≡ turned_if (c f) (get_or fs f [])
unfolding turned_faces
face-turned c [] f a = absurd (omega arith)
face-turned c (x ∷ fs) zero a = refl
face-turned c (x ∷ fs) (suc f) a = face-turned (λ k. c (suc k)) fs f (omega arith)

module _ (c : Choice) (t : TextMesh) (four : Four t) where
  turned-few : {f : ℕ} → f < length (turned_faces c t.faces) → f < length t.faces
  turned-few h = rw (turned-length c t.faces) at h

  pub turned-four : Four (turned_text c t)
  turned-four f h =
      ap length (face-turned c t.faces f (turned-few h)) ∙ turned-count (c f) (face_of t f) ∙ four f (turned-few h)

  module _ (round : (f : ℕ) → f < length t.faces → Round (face_of t f)) where
    more : {f : ℕ} → f < length t.faces → f < length (turned_faces c t.faces)
    more h = rw (turned-length c t.faces) h

    below : {f : ℕ} → f < faces_of (lists_of t) → f < length t.faces
    below h = rw (faces-count t four) at h

    same_size : (f : ℕ) → f < length t.faces → size (lists_of (turned_text c t)) f ≡ size (lists_of t) f
    same_size f h =
        sym (size-at (turned_text c t) turned-four f (more h))
        ∙ ap (λ (ds : List Side). length (flat side_points ds)) (face-turned c t.faces f h)
        ∙ turned-points (c f) (face_of t f) (round f h) ∙ size-at t four f h

    same-offset : (f : ℕ) → f ≤ length t.faces → offset (lists_of (turned_text c t)) f ≡ offset (lists_of t) f
    unfolding offset
    same-offset f h =
        sum_to-same f (λ k. size (lists_of (turned_text c t)) k) (λ k. size (lists_of t) k) (λ k b. same_size k (omega arith))

    same-count-of-faces : faces_of (lists_of (turned_text c t)) ≡ faces_of (lists_of t)
    same-count-of-faces = faces-count (turned_text c t) turned-four ∙ turned-length c t.faces ∙ sym (faces-count t four)

    turned-faces : length (turned_faces c t.faces) * 4 ≡ faces_of (lists_of t) * 4
    turned-faces = ap (λ (x : ℕ). x * 4) (turned-length c t.faces ∙ sym (faces-count t four))

    last-offset : offset (lists_of (turned_text c t)) (faces_of (lists_of (turned_text c t))) ≡ offset (lists_of t) (faces_of (lists_of t))
    last-offset =
        ap (offset (lists_of (turned_text c t))) (same-count-of-faces ∙ faces-count t four)
        ∙ same-offset (length t.faces) (omega arith) ∙ ap (offset (lists_of t)) (sym (faces-count t four))

    side-of : (k : ℕ) (b : Bool) → k < 4 → cond b (turned_side k) k < 4
    side-of k true h = omega arith
    side-of k false h = h

    first_of : (k : ℕ) (b : Bool) → k < 4 → cond b (turned_first k) k < 4
    first_of k true h = first_below k h
    first_of k false h = h

    point-of : (n i : ℕ) (b : Bool) → i < n → cond b (turned_point n i) i < n
    point-of n i true h = turned-below n i h
    point-of n i false h = h

    interval-of : (n i : ℕ) (b : Bool) → i < n → cond b (turned_interval n i) i < n
    interval-of n i true h = omega arith
    interval-of n i false h = h

    turned : Turned c (lists_of t) (lists_of (turned_text c t))
    turned =
        record {
          version = refl;
          coordinates = refl;
          firsts-length = firsts-length (turned_text c t) turned-four ∙ turned-faces;
          sides-length = sides-length (turned_text c t) turned-four ∙ turned-faces;
          listed-length = listed-length (turned_text c t) turned-four ∙ last-offset;
          intervals-length = beside-length (turned_text c t) turned-four ∙ last-offset;
          side =
              λ f k a b. let h = below a in
              side-at (turned_text c t) turned-four f k (more h) b
              ∙ ap (λ (ds : List Side). get_or (map side_count ds) k 0) (face-turned c t.faces f h)
              ∙ side-turned (c f) (face_of t f) (four f h) k b ∙ sym (side-at t four f (cond (c f) (turned_side k) k) h (side-of k (c f) b));
          first =
              λ f k a b. let h = below a in
              first-at (turned_text c t) turned-four f k (more h) b
              ∙ ap (λ (ds : List Side). get_or (map side_first ds) k 0) (face-turned c t.faces f h)
              ∙ first-turned (c f) (face_of t f) (four f h) (round f h) k b
              ∙ sym (first-at t four f (cond (c f) (turned_first k) k) h (first_of k (c f) b));
          point =
              λ f i (a, b). let h = below a in
              ap (λ (x : ℕ). get_or (listed_points (turned_text c t)) (x + i) 0) (sym (same-offset f (omega arith)))
              ∙ point_at (turned_text c t) turned-four f i (more h) (rw (same_size f h) b)
              ∙ ap (λ (ds : List Side). get_or (flat side_points ds) i 0) (face-turned c t.faces f h)
              ∙ point-turned (c f) (face_of t f) (round f h) (size (lists_of t) f) i (size-at t four f h) b
              ∙ sym (point_at t four f (cond (c f) (turned_point (size (lists_of t) f) i) i) h (point-of (size (lists_of t) f) i (c f) b));
          interval =
              λ f i (a, b). let h = below a in
              ap (λ (x : ℕ). get_or (intervals (turned_text c t)) (x + i) nan) (sym (same-offset f (omega arith)))
              ∙ beside_at (turned_text c t) turned-four f i (more h) (rw (same_size f h) b)
              ∙ ap (λ (ds : List Side). get_or (flat side_intervals ds) i nan) (face-turned c t.faces f h)
              ∙ interval-turned (c f) (face_of t f) (round f h) (size (lists_of t) f) i (size-at t four f h) b
              ∙ sym (beside_at t four f (cond (c f) (turned_interval (size (lists_of t) f) i) i) h (interval-of (size (lists_of t) f) i (c f) b));
        }

    pub lists-turned : lists_of (turned_text c t) ≡ reversed c (lists_of t)
    lists-turned = sym (reversed-is c (lists_of t) (lists_of (turned_text c t)) turned)
