-- The faces of the lists that a text stands for are those of the text. Assumes nothing.
--     flat-at            what stands where in lists joined
--     offset-text        where the listed points of a face begin
--     faces-again        the faces of a text's lists, of a text that can be, with finite intervals
use mathlib.Core.Path.{◌≡◌, refl, sym, ap, ◌∙◌, subst}
use mathlib.Core.Bool.{true}
use mathlib.Core.List.{List, [], ◌∷◌, ◌++◌, map}
use Prim.Native.Nat.{ℕ, zero, suc, ◌+◌, ◌*◌, ◌/◌, ◌≤◌, ◌<◌}
use native.Mathlib.Nat.{mul-div_cancel, suc-mul}
use native.Mathlib.Omega.{arith}
use lib.ListN.{length, get_or, take, length-append, length-map, get_or-append}
use lib.Seq.{take-suc, take_all, get_or-append-add}
use lib.Ieee.{Float, nan, binary64}
use lib.Ieee.Bits.{to_bits-of_bits}
use lib.Ieee.Scale.{finite}
use Rattle.text_numbers.specs.Numbers.{float}
use Rattle.mesh_lines.specs.Grammar.{Listed, Side, flat, side_first, side_count, side_points, side_intervals}
use Rattle.mesh_text.specs.Text.{TextMesh}
use Rattle.mesh_text.specs.Lists.{intervals}
use Rattle.intervals.proofs.Laws.{finite_number}
use Rattle.built_meshes.specs.Lists.{Lists, faces_of, side_length, size, offset}
use Rattle.built_meshes.specs.Faces.{side_from, first_at}
use Rattle.built_meshes.proofs.Perimeter.{offset-suc}
use Rattle.listings.specs.Handing.{up_to, bits_of}
use Rattle.listings.proofs.Parts.{flat_append, flat-one, length-flat, all-to}
use Rattle.listings.proofs.WrittenBack.{up_to-all, all-at}
use Rattle.mesh_printing.specs.Printing.{FitListed, FitSide, FitTextFace, FitText}
use Rattle.text_meshes.specs.TextBuilding.{lists_of}
use Rattle.mesh_printing.specs.Faces.{listed_pair_at, listed_from, side_in, face_in, faces_in, FiniteIntervals}

-- ---- lists joined

map_at : {A B : Type 0} (g : A → B) (d : A) (d' : B) (xs : List A) (i : ℕ) → i < length xs → get_or (map g xs) i d' ≡ g (get_or xs i d)
map_at g d d' [] i h = absurd (omega arith)
map_at g d d' (x ∷ xs) zero h = refl
map_at g d d' (x ∷ xs) (suc i) h = map_at g d d' xs i (omega arith)

module _ {A B : Type 0} (g : A → List B) (e : A) where
  flat-more : (l : List A) (k : ℕ) → k < length l → length (flat g (take (suc k) l)) ≡ length (flat g (take k l)) + length (g (get_or l k e))
  flat-more l k h =
      ap (λ (xs : List A). length (flat g xs)) (take-suc l k e h) ∙ ap length (flat_append g (take k l) (get_or l k e ∷ []))
      ∙ length-append (flat g (take k l)) (flat g (get_or l k e ∷ []))
      ∙ ap (λ (xs : List B). length (flat g (take k l)) + length xs) (flat-one g (get_or l k e))

  flat-below :
      (l : List A) (k i : ℕ) → k < length l → i < length (g (get_or l k e)) → length (flat g (take k l)) + i < length (flat g l)
  unfolding flat
  flat-below [] k i h b = absurd (omega arith)
  flat-below (x ∷ l) zero i h b = omega (arith, length-append (g x) (flat g l))
  flat-below (x ∷ l) (suc k) i h b =
      omega (arith, length-append (g x) (flat g l), length-append (g x) (flat g (take k l)), flat-below l k i (omega arith) b)

  pub flat-at :
      (d : B) (l : List A) (k i : ℕ) → k < length l → i < length (g (get_or l k e)) →
      get_or (flat g l) (length (flat g (take k l)) + i) d ≡ get_or (g (get_or l k e)) i d
  unfolding flat
  flat-at d [] k i h b = absurd (omega arith)
  flat-at d (x ∷ l) zero i h b =
      let z : 0 + i ≡ i = omega arith in
      ap (λ (n : ℕ). get_or (g x ++ flat g l) n d) z ∙ get_or-append (g x) (flat g l) d i b
  flat-at d (x ∷ l) (suc k) i h b =
      let q : length (g x ++ flat g (take k l)) + i ≡ length (g x) + (length (flat g (take k l)) + i) =
      omega (arith, length-append (g x) (flat g (take k l))) in
      ap (λ (n : ℕ). get_or (g x ++ flat g l) n d) q ∙ get_or-append-add (g x) (flat g l) (length (flat g (take k l)) + i) d
      ∙ flat-at d l k i (omega arith) b

  -- of lists of one length
  flat-wide : (w : ℕ) (l : List A) → ((k : ℕ) → k < length l → length (g (get_or l k e)) ≡ w) → (k : ℕ) → k ≤ length l → length (flat g (take k l)) ≡ k * w
  unfolding flat
  flat-wide w l h zero b = let z : 0 * w ≡ 0 = omega arith in sym z
  flat-wide w l h (suc k) b =
      omega (arith, flat-more l k (omega arith), h k (omega arith), flat-wide w l h k (omega arith), suc-mul k w)

-- ---- the lists of a text

no_listed : Listed
no_listed = record { point = 0; interval = 0 }

no_side : Side
no_side = record { first = 0; listed = [] }

module _ (t : TextMesh) (fit : FitText t) where
  face-fit : (f : ℕ) → f < length t.faces → FitTextFace (get_or t.faces f [])
  face-fit f h = all-at FitTextFace [] t.faces fit.faces-fit f h

  -- one number a side
  module _ (g : Side → ℕ) where
    numbers-wide : (f : ℕ) → f < length t.faces → length (map g (get_or t.faces f [])) ≡ 4
    numbers-wide f h = length-map (get_or t.faces f []) g ∙ (face-fit f h).0

    number-text : (f k : ℕ) → f < length t.faces → k < 4 → get_or (flat (map g) t.faces) (f * 4 + k) 0 ≡ g (get_or (get_or t.faces f []) k no_side)
    number-text f k h b =
        let w = flat-wide (map g) [] 4 t.faces numbers-wide f (omega arith) in
        ap (λ (n : ℕ). get_or (flat (map g) t.faces) (n + k) 0) (sym w)
        ∙ flat-at (map g) [] 0 t.faces f k h (omega (arith, numbers-wide f h))
        ∙ map_at g no_side 0 (get_or t.faces f []) k (omega (arith, (face-fit f h).0))

  side-text : (f k : ℕ) → f < length t.faces → k < 4 → side_length (lists_of t) f k ≡ side_count (get_or (get_or t.faces f []) k no_side)
  side-text = number-text side_count

  first-text : (f k : ℕ) → f < length t.faces → k < 4 → first_at (lists_of t) f k ≡ side_first (get_or (get_or t.faces f []) k no_side)
  first-text = number-text side_first

  pub faces-text : faces_of (lists_of t) ≡ length t.faces
  faces-text =
      let w = flat-wide (map side_count) [] 4 t.faces (numbers-wide side_count) (length t.faces) (omega arith) in
      ap (λ (fs : List (List Side)). length (flat (map side_count) fs) / 4) (sym (take_all (length t.faces) t.faces (omega arith)))
      ∙ ap (λ (n : ℕ). n / 4) w ∙ mul-div_cancel (length t.faces) {n = 4} (omega arith)

  -- lists as long as the listed points of their sides
  module _ {B : Type 0} (g : Side → List B) (same : (d : Side) → length (g d) ≡ side_count d) where
    from-text :
        (f : ℕ) → f < length t.faces → (a k : ℕ) → k ≤ 4 →
        side_from (lists_of t) f a k ≡ a + length (flat g (take k (get_or t.faces f [])))
    unfolding flat
    from-text f h a zero b = omega arith
    from-text f h a (suc k) b =
        omega (
          arith,
          from-text f h a k (omega arith),
          side-text f k h (omega arith),
          same (get_or (get_or t.faces f []) k no_side),
          flat-more g no_side (get_or t.faces f []) k (omega (arith, (face-fit f h).0)),
        )

    size-text : (f : ℕ) → f < length t.faces → size (lists_of t) f ≡ length (flat g (get_or t.faces f []))
    size-text f h =
        let ds = get_or t.faces f [] in
        let w = ap (λ (xs : List Side). length (flat g xs)) (take_all 4 ds (omega (arith, (face-fit f h).0))) in
        omega (arith, from-text f h 0 4 (omega arith), w)

    pub offset-text : (f : ℕ) → f ≤ length t.faces → offset (lists_of t) f ≡ length (flat (flat g) (take f t.faces))
    unfolding offset flat
    offset-text zero h = refl
    offset-text (suc f) h =
        omega (
          arith,
          offset-suc (lists_of t) f,
          offset-text f (omega arith),
          size-text f (omega arith),
          flat-more (flat g) [] t.faces f (omega arith),
        )

    listed-text :
        (d : B) (f k i : ℕ) → f < length t.faces → k < 4 → i < side_count (get_or (get_or t.faces f []) k no_side) →
        get_or (flat (flat g) t.faces) (side_from (lists_of t) f (offset (lists_of t) f) k + i) d ≡ get_or (g (get_or (get_or t.faces f []) k no_side)) i d
    listed-text d f k i h b c =
        let ds = get_or t.faces f [] in
        let j = length (flat g (take k ds)) + i in
        let four = (face-fit f h).0 in
        let within : i < length (g (get_or ds k no_side)) = rw (same (get_or ds k no_side)) c in
        let q : side_from (lists_of t) f (offset (lists_of t) f) k + i ≡ length (flat (flat g) (take f t.faces)) + j =
        omega (arith, from-text f h (offset (lists_of t) f) k (omega arith), offset-text f (omega arith)) in
        ap (λ (n : ℕ). get_or (flat (flat g) t.faces) n d) q
        ∙ flat-at (flat g) [] d t.faces f j h (flat-below g no_side ds k i (omega (arith, four)) within)
        ∙ flat-at g no_side d ds k i (omega (arith, four)) within

    listed-within :
        (f k i : ℕ) → f < length t.faces → k < 4 → i < side_count (get_or (get_or t.faces f []) k no_side) →
        side_from (lists_of t) f (offset (lists_of t) f) k + i < length (flat (flat g) t.faces)
    listed-within f k i h b c =
        let ds = get_or t.faces f [] in
        let j = length (flat g (take k ds)) + i in
        let four = (face-fit f h).0 in
        let within : i < length (g (get_or ds k no_side)) = rw (same (get_or ds k no_side)) c in
        omega (
          arith,
          from-text f h (offset (lists_of t) f) k (omega arith),
          offset-text f (omega arith),
          flat-below (flat g) [] t.faces f j h (flat-below g no_side ds k i (omega (arith, four)) within),
        )

  module _ (fin : FiniteIntervals (intervals t)) where
    module _ (f k : ℕ) (h : f < length t.faces) (b : k < 4) where
      listed-again :
          (i : ℕ) → i < side_count (get_or (get_or t.faces f []) k no_side) →
          listed_pair_at (lists_of t) (side_from (lists_of t) f (offset (lists_of t) f) k + i) ≡ get_or (get_or (get_or t.faces f []) k no_side).listed i no_listed
      listed-again i c =
          let d = get_or (get_or t.faces f []) k no_side in
          let at = side_from (lists_of t) f (offset (lists_of t) f) k + i in
          let p = get_or d.listed i no_listed in
          let fd : FitSide d = all-at FitSide no_side (get_or t.faces f []) (face-fit f h).1 k (omega (arith, (face-fit f h).0)) in
          let fp : FitListed p = all-at FitListed no_listed d.listed fd.1 i c in
          let ep = listed-text side_points (λ d. length-map d.listed (λ p. p.point)) 0 f k i h b c
          ∙ map_at (λ (p : Listed). p.point) no_listed 0 d.listed i c in
          let ei = listed-text side_intervals (λ d. length-map d.listed (λ p. float p.interval)) nan f k i h b c
          ∙ map_at (λ (p : Listed). float p.interval) no_listed nan d.listed i c in
          let w = listed-within side_intervals (λ d. length-map d.listed (λ p. float p.interval)) f k i h b c in
          let eb = ap bits_of ei
          ∙ to_bits-of_bits binary64 p.interval fp.1 (finite_number (float p.interval) (subst (λ (v : Float). finite v ≡ true) ei (fin at w))) in
          λ j. record { point = ep j; interval = eb j }

      side-again : side_in (lists_of t) f k ≡ get_or (get_or t.faces f []) k no_side
      side-again =
          let d = get_or (get_or t.faces f []) k no_side in
          let g : ℕ → Listed = λ i. listed_pair_at (lists_of t) (side_from (lists_of t) f (offset (lists_of t) f) k + i) in
          let e = first-text f k h b in
          let u = ap (λ (n : ℕ). up_to n g) (side-text f k h b) ∙ up_to-all g no_listed d.listed listed-again in
          λ j. record { first = e j; listed = u j }

    face-again : (f : ℕ) → f < length t.faces → face_in (lists_of t) f ≡ get_or t.faces f []
    face-again f h =
        let ds = get_or t.faces f [] in
        let four = (face-fit f h).0 in
        ap (λ (n : ℕ). up_to n (side_in (lists_of t) f)) (sym four)
        ∙ up_to-all (side_in (lists_of t) f) no_side ds (λ k b. side-again f k h (omega arith))

    pub faces-again : faces_in (lists_of t) ≡ t.faces
    faces-again =
        ap (λ (n : ℕ). up_to n (face_in (lists_of t))) faces-text ∙ up_to-all (face_in (lists_of t)) [] t.faces face-again
