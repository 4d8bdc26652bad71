-- A text whose faces are turned has as many bytes, and can be said by a text if the text could. Assumes nothing.
--     length-turned           the number of bytes stays
--     fit-turned              numbers and patterns are within their widths, and faces have four sides, as before
--     four-of-fit             the faces of what a text says have four sides
use mathlib.Core.Path.{◌≡◌, refl, sym, ap, ◌∙◌}
use mathlib.Core.Bool.{Bool, true, false}
use mathlib.Core.List.{List, [], ◌∷◌, ◌++◌}
use Prim.Native.Nat.{ℕ, zero, suc, ◌+◌, ◌<◌}
use native.Mathlib.Omega.{arith}
use lib.ListN.{length, get_or, length-append}
use Rattle.text_numbers.specs.Form.{bytes}
use Rattle.mesh_lines.specs.Grammar.{Listed, Side, flat}
use Rattle.mesh_text.specs.Text.{TextMesh}
use Rattle.mesh_answers.specs.Lines.{decimal_bytes, bits_field}
use Rattle.listings.specs.Printing.{All}
use Rattle.mesh_printing.specs.Printing.{listed_part, side_part, head_line, text_point_line, text_face_line, printed_text, FitListed, FitSide, FitTextFace, FitText}
use Rattle.mended_lists.specs.Reversal.{Choice}
use Rattle.mended_texts.specs.Turning.{backward_from, backward, turned_onto, turned_if, turned_faces, turned_text}
use Rattle.mended_texts.proofs.Faces.{turned-count}
use Rattle.mended_texts.proofs.Turned.{Four, face_of}

-- ---- bytes

listed-bytes : (p : Listed) → length (listed_part p) ≡ 2 + (length (decimal_bytes p.point) + (length (bits_field p.interval) + 1))
listed-bytes p =
    let e0 = length-append (bytes " [") (decimal_bytes p.point ++ (bits_field p.interval ++ bytes "]")) in
    let e1 = length-append (decimal_bytes p.point) (bits_field p.interval ++ bytes "]") in
    let e2 = length-append (bits_field p.interval) (bytes "]") in
    omega arith

side-bytes : (d : Side) → length (side_part d) ≡ 2 + (length (decimal_bytes d.first) + (length (flat listed_part d.listed) + 1))
side-bytes d =
    let e0 = length-append (bytes " [") (decimal_bytes d.first ++ (flat listed_part d.listed ++ bytes "]")) in
    let e1 = length-append (decimal_bytes d.first) (flat listed_part d.listed ++ bytes "]") in
    let e2 = length-append (flat listed_part d.listed) (bytes "]") in
    omega arith

-- the bytes of a side run back, and of what it is run back to
backward-bytes :
    (a : ℕ) (ps qs : List Listed) →
    length (side_part (backward_from a ps qs)) ≡ length (side_part (record { first = a; listed = ps })) + length (flat listed_part qs)
unfolding backward_from flat
backward-bytes a [] qs =
    let e0 = side-bytes (record { first = a; listed = qs }) in
    let e1 = side-bytes (record { first = a; listed = [] }) in
    omega arith
backward-bytes a (p ∷ ps) qs =
    let q : Listed = record { point = a; interval = p.interval } in
    let r = backward-bytes p.point ps (q ∷ qs) in
    let e0 = side-bytes (record { first = p.point; listed = ps }) in
    let e1 = side-bytes (record { first = a; listed = p ∷ ps }) in
    let e2 = listed-bytes q in
    let e3 = listed-bytes p in
    let e4 = length-append (listed_part q) (flat listed_part qs) in
    let e5 = length-append (listed_part p) (flat listed_part ps) in
    omega arith

onto-bytes : (ds es : List Side) → length (flat side_part (turned_onto ds es)) ≡ length (flat side_part ds) + length (flat side_part es)
unfolding turned_onto flat
onto-bytes [] es = omega arith
onto-bytes (d ∷ ds) es =
    let r = onto-bytes ds (backward d ∷ es) in
    let b : length (side_part (backward d)) ≡ length (side_part d) + 0 = backward-bytes d.first d.listed [] in
    let e0 = length-append (side_part (backward d)) (flat side_part es) in
    let e1 = length-append (side_part d) (flat side_part ds) in
    omega arith

face-bytes : (t : Bool) (ds : List Side) → length (text_face_line (turned_if t ds)) ≡ length (text_face_line ds)
unfolding flat
face-bytes false ds = refl
face-bytes true ds =
    let r : length (flat side_part (turned_onto ds [])) ≡ length (flat side_part ds) + 0 = onto-bytes ds [] in
    let e0 = length-append (bytes "[face") (flat side_part (turned_onto ds []) ++ bytes "]\n") in
    let e1 = length-append (bytes "[face") (flat side_part ds ++ bytes "]\n") in
    let e2 = length-append (flat side_part (turned_onto ds [])) (bytes "]\n") in
    let e3 = length-append (flat side_part ds) (bytes "]\n") in
    omega arith

pub faces-bytes : (c : Choice) (fs : List (List Side)) → length (flat text_face_line (turned_faces c fs)) ≡ length (flat text_face_line fs)
unfolding turned_faces flat
faces-bytes c [] = refl
faces-bytes c (f ∷ fs) =
    let r = faces-bytes (λ k. c (suc k)) fs in
    let b = face-bytes (c 0) f in
    let e0 = length-append (text_face_line (turned_if (c 0) f)) (flat text_face_line (turned_faces (λ k. c (suc k)) fs)) in
    let e1 = length-append (text_face_line f) (flat text_face_line fs) in
    omega arith

pub length-turned : (c : Choice) (t : TextMesh) → length (printed_text (turned_text c t)) ≡ length (printed_text t)
length-turned c t =
    joined (head_line t.version) (flat text_point_line t.points) (flat text_face_line (turned_faces c t.faces)) (flat text_face_line t.faces)
    (faces-bytes c t.faces)
  where
    joined :
        (h p f g : List ℕ) → length f ≡ length g → length (h ++ (p ++ (f ++ bytes "[end]\n"))) ≡ length (h ++ (p ++ (g ++ bytes "[end]\n")))
    joined h p f g e =
        let a0 = length-append h (p ++ (f ++ bytes "[end]\n")) in
        let a1 = length-append p (f ++ bytes "[end]\n") in
        let a2 = length-append f (bytes "[end]\n") in
        let b0 = length-append h (p ++ (g ++ bytes "[end]\n")) in
        let b1 = length-append p (g ++ bytes "[end]\n") in
        let b2 = length-append g (bytes "[end]\n") in
        omega arith

-- ---- widths

backward-fit : (a : ℕ) (ps qs : List Listed) → a < 4294967296 → All FitListed ps → All FitListed qs → FitSide (backward_from a ps qs)
unfolding backward_from
backward-fit a [] qs h ps-fit qs-fit = (h, qs-fit)
backward-fit a (p ∷ ps) qs h ((hp, hi), ps-fit) qs-fit =
    backward-fit p.point ps (record { point = a; interval = p.interval } ∷ qs) hp ps-fit ((h, hi), qs-fit)

onto-fit : (ds es : List Side) → All FitSide ds → All FitSide es → All FitSide (turned_onto ds es)
unfolding turned_onto
onto-fit [] es ds-fit es-fit = es-fit
onto-fit (d ∷ ds) es ((h, hp), ds-fit) es-fit =
    onto-fit ds (backward d ∷ es) ds-fit (backward-fit d.first d.listed [] h hp tt, es-fit)

face-fit : (t : Bool) (ds : List Side) → FitTextFace ds → FitTextFace (turned_if t ds)
face-fit false ds h = h
face-fit true ds (e, h) = (turned-count true ds ∙ e, onto-fit ds [] h tt)

faces-fit : (c : Choice) (fs : List (List Side)) → All FitTextFace fs → All FitTextFace (turned_faces c fs)
unfolding turned_faces
faces-fit c [] h = tt
faces-fit c (f ∷ fs) (h, hs) = (face-fit (c 0) f h, faces-fit (λ k. c (suc k)) fs hs)

pub fit-turned : (c : Choice) (t : TextMesh) → FitText t → FitText (turned_text c t)
fit-turned c t h = record { points-fit = h.points-fit; faces-fit = faces-fit c t.faces h.faces-fit }

pub four-of-fit : (t : TextMesh) → FitText t → Four t
four-of-fit t h = go t.faces h.faces-fit
  where
    go : (fs : List (List Side)) → All FitTextFace fs → (f : ℕ) → f < length fs → length (get_or fs f []) ≡ 4
    go [] h f b = absurd (omega arith)
    go (x ∷ fs) (h, hs) zero b = h.0
    go (x ∷ fs) (h, hs) (suc f) b = go fs hs f (omega arith)
