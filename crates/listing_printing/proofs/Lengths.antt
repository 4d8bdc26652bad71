-- How long the fields and the lines of a listing are. Assumes nothing.
--     words-start words_more words-bound              the words of a table, one more, and at most 21 bytes each
--     points-length edges-length faces-length      the lines of a kind, by the words of their table
use mathlib.Core.Path.{◌≡◌, refl, sym, ap, ◌∙◌}
use mathlib.Core.List.{List, [], ◌∷◌, ◌++◌}
use Prim.Native.Nat.{ℕ, zero, suc, ◌+◌, ◌*◌, ◌≤◌, ◌<◌}
use native.Mathlib.Nat.{suc-mul, min-le_left}
use native.Mathlib.Omega.{arith}
use lib.ListN.{length, get_or, take, drop, length-append, length-take}
use lib.Seq.{take-add}
use lib.Ieee.{Float}
use Rattle.text_numbers.specs.Form.{bytes}
use Rattle.tables.specs.Mesh.{mesh_of}
use Rattle.mesh_lines.specs.Grammar.{flat}
use Rattle.mesh_answers.specs.Lines.{decimal_digits, number_field, bits_field}
use Rattle.mesh_answers.proofs.Laws.{length-number, length-bits}
use Rattle.listings.specs.Printing.{ListedRow, point_line, edge_line, face_line}
use Rattle.listings.specs.Handing.{up_to, point_line_row, edge_line_row, face_line_row}
use Rattle.listing_printing.specs.Fields.{part, word_fields}
use Rattle.listings.proofs.Parts.{flat_append, flat-one, cells, part-cells}
use Rattle.listing_printing.proofs.Laws.{fields-more}

-- no words
pub words-start : (ws : List ℕ) → 0 ≡ length (word_fields ws 0 0)
unfolding flat
words-start ws = refl

pub words_more : (ws : List ℕ) (i : ℕ) → i < length ws
    → length (word_fields ws 0 (i + 1)) ≡ length (word_fields ws 0 i) + 1 + length (decimal_digits 20 (get_or ws i 0))
words_more ws i h =
    let e : 0 + i ≡ i = omega arith in
    let m = ap length (fields-more number_field 0 ws 0 i (omega arith)) in
    let l = length-append (word_fields ws 0 i) (number_field (get_or ws (0 + i) 0)) in
    let k : length (number_field (get_or ws (0 + i) 0)) ≡ 1 + length (decimal_digits 20 (get_or ws i 0)) = rw e (omega arith) in
    omega arith

-- all words
pub words-end : (ws : List ℕ) (i n : ℕ) → i ≤ n → n ≤ i → {r : ℕ} → r ≡ length (word_fields ws 0 i) → r ≡ length (word_fields ws 0 n)
words-end ws i n h g e = let q : i ≡ n = omega arith in e ∙ ap (λ (k : ℕ). length (word_fields ws 0 k)) q

flat-bound : (l : List ℕ) → length (flat number_field l) ≤ 21 * length l
unfolding flat
flat-bound [] = omega arith
flat-bound (v ∷ l) =
    let r = flat-bound l in
    let a = length-append (number_field v) (flat number_field l) in
    let b = length-number v in
    omega arith

pub words-bound : (ws : List ℕ) (n : ℕ) → length (word_fields ws 0 n) ≤ 21 * n
words-bound ws n =
    let b = flat-bound (part ws 0 n) in
    let t = length-take n (drop 0 ws) in
    let m = min-le_left n (length (drop 0 ws)) in
    omega arith

bits-length : (l : List ℕ) → length (flat bits_field l) ≡ 17 * length l
unfolding flat
bits-length [] = refl
bits-length (v ∷ l) =
    let r = bits-length l in
    let a = length-append (bits_field v) (flat bits_field l) in
    let b = length-bits v in
    omega arith

-- one row of w words more
words_row : (ws : List ℕ) (b w : ℕ) → b + w ≤ length ws
    → length (word_fields ws 0 (b + w)) ≡ length (word_fields ws 0 b) + length (flat number_field (cells 0 ws b w))
words_row ws b w h =
    ap (λ (l : List ℕ). length (flat number_field l)) (take-add b w ws) ∙ ap length (flat_append number_field (take b ws) (take w (drop b ws)))
    ∙ length-append (flat number_field (take b ws)) (flat number_field (take w (drop b ws)))
    ∙ ap (λ (l : List ℕ). length (flat number_field (take b ws)) + length (flat number_field l)) (part-cells 0 ws b w h)

lines-length : (f : ListedRow → List ℕ) (g : ℕ → ListedRow) (c w : ℕ) (ws : List ℕ)
    → ((p : ℕ) → length (f (g p)) ≡ c + length (flat number_field (cells 0 ws (p * w) w)))
    → (n : ℕ) → n * w ≤ length ws → length (flat f (up_to n g)) ≡ n * c + length (word_fields ws 0 (n * w))
unfolding up_to flat
lines-length f g c w ws e zero h = let y : 0 * c ≡ 0 = omega arith in let z : 0 * w ≡ 0 = omega arith in rw (y, z)
lines-length f g c w ws e (suc n) h =
    let sw = suc-mul n w in
    let sc = suc-mul n c in
    let r = lines-length f g c w ws e n (omega arith) in
    let row = words_row ws (n * w) w (omega arith) in
    let up : length (word_fields ws 0 (suc n * w)) ≡ length (word_fields ws 0 (n * w + w)) = ap (λ (k : ℕ). length (word_fields ws 0 k)) sw in
    let s : length (flat f (up_to n g ++ (g n ∷ []))) ≡ length (flat f (up_to n g)) + length (f (g n)) =
    ap length (flat_append f (up_to n g) (g n ∷ [])) ∙ length-append (flat f (up_to n g)) (flat f (g n ∷ []))
    ∙ ap (λ (l : List ℕ). length (flat f (up_to n g)) + length l) (flat-one f (g n)) in
    let one = e n in
    omega arith

point-length : (r : ListedRow) → length r.numbers ≡ 3 → length (point_line r) ≡ 59 + length (flat number_field r.words)
point-length r h =
    let b = bits-length r.numbers in
    let a1 = length-append (flat bits_field r.numbers) (flat number_field r.words) in
    let a2 = length-append (flat bits_field r.numbers ++ flat number_field r.words) (bytes "]\n") in
    omega arith

edge-length : (r : ListedRow) → length r.numbers ≡ 1 → length (edge_line r) ≡ 24 + length (flat number_field r.words)
edge-length r h =
    let b = bits-length r.numbers in
    let a1 = length-append (flat number_field r.words) (flat bits_field r.numbers) in
    let a2 = length-append (flat number_field r.words ++ flat bits_field r.numbers) (bytes "]\n") in
    omega arith

face-length : (r : ListedRow) → length (face_line r) ≡ 7 + length (flat number_field r.words)
face-length r = let a = length-append (flat number_field r.words) (bytes "]\n") in omega arith

module _ (n : ℕ) where
  pub points-length : (xs : List Float) (ws : List ℕ) → n * 3 ≤ length ws
      → length (flat point_line (up_to n (point_line_row (mesh_of xs ws [] [] [])))) ≡ n * 59 + length (word_fields ws 0 (n * 3))
  points-length xs ws h =
      lines-length point_line (point_line_row (mesh_of xs ws [] [] [])) 59 3 ws (λ p. point-length (point_line_row (mesh_of xs ws [] [] []) p) refl) n h

  pub edges-length : (ws : List ℕ) (xs : List Float) → n * 8 ≤ length ws
      → length (flat edge_line (up_to n (edge_line_row (mesh_of [] [] ws xs [])))) ≡ n * 24 + length (word_fields ws 0 (n * 8))
  edges-length ws xs h =
      lines-length edge_line (edge_line_row (mesh_of [] [] ws xs [])) 24 8 ws (λ e. edge-length (edge_line_row (mesh_of [] [] ws xs []) e) refl) n h

  pub faces-length : (ws : List ℕ) → n * 5 ≤ length ws
      → length (flat face_line (up_to n (face_line_row (mesh_of [] [] [] [] ws)))) ≡ n * 7 + length (word_fields ws 0 (n * 5))
  faces-length ws h = lines-length face_line (face_line_row (mesh_of [] [] [] [] ws)) 7 5 ws (λ f. face-length (face_line_row (mesh_of [] [] [] [] ws) f)) n h
