-- How far the lines of a text go. Assumes nothing.
use mathlib.Core.List.{List, [], ◌∷◌}
use mathlib.Core.Path.{◌≡◌, refl, sym, ap, ◌∙◌}
use Prim.Native.Nat.{ℕ, ◌+◌}
use native.Mathlib.Omega.{arith}
use lib.ListN.{length, length-append, length-map}
use Rattle.text_numbers.specs.Form.{bytes, parsed, pure, times, literal, many}
use Rattle.text_numbers.specs.Numbers.{bits, decimal}
use Rattle.text_numbers.proofs.Laws.{onward-found, length-times, Takes, total, length-total, takes-pure, takes-bind, takes-times, takes-literal, takes-many, takes-bits, takes-decimal}
use Rattle.mesh_lines.specs.Grammar.{Side, coordinate_form, point_form, listed_form, side_form, face_form, flat, side_count, side_points, side_intervals}
use Rattle.mesh_lines.specs.Parts.{listed_in}

listed-total : (sides : List Side) → listed_in sides ≡ total (λ (p : Side). side_count p) sides
unfolding total flat
listed-total [] = refl
listed-total (p ∷ sides) =
    length-append (side_points p) (flat side_points sides)
    ∙ ap (λ (v : ℕ). v + listed_in sides) (length-map p.listed _)
    ∙ ap (λ (v : ℕ). side_count p + v) (listed-total sides)

-- a face lists as many intervals as points
pub same_count : (sides : List Side) → length (flat side_points sides) ≡ length (flat side_intervals sides)
unfolding flat
same_count [] = refl
same_count (p ∷ sides) =
    length-append (side_points p) (flat side_points sides)
    ∙ ap (λ (v : ℕ). v + length (flat side_points sides)) (length-map p.listed _ ∙ sym (length-map p.listed _))
    ∙ ap (λ (v : ℕ). length (side_intervals p) + v) (same_count sides)
    ∙ sym (length-append (side_intervals p) (flat side_intervals sides))

-- three coordinates, four sides
pub length-point : (s : List ℕ) (at : ℕ) (a : List ℕ) (n : ℕ) → point_form s at ≡ parsed a n → length a ≡ 3
unfolding point_form
length-point s at a n e =
    let (l, m, et, el) = onward-found _ (times 3 (coordinate_form s) at) e in
    let (z, m', ez, ea) = onward-found (λ z. pure l) (literal s (bytes "]\n") m) el in
    let la : l ≡ a = cc in
    rw la at (length-times (coordinate_form s) 3 at l m et)

pub length-face : (s : List ℕ) (at : ℕ) (a : List Side) (n : ℕ) → face_form s at ≡ parsed a n → length a ≡ 4
unfolding face_form
length-face s at a n e =
    let (l, m, et, el) = onward-found _ (times 4 (side_form s) at) e in
    let (z, m', ez, ea) = onward-found (λ z. pure l) (literal s (bytes "]\n") m) el in
    let la : l ≡ a = cc in
    rw la at (length-times (side_form s) 4 at l m et)

module _ (s : List ℕ) where
  pub takes-coordinate : Takes s 0 (λ v. 1) (coordinate_form s)
  unfolding coordinate_form
  takes-coordinate =
      takes-bind s 0 (λ z. 1) _ (literal s (bytes " ")) _ (takes-literal s (bytes " ") refl) λ z at h a n e.
      let r = takes-bits s at h a n e in omega arith

  pub takes-point : Takes s 0 (λ xyz. 0) (point_form s)
  unfolding point_form
  takes-point =
      takes-bind s 0 _ _ (times 3 (coordinate_form s)) _ (takes-times s (λ v. 1) (coordinate_form s) 3 takes-coordinate) λ xyz.
      takes-bind s _ (λ z. 2) _ (literal s (bytes "]\n")) _ (takes-literal s (bytes "]\n") refl) λ z.
      takes-pure s _ _ xyz (omega arith)

  pub takes-listed : Takes s 0 (λ p. 0) (listed_form s)
  unfolding listed_form
  takes-listed =
      takes-bind s 0 (λ v. 1) _ (decimal s) _ (takes-decimal s) λ p.
      takes-bind s _ (λ z. 1) _ (literal s (bytes " ")) _ (takes-literal s (bytes " ") refl) λ z.
      takes-bind s _ (λ v. 0) _ (bits s) _ (takes-bits s) λ d.
      takes-bind s _ (λ z. 1) _ (literal s (bytes "]")) _ (takes-literal s (bytes "]") refl) λ y.
      takes-pure s _ _ _ (omega arith)

  pub takes-side : Takes s 0 (λ p. side_count p) (side_form s)
  unfolding side_form
  takes-side =
      takes-bind s 0 (λ z. 2) _ (literal s (bytes " [")) _ (takes-literal s (bytes " [") refl) λ z.
      takes-bind s _ (λ v. 1) _ (decimal s) _ (takes-decimal s) λ v.
      takes-bind s _ _ _ (many s (bytes " [") (listed_form s) (length s)) _ (takes-many s (bytes " [") (λ p. 0) (listed_form s) (length s) refl takes-listed) λ ps.
      takes-bind s _ (λ z. 1) _ (literal s (bytes "]")) _ (takes-literal s (bytes "]") refl) λ y.
      takes-pure s _ _ (record { first = v; listed = ps }) (let h = length-total (λ p. 2 + 0) ps (λ p. omega arith) in omega arith)

  pub takes-sides : Takes s 0 (λ sides. listed_in sides) (times 4 (side_form s))
  takes-sides at h a n e =
      let t = takes-times s (λ (p : Side). side_count p) (side_form s) 4 takes-side at h a n e in
      let l = listed-total a in
      omega arith

  pub takes-face : Takes s 0 (λ sides. listed_in sides) (face_form s)
  unfolding face_form
  takes-face =
      takes-bind s 0 _ _ (times 4 (side_form s)) _ takes-sides λ sides.
      takes-bind s _ (λ z. 2) _ (literal s (bytes "]\n")) _ (takes-literal s (bytes "]\n") refl) λ z.
      takes-pure s _ _ sides (omega arith)
