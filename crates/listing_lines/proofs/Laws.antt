-- How far the lines of a listing go, and how many numbers and words they have. Assumes nothing.
--     takes-word takes-point takes-edge takes-face
--     word_below fits-point fits-edge fits-face
--     last-is last_none last-next         what an answer of `words` says
use mathlib.Core.Path.{◌≡◌, refl}
use mathlib.Core.List.{List, ◌∷◌}
use Prim.Native.Nat.{ℕ, ◌<◌}
use native.Mathlib.Omega.{arith}
use lib.Dec.{ltb}
use Rattle.std.specs.Prelude.{Some, None}
use Rattle.std.proofs.lemmas.Option.{some_pair_parts}
use Rattle.text_numbers.specs.Form.{bytes, Parsed, parsed, unparsed, onward, pure, choose, times, literal}
use Rattle.text_numbers.proofs.Laws.{length-times, Takes, length-total, takes_none, takes-pure, takes-bind, takes-choose, takes-times, takes-literal, takes-decimal}
use Rattle.mesh_lines.specs.Grammar.{coordinate_form}
use Rattle.mesh_lines.proofs.Laws.{takes-coordinate}
use Rattle.listings.specs.Printing.{ListedRow, last, Fits}
use Rattle.listings.specs.Grammar.{word_form, point_row_form, edge_row_form, face_row_form}
use Rattle.listings.proofs.Exact.{exact_word}
use Rattle.listings.proofs.Lines.{exact-point, exact-edge, exact-face}
use Rattle.listing_lines.specs.Parts.{last_word}

pub last-is : (x : Parsed (List ℕ)) {v b n : ℕ} → last_word v x ≡ Some (b, n) → (ws : List ℕ) × (x ≡ parsed ws n) × (last v ws ≡ b)
last-is (parsed ws m) e = let p = some_pair_parts _ _ _ _ e in (ws, cc, p.0)
last-is unparsed e = let z : ◌≡◌ {A = ℕ} 0 1 = cc in absurd (omega arith)

pub last_none : (v : ℕ) (x : Parsed (List ℕ)) → last_word v x ≡ None → x ≡ unparsed
last_none v (parsed ws n) e = cc
last_none v unparsed e = refl

-- the same after one more word was found
pub last-next : (v b : ℕ) (x : Parsed (List ℕ)) → last_word v (onward (λ ws. pure (b ∷ ws)) x) ≡ last_word b x
last-next v b (parsed ws n) = refl
last-next v b unparsed = refl

module _ (s : List ℕ) where
  pub word_below : (at v n : ℕ) → word_form s at ≡ parsed v n → v < 4294967296
  word_below at v n e = ((exact_word s).sound at v n e).0

  pub takes-word : Takes s 0 (λ v. 1) (word_form s)
  unfolding word_form
  takes-word =
      takes-bind s 0 (λ z. 1) _ (literal s (bytes " ")) _ (takes-literal s (bytes " ") refl) λ z at h a n e.
      let r = takes-decimal s at h a n e in omega arith

  -- k words take at least k bytes
  pub takes-words : (k : ℕ) → Takes s 0 (λ ws. k) (times k (word_form s))
  takes-words k at h ws n e =
      let t = takes-times s (λ v. 1) (word_form s) k takes-word at h ws n e in
      let l = length-total (λ v. 1) ws (λ v. omega arith) in
      let c = length-times (word_form s) k at ws n e in
      omega arith

  pub takes-coordinates : (k : ℕ) → Takes s 0 (λ xs. k) (times k (coordinate_form s))
  takes-coordinates k at h xs n e =
      let t = takes-times s (λ v. 1) (coordinate_form s) k (takes-coordinate s) at h xs n e in
      let l = length-total (λ v. 1) xs (λ v. omega arith) in
      let c = length-times (coordinate_form s) k at xs n e in
      omega arith

  pub takes-point : Takes s 0 (λ r. 3) (point_row_form s)
  unfolding point_row_form
  takes-point =
      takes-bind s 0 (λ xs. 3) _ (times 3 (coordinate_form s)) _ (takes-coordinates 3) λ xs.
      takes-bind s _ (λ ws. 3) _ (times 3 (word_form s)) _ (takes-words 3) λ ws.
      takes-bind s _ (λ z. 0) _ (choose (ltb (last 0 ws) 2) (literal s (bytes "]\n")) (λ at. unparsed)) _
      (takes-choose s 0 (λ z. 0) (ltb (last 0 ws) 2) (literal s (bytes "]\n")) (λ at. unparsed) shorter (takes_none s 0 (λ z. 0))) λ z.
      takes-pure s _ _ _ (omega arith)
    where
      shorter : Takes s 0 (λ z. 0) (literal s (bytes "]\n"))
      shorter at h a n e = let t = takes-literal s (bytes "]\n") refl at h a n e in omega arith

  pub takes-edge : Takes s 0 (λ r. 8) (edge_row_form s)
  unfolding edge_row_form
  takes-edge =
      takes-bind s 0 (λ ws. 8) _ (times 8 (word_form s)) _ (takes-words 8) λ ws.
      takes-bind s _ (λ xs. 1) _ (times 1 (coordinate_form s)) _ (takes-coordinates 1) λ xs.
      takes-bind s _ (λ z. 2) _ (literal s (bytes "]\n")) _ (takes-literal s (bytes "]\n") refl) λ z.
      takes-pure s _ _ _ (omega arith)

  pub takes-face : Takes s 0 (λ r. 5) (face_row_form s)
  unfolding face_row_form
  takes-face =
      takes-bind s 0 (λ ws. 5) _ (times 5 (word_form s)) _ (takes-words 5) λ ws.
      takes-bind s _ (λ z. 2) _ (literal s (bytes "]\n")) _ (takes-literal s (bytes "]\n") refl) λ z.
      takes-pure s _ _ _ (omega arith)

  -- the numbers and words of a row
  pub fits-point : (at : ℕ) (r : ListedRow) (n : ℕ) → point_row_form s at ≡ parsed r n → Fits 3 3 r
  fits-point at r n e = ((exact-point s).sound at r n e).0.0

  pub fits-edge : (at : ℕ) (r : ListedRow) (n : ℕ) → edge_row_form s at ≡ parsed r n → Fits 1 8 r
  fits-edge at r n e = ((exact-edge s).sound at r n e).0

  pub fits-face : (at : ℕ) (r : ListedRow) (n : ℕ) → face_row_form s at ≡ parsed r n → Fits 0 5 r
  fits-face at r n e = ((exact-face s).sound at r n e).0
