-- The bytes of a text: where its face lines begin, and what is left after these are written anew. Assumes nothing.
--     points-bytes            the point lines of a text, 59 bytes each
--     written_over            the part in the middle of a list written over by another of its length
use mathlib.Core.Path.{◌≡◌, refl, sym, ap, ◌∙◌}
use mathlib.Core.List.{List, [], ◌∷◌, ◌++◌, append_assoc}
use Prim.Native.Nat.{ℕ, ◌+◌, ◌*◌, ◌≤◌}
use native.Mathlib.Omega.{arith}
use lib.ListN.{length, take, drop, length-append}
use lib.Seq.{sets, sets-eq, take-append_seam, drop-append-add, drop-append_seam}
use Rattle.text_numbers.specs.Form.{bytes}
use Rattle.mesh_lines.specs.Grammar.{flat}
use Rattle.mesh_answers.specs.Lines.{hex_bytes, bits_field}
use Rattle.mesh_answers.proofs.Laws.{length-hex}
use Rattle.listings.specs.Printing.{All}
use Rattle.mesh_printing.specs.Printing.{text_point_line, FitTextPoint}

fields-bytes : (xs : List ℕ) → length (flat bits_field xs) ≡ 17 * length xs
unfolding flat
fields-bytes [] = omega arith
fields-bytes (x ∷ xs) =
    let e = length-append (bits_field x) (flat bits_field xs) in
    let h = length-hex 16 x in
    let r = fields-bytes xs in
    omega arith

pub points-bytes : (ps : List (List ℕ)) → All FitTextPoint ps → length (flat text_point_line ps) ≡ 59 * length ps
unfolding flat
points-bytes [] h = omega arith
points-bytes (p ∷ ps) ((three, below), hs) =
    let e0 = length-append (text_point_line p) (flat text_point_line ps) in
    let e1 = length-append (bytes "[point") (flat bits_field p ++ bytes "]\n") in
    let e2 = length-append (flat bits_field p) (bytes "]\n") in
    let e3 = fields-bytes p in
    let r = points-bytes ps hs in
    omega arith

pub written_over :
    (h p f e g : List ℕ) (at : ℕ) → length g ≡ length f → at ≡ length h + length p →
    sets (h ++ (p ++ (f ++ e))) at g ≡ h ++ (p ++ (g ++ e))
written_over h p f e g at same place =
    ap (λ (l : List ℕ). sets l at g) (sym (append_assoc h p (f ++ e)))
    ∙ ap (λ (k : ℕ). sets front k g) (place ∙ sym (length-append h p))
    ∙ sets-eq g front (length (h ++ p)) room
    ∙ ap (λ (l : List ℕ). l ++ g ++ drop (length (h ++ p) + length g) front) (take-append_seam (h ++ p) (f ++ e))
    ∙ ap (λ (l : List ℕ). (h ++ p) ++ g ++ l)
    (drop-append-add (h ++ p) (f ++ e) (length g) ∙ ap (λ (k : ℕ). drop k (f ++ e)) same ∙ drop-append_seam f e)
    ∙ append_assoc (h ++ p) g e ∙ append_assoc h p (g ++ e)
  where
    front : List ℕ
    front = (h ++ p) ++ (f ++ e)

    room : length (h ++ p) + length g ≤ length ((h ++ p) ++ (f ++ e))
    room =
        let a = length-append (h ++ p) (f ++ e) in
        let b = length-append f e in
        omega arith
