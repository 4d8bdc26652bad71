-- The parts of a text are found exactly where they are printed. Assumes nothing.
--     point_fields face_fields         a line after its head
--     exact-point exact-face
use mathlib.Core.Path.{◌≡◌, refl, sym, ap, ◌∙◌}
use mathlib.Core.List.{List, [], ◌∷◌, ◌++◌}
use mathlib.Core.Bool.{true, false}
use Prim.Native.Nat.{ℕ, ◌+◌, ◌≤◌, ◌<◌}
use native.Mathlib.Omega.{arith}
use lib.ListN.{length, get_or, length-append}
use Rattle.text_numbers.specs.Form.{bytes, Parsed, parsed, Form, onward, pure, times, stands, literal, many}
use Rattle.text_numbers.specs.Numbers.{digit_value, bits, decimal}
use Rattle.text_numbers.proofs.Laws.{inside, onward-found, decimal-below}
use Rattle.text_numbers.proofs.Turns.{literal-found}
use Rattle.mesh_lines.specs.Grammar.{Listed, Side, coordinate_form, point_form, listed_form, side_form, face_form, flat}
use Rattle.mesh_answers.specs.Lines.{decimal_bytes, decimal_digits, hex_bytes, bits_field}
use Rattle.mesh_answers.proofs.Laws.{length-hex}
use Rattle.mesh_answers.proofs.RoundTrip.{decimal-of-decimal_bytes, bits-of-hex_bytes}
use Rattle.mesh_answers.proofs.Printed.{decimal_bytes-of-decimal, hex_bytes-of-bits}
use Rattle.listings.specs.Printing.{All}
use Rattle.listings.proofs.Exact.{Exact, Prints, Leads, NoDigit, prints-same, stands-both, stands_parts, stands_at, first-stands, literal-stands}
use Rattle.listings.proofs.Exact.{leads-flat, leads-coordinate, exact-coordinate, exact-times, sound-many, complete-many}
use Rattle.listings.proofs.Whole.{flat-longer}
use Rattle.mesh_printing.specs.Printing.{listed_part, side_part, FitListed, FitSide, FitTextPoint, FitTextFace}

-- after ` [`
abbrev listed_fields : Listed → List ℕ
listed_fields p = decimal_bytes p.point ++ (bits_field p.interval ++ bytes "]")

abbrev pub point_fields : List ℕ → List ℕ
point_fields xyz = flat bits_field xyz ++ bytes "]\n"

abbrev pub face_fields : List Side → List ℕ
face_fields ds = flat side_part ds ++ bytes "]\n"

module _ (s : List ℕ) where
  -- a bracket and a space are no digits
  closing-leads : (n : ℕ) (xs : List ℕ) → stands s n (93 ∷ xs) ≡ true → NoDigit s n
  unfolding digit_value
  closing-leads n xs e = rw (first-stands s n 93 xs e).0 (omega arith)

  space-leads : (n : ℕ) (xs : List ℕ) → stands s n (32 ∷ xs) ≡ true → NoDigit s n
  unfolding digit_value
  space-leads n xs e = rw (first-stands s n 32 xs e).0 (omega arith)

  leads-listed : Leads s listed_part
  leads-listed at p e = space-leads at (91 ∷ listed_fields p) e

  leads-side : Leads s side_part
  leads-side at d e = space-leads at _ e

  -- a closing bracket begins no listed point
  stops : (m : ℕ) → get_or s m 0 ≡ 93 → stands s m (bytes " [") ≡ false
  unfolding stands
  stops m h = rw h

  exact-listed : Exact s (listed_form s) listed_fields FitListed
  unfolding listed_form
  exact-listed = record { sound = sound; complete = complete }
    where
      sound : (at : ℕ) (a : Listed) (n : ℕ) → listed_form s at ≡ parsed a n → Prints s listed_fields FitListed at n a
      sound at a n e =
          let (p, m, ep, e1) = onward-found _ (decimal s at) e in
          let (z, m1, ez, e2) = onward-found _ (literal s (bytes " ") m) e1 in
          let (d, m2, ed, e3) = onward-found _ (bits s m1) e2 in
          let (z2, m3, ez2, e4) = onward-found (λ z. pure (record { point = p; interval = d })) (literal s (bytes "]") m2) e3 in
          let rr : record { point = p; interval = d } ≡ a = cc in
          let mn : m3 ≡ n = cc in
          let (sd, em) = decimal_bytes-of-decimal s at p m ep in
          let (st, em1) = literal-stands s (bytes " ") m z m1 ez in
          let (sb, em2, below) = hex_bytes-of-bits s m1 d m2 ed in
          let (se, em3) = literal-stands s (bytes "]") m2 z2 m3 ez2 in
          let lh = length-hex 16 d in
          let field : stands s m (bits_field d) ≡ true = stands-both s (bytes " ") (hex_bytes 16 d) m st (stands_at s (hex_bytes 16 d) em1 sb) in
          let l1 = length-append (bits_field d) (bytes "]") in
          let l2 = length-append (decimal_bytes p) (bits_field d ++ bytes "]") in
          let place : m2 ≡ m + length (bits_field d) = omega arith in
          let rest = stands-both s (bits_field d) (bytes "]") m field (stands_at s (bytes "]") place se) in
          let whole = stands-both s (decimal_bytes p) (bits_field d ++ bytes "]") at sd (stands_at s (bits_field d ++ bytes "]") em rest) in
          let end : n ≡ at + length (listed_fields (record { point = p; interval = d })) = omega arith in
          prints-same s listed_fields FitListed at n (record { point = p; interval = d }) a rr ((decimal-below s at p m ep, below), whole, end)

      complete : (at : ℕ) (a : Listed) → FitListed a → stands s at (listed_fields a) ≡ true → NoDigit s (at + length (listed_fields a))
          → listed_form s at ≡ parsed a (at + length (listed_fields a))
      complete at a (hp, hd) e g =
          let p = a.point in
          let d = a.interval in
          let m = at + length (decimal_bytes p) in
          let (sd, r) = stands_parts s (decimal_bytes p) (bits_field d ++ bytes "]") at e in
          let (sf, se) = stands_parts s (bits_field d) (bytes "]") m r in
          let (st, sh) = stands_parts s (bytes " ") (hex_bytes 16 d) m sf in
          let i = inside s m (rw (first-stands s m 32 (hex_bytes 16 d) sf).0 (omega arith)) in
          let lh = length-hex 16 d in
          let l1 = length-append (bits_field d) (bytes "]") in
          let l2 = length-append (decimal_bytes p) (bits_field d ++ bytes "]") in
          let place : m + length (bits_field d) ≡ m + 1 + 16 = omega arith in
          let en : m + 1 + 16 + 1 ≡ at + length (listed_fields a) = omega arith in
          let ed = decimal-of-decimal_bytes s at p (omega arith) hp sd (leads-coordinate s m d sf) in
          let eb = bits-of-hex_bytes s (m + 1) d hd sh in
          let se1 = stands_at s (bytes "]") place se in
          rw (ed, literal-found s (bytes " ") m st, eb, literal-found s (bytes "]") (m + 1 + 16) se1) (ap (parsed a) en)

  exact-side : Exact s (side_form s) side_part FitSide
  unfolding side_form
  exact-side = record { sound = sound; complete = complete }
    where
      sound : (at : ℕ) (d : Side) (n : ℕ) → side_form s at ≡ parsed d n → Prints s side_part FitSide at n d
      sound at d n e =
          let (z, m0, ez, e1) = onward-found _ (literal s (bytes " [") at) e in
          let (a, m1, ea, e2) = onward-found _ (decimal s m0) e1 in
          let (ps, m2, ep, e3) = onward-found _ (many s (bytes " [") (listed_form s) (length s) m1) e2 in
          let (z2, m3, ez2, e4) = onward-found (λ z. pure (record { first = a; listed = ps })) (literal s (bytes "]") m2) e3 in
          let dd : record { first = a; listed = ps } ≡ d = cc in
          let mn : m3 ≡ n = cc in
          let (st, em0) = literal-stands s (bytes " [") at z m0 ez in
          let (sd, em1) = decimal_bytes-of-decimal s m0 a m1 ea in
          let (ok, sp, em2) = sound-many s (bytes " [") (listed_form s) listed_fields FitListed exact-listed (length s) m1 ps m2 ep in
          let (se, em3) = literal-stands s (bytes "]") m2 z2 m3 ez2 in
          let l1 = length-append (flat listed_part ps) (bytes "]") in
          let l2 = length-append (decimal_bytes a) (flat listed_part ps ++ bytes "]") in
          let l3 = length-append (bytes " [") (decimal_bytes a ++ (flat listed_part ps ++ bytes "]")) in
          let r1 = stands-both s (flat listed_part ps) (bytes "]") m1 sp (stands_at s (bytes "]") em2 se) in
          let r2 = stands-both s (decimal_bytes a) (flat listed_part ps ++ bytes "]") m0 sd (stands_at s (flat listed_part ps ++ bytes "]") em1 r1) in
          let r3 = stands-both s (bytes " [") (decimal_bytes a ++ (flat listed_part ps ++ bytes "]")) at st
          (stands_at s (decimal_bytes a ++ (flat listed_part ps ++ bytes "]")) em0 r2) in
          let end : n ≡ at + length (side_part (record { first = a; listed = ps })) = omega arith in
          prints-same s side_part FitSide at n (record { first = a; listed = ps }) d dd ((decimal-below s m0 a m1 ea, ok), r3, end)

      complete : (at : ℕ) (d : Side) → FitSide d → stands s at (side_part d) ≡ true → NoDigit s (at + length (side_part d))
          → side_form s at ≡ parsed d (at + length (side_part d))
      complete at d (hf, ok) e g =
          let a = d.first in
          let ps = d.listed in
          let (st, r0) = stands_parts s (bytes " [") (decimal_bytes a ++ (flat listed_part ps ++ bytes "]")) at e in
          let (sd, r1) = stands_parts s (decimal_bytes a) (flat listed_part ps ++ bytes "]") (at + 2) r0 in
          let m1 = at + 2 + length (decimal_bytes a) in
          let (sp, se) = stands_parts s (flat listed_part ps) (bytes "]") m1 r1 in
          let m2 = m1 + length (flat listed_part ps) in
          let eb : get_or s m2 0 ≡ 93 = (first-stands s m2 93 [] se).0 in
          let i = inside s m2 (rw eb (omega arith)) in
          let n2 = closing-leads m2 [] se in
          let n1 = leads-flat s listed_part leads-listed m1 ps sp n2 in
          let more = flat-longer 32 (91 ∷ []) listed_fields ps in
          let l1 = length-append (flat listed_part ps) (bytes "]") in
          let l2 = length-append (decimal_bytes a) (flat listed_part ps ++ bytes "]") in
          let l3 = length-append (bytes " [") (decimal_bytes a ++ (flat listed_part ps ++ bytes "]")) in
          let ed = decimal-of-decimal_bytes s (at + 2) a (omega arith) hf sd n1 in
          let em = complete-many s (bytes " [") (listed_form s) listed_fields FitListed exact-listed (length s) m1 ps (omega arith) ok sp leads-listed n2
          (stops m2 eb) in
          let en : m2 + 1 ≡ at + length (side_part d) = omega arith in
          rw (literal-found s (bytes " [") at st, ed, em, literal-found s (bytes "]") m2 se) (ap (parsed d) en)

  -- fields and the end of a line
  module _ {A : Type 0} (p : Form A) (pr : A → List ℕ) (Ok : A → Type 0) (x : Exact s p pr Ok) (lx : Leads s pr) (k : ℕ) where
    exact-line :
        Exact s (λ at. onward (λ l i. onward (λ z. pure l) (literal s (bytes "]\n") i)) (times k p at)) (λ l. flat pr l ++ bytes "]\n")
        (λ l. (length l ≡ k) × All Ok l)
    exact-line = record { sound = sound; complete = complete }
      where
        sound : (at : ℕ) (l : List A) (n : ℕ) → onward (λ l i. onward (λ z. pure l) (literal s (bytes "]\n") i)) (times k p at) ≡ parsed l n
            → Prints s (λ l. flat pr l ++ bytes "]\n") (λ l. (length l ≡ k) × All Ok l) at n l
        sound at l n e =
            let (l', m, el, e1) = onward-found (λ l i. onward (λ z. pure l) (literal s (bytes "]\n") i)) (times k p at) e in
            let (z, m2, ez, er) = onward-found (λ z. pure l') (literal s (bytes "]\n") m) e1 in
            let ll : l' ≡ l = cc in
            let mn : m2 ≡ n = cc in
            let (st, em) = literal-stands s (bytes "]\n") m z m2 ez in
            let (ok, sl, em') = (exact-times s p pr Ok x lx k).sound at l' m el in
            let lg = length-append (flat pr l') (bytes "]\n") in
            let end : n ≡ at + length (flat pr l' ++ bytes "]\n") = omega arith in
            prints-same s (λ v. flat pr v ++ bytes "]\n") (λ v. (length v ≡ k) × All Ok v) at n l' l ll
            (ok, stands-both s (flat pr l') (bytes "]\n") at sl (stands_at s (bytes "]\n") em' st), end)

        complete : (at : ℕ) (l : List A) → (length l ≡ k) × All Ok l → stands s at (flat pr l ++ bytes "]\n") ≡ true
            → NoDigit s (at + length (flat pr l ++ bytes "]\n"))
            → onward (λ l i. onward (λ z. pure l) (literal s (bytes "]\n") i)) (times k p at) ≡ parsed l (at + length (flat pr l ++ bytes "]\n"))
        complete at l ok e g =
            let (sl, se) = stands_parts s (flat pr l) (bytes "]\n") at e in
            let el = (exact-times s p pr Ok x lx k).complete at l ok sl (closing-leads (at + length (flat pr l)) (10 ∷ []) se) in
            let lg = length-append (flat pr l) (bytes "]\n") in
            let en : at + length (flat pr l) + 2 ≡ at + length (flat pr l ++ bytes "]\n") = omega arith in
            rw (el, literal-found s (bytes "]\n") (at + length (flat pr l)) se) (ap (parsed l) en)

  pub exact-point : Exact s (point_form s) point_fields FitTextPoint
  unfolding point_form
  exact-point = exact-line (coordinate_form s) bits_field (λ v. v < 18446744073709551616) (exact-coordinate s) (leads-coordinate s) 3

  pub exact-face : Exact s (face_form s) face_fields FitTextFace
  unfolding face_form
  exact-face = exact-line (side_form s) side_part FitSide exact-side leads-side 4
