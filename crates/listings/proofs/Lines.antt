-- The lines of a listing are found exactly where they are printed. Assumes nothing.
--     point_fields edge_fields face_fields      a line after its head
--     exact-point exact-edge exact-face
use mathlib.Core.Path.{◌≡◌, refl, sym, ap, ◌∙◌}
use mathlib.Core.List.{List, [], ◌∷◌, ◌++◌}
use mathlib.Core.Bool.{Bool, true, false}
use Prim.Native.Nat.{ℕ, ◌+◌, ◌≤◌, ◌<◌}
use native.Mathlib.Omega.{arith}
use lib.ListN.{length, get_or, length-append}
use lib.Dec.{ltb}
use borrow.Author.Tests.{lt-ltb, ltb-true}
use Rattle.text_numbers.specs.Form.{bytes, Parsed, parsed, unparsed, Form, onward, pure, choose, times, stands, literal}
use Rattle.text_numbers.specs.Numbers.{digit_value}
use Rattle.text_numbers.proofs.Laws.{onward-found}
use Rattle.text_numbers.proofs.Turns.{literal-found}
use Rattle.mesh_lines.specs.Grammar.{coordinate_form, flat}
use Rattle.mesh_answers.specs.Lines.{number_field, bits_field}
use Rattle.listings.specs.Printing.{ListedRow, All, last, Fits, FitPoint, FitEdge, FitFace}
use Rattle.listings.specs.Grammar.{word_form, point_row_form, edge_row_form, face_row_form}
use Rattle.listings.proofs.Exact.{Exact, Prints, Leads, NoDigit, prints-same, stands-both, stands_parts}
use Rattle.listings.proofs.Exact.{stands_at, first-stands, literal-stands, leads-flat, leads-word}
use Rattle.listings.proofs.Exact.{leads-coordinate, exact_word, exact-coordinate, exact-times}

abbrev pub point_fields : ListedRow → List ℕ
point_fields r = (flat bits_field r.numbers ++ flat number_field r.words) ++ bytes "]\n"

abbrev pub edge_fields : ListedRow → List ℕ
edge_fields r = (flat number_field r.words ++ flat bits_field r.numbers) ++ bytes "]\n"

abbrev pub face_fields : ListedRow → List ℕ
face_fields r = flat number_field r.words ++ bytes "]\n"

module _ (s : List ℕ) where
  -- the end of a line is no digit
  end-leads : (n : ℕ) → stands s n (bytes "]\n") ≡ true → NoDigit s n
  unfolding digit_value
  end-leads n e = rw (first-stands s n 93 (10 ∷ []) e).0 (omega arith)

  -- two runs of fields and the end of a line
  module _ (p q : Form ℕ) (pr pr' : ℕ → List ℕ) (Ok Ok' : ℕ → Type 0) (x : Exact s p pr Ok) (y : Exact s q pr' Ok') (lx : Leads s pr) (ly : Leads s pr') (j k : ℕ) where
    runs-sound : (at m m' n : ℕ) (xs ys : List ℕ) → times j p at ≡ parsed xs m → times k q m ≡ parsed ys m' → stands s m' (bytes "]\n") ≡ true → n ≡ m' + 2
        → (((length xs ≡ j) × All Ok xs) × ((length ys ≡ k) × All Ok' ys)) × (stands s at ((flat pr xs ++ flat pr' ys) ++ bytes "]\n") ≡ true)
        × (n ≡ at + length ((flat pr xs ++ flat pr' ys) ++ bytes "]\n"))
    runs-sound at m m' n xs ys ex ey es en =
        let (ox, sx, em) = (exact-times s p pr Ok x lx j).sound at xs m ex in
        let (oy, sy, em') = (exact-times s q pr' Ok' y ly k).sound m ys m' ey in
        let l1 = length-append (flat pr xs) (flat pr' ys) in
        let l2 = length-append (flat pr xs ++ flat pr' ys) (bytes "]\n") in
        let both = stands-both s (flat pr xs) (flat pr' ys) at sx (stands_at s (flat pr' ys) em sy) in
        let me : m' ≡ at + length (flat pr xs ++ flat pr' ys) = omega arith in
        ((ox, oy), stands-both s (flat pr xs ++ flat pr' ys) (bytes "]\n") at both (stands_at s (bytes "]\n") me es), omega arith)

    runs-complete : (at : ℕ) (xs ys : List ℕ) → (length xs ≡ j) × All Ok xs → (length ys ≡ k) × All Ok' ys
        → stands s at ((flat pr xs ++ flat pr' ys) ++ bytes "]\n") ≡ true
        → (times j p at ≡ parsed xs (at + length (flat pr xs)))
        × (times k q (at + length (flat pr xs)) ≡ parsed ys (at + length (flat pr xs) + length (flat pr' ys)))
        × (stands s (at + length (flat pr xs) + length (flat pr' ys)) (bytes "]\n") ≡ true)
    runs-complete at xs ys ox oy e =
        let (sb, se) = stands_parts s (flat pr xs ++ flat pr' ys) (bytes "]\n") at e in
        let (sx, sy) = stands_parts s (flat pr xs) (flat pr' ys) at sb in
        let l1 = length-append (flat pr xs) (flat pr' ys) in
        let me : at + length (flat pr xs ++ flat pr' ys) ≡ at + length (flat pr xs) + length (flat pr' ys) = omega arith in
        let st = stands_at s (bytes "]\n") me se in
        let ny = end-leads (at + length (flat pr xs) + length (flat pr' ys)) st in
        let nx = leads-flat s pr' ly (at + length (flat pr xs)) ys sy ny in
        ((exact-times s p pr Ok x lx j).complete at xs ox sx nx, (exact-times s q pr' Ok' y ly k).complete (at + length (flat pr xs)) ys oy sy ny, st)

  pub exact-point : Exact s (point_row_form s) point_fields FitPoint
  unfolding point_row_form
  exact-point = record { sound = sound; complete = complete }
    where
      ended : (at m m1 n : ℕ) (xs ws : List ℕ) (r : ListedRow) → times 3 (coordinate_form s) at ≡ parsed xs m
          → times 3 (word_form s) m ≡ parsed ws m1 → (b : Bool) → ltb (last 0 ws) 2 ≡ b
          → onward (λ z. pure (record { numbers = xs; words = ws })) (choose b (literal s (bytes "]\n")) (λ i. unparsed) m1) ≡ parsed r n
          → Prints s point_fields FitPoint at n r
      ended at m m1 n xs ws r ex ew true eb e =
          let (z, m2, ez, er) = onward-found (λ z. pure (record { numbers = xs; words = ws })) (literal s (bytes "]\n") m1) e in
          let rr : record { numbers = xs; words = ws } ≡ r = cc in
          let mn : m2 ≡ n = cc in
          let (st, em) = literal-stands s (bytes "]\n") m1 z m2 ez in
          let (oo, sr, en) =
          runs-sound (coordinate_form s) (word_form s) bits_field number_field _ _ (exact-coordinate s) (exact_word s)
          (leads-coordinate s) (leads-word s) 3 3 at m m1 n xs ws ex ew st (omega arith) in
          prints-same s point_fields FitPoint at n (record { numbers = xs; words = ws }) r rr
          ((record { number-count = oo.0.0; word_count = oo.1.0; numbers-below = oo.0.1; words-below = oo.1.1 }, ltb-true (last 0 ws) 2 eb), sr, en)
      ended at m m1 n xs ws r ex ew false eb e = let z : ◌≡◌ {A = ℕ} 0 1 = cc in absurd (omega arith)

      sound : (at : ℕ) (r : ListedRow) (n : ℕ) → point_row_form s at ≡ parsed r n → Prints s point_fields FitPoint at n r
      sound at r n e =
          let (xs, m, ex, e1) = onward-found _ (times 3 (coordinate_form s) at) e in
          let (ws, m1, ew, e2) = onward-found _ (times 3 (word_form s) m) e1 in
          ended at m m1 n xs ws r ex ew (ltb (last 0 ws) 2) refl e2

      complete : (at : ℕ) (r : ListedRow) → FitPoint r → stands s at (point_fields r) ≡ true
          → NoDigit s (at + length (point_fields r)) → point_row_form s at ≡ parsed r (at + length (point_fields r))
      complete at r (o, h) e g =
          let xs = r.numbers in
          let ws = r.words in
          let (ex, ew, es) = runs-complete (coordinate_form s) (word_form s) bits_field number_field _ _ (exact-coordinate s)
          (exact_word s) (leads-coordinate s) (leads-word s) 3 3 at xs ws (o.number-count, o.numbers-below)
          (o.word_count, o.words-below) e in
          let l1 = length-append (flat bits_field xs) (flat number_field ws) in
          let l2 = length-append (flat bits_field xs ++ flat number_field ws) (bytes "]\n") in
          let en : at + length (flat bits_field xs) + length (flat number_field ws) + 2 ≡ at + length (point_fields r) =
          omega arith in
          rw (
            ex,
            ew,
            lt-ltb (last 0 ws) 2 h,
            literal-found s (bytes "]\n") (at + length (flat bits_field xs) + length (flat number_field ws)) es,
          )
          (ap (parsed r) en)

  pub exact-edge : Exact s (edge_row_form s) edge_fields FitEdge
  unfolding edge_row_form
  exact-edge = record { sound = sound; complete = complete }
    where
      sound : (at : ℕ) (r : ListedRow) (n : ℕ) → edge_row_form s at ≡ parsed r n → Prints s edge_fields FitEdge at n r
      sound at r n e =
          let (ws, m, ew, e1) = onward-found _ (times 8 (word_form s) at) e in
          let (xs, m1, ex, e2) = onward-found _ (times 1 (coordinate_form s) m) e1 in
          let (z, m2, ez, er) = onward-found (λ z. pure (record { numbers = xs; words = ws })) (literal s (bytes "]\n") m1) e2 in
          let rr : record { numbers = xs; words = ws } ≡ r = cc in
          let mn : m2 ≡ n = cc in
          let (st, em) = literal-stands s (bytes "]\n") m1 z m2 ez in
          let (oo, sr, en) =
          runs-sound (word_form s) (coordinate_form s) number_field bits_field _ _ (exact_word s) (exact-coordinate s)
          (leads-word s) (leads-coordinate s) 8 1 at m m1 n ws xs ew ex st (omega arith) in
          prints-same s edge_fields FitEdge at n (record { numbers = xs; words = ws }) r rr
          (record { number-count = oo.1.0; word_count = oo.0.0; numbers-below = oo.1.1; words-below = oo.0.1 }, sr, en)

      complete : (at : ℕ) (r : ListedRow) → FitEdge r → stands s at (edge_fields r) ≡ true
          → NoDigit s (at + length (edge_fields r)) → edge_row_form s at ≡ parsed r (at + length (edge_fields r))
      complete at r o e g =
          let xs = r.numbers in
          let ws = r.words in
          let (ew, ex, es) = runs-complete (word_form s) (coordinate_form s) number_field bits_field _ _ (exact_word s)
          (exact-coordinate s) (leads-word s) (leads-coordinate s) 8 1 at ws xs (o.word_count, o.words-below)
          (o.number-count, o.numbers-below) e in
          let l1 = length-append (flat number_field ws) (flat bits_field xs) in
          let l2 = length-append (flat number_field ws ++ flat bits_field xs) (bytes "]\n") in
          let en : at + length (flat number_field ws) + length (flat bits_field xs) + 2 ≡ at + length (edge_fields r) =
          omega arith in
          rw (ew, ex, literal-found s (bytes "]\n") (at + length (flat number_field ws) + length (flat bits_field xs)) es)
          (ap (parsed r) en)

  pub exact-face : Exact s (face_row_form s) face_fields FitFace
  unfolding face_row_form
  exact-face = record { sound = sound; complete = complete }
    where
      words : Exact s (times 5 (word_form s)) (flat number_field) (λ l. (length l ≡ 5) × All (λ v. v < 4294967296) l)
      words = exact-times s (word_form s) number_field _ (exact_word s) (leads-word s) 5

      sound : (at : ℕ) (r : ListedRow) (n : ℕ) → face_row_form s at ≡ parsed r n → Prints s face_fields FitFace at n r
      sound at r n e =
          let (ws, m, ew, e1) = onward-found _ (times 5 (word_form s) at) e in
          let (z, m2, ez, er) = onward-found (λ z. pure (record { numbers = []; words = ws }))
          (literal s (bytes "]\n") m) e1 in
          let rr : record { numbers = []; words = ws } ≡ r = cc in
          let mn : m2 ≡ n = cc in
          let (st, em) = literal-stands s (bytes "]\n") m z m2 ez in
          let (ow, sw, ew') = words.sound at ws m ew in
          let l = length-append (flat number_field ws) (bytes "]\n") in
          prints-same s face_fields FitFace at n (record { numbers = []; words = ws }) r rr (
            record { number-count = refl; word_count = ow.0; numbers-below = tt; words-below = ow.1 },
            stands-both s (flat number_field ws) (bytes "]\n") at sw (stands_at s (bytes "]\n") ew' st),
            omega arith,
          )

      complete : (at : ℕ) (r : ListedRow) → FitFace r → stands s at (face_fields r) ≡ true
          → NoDigit s (at + length (face_fields r)) → face_row_form s at ≡ parsed r (at + length (face_fields r))
      complete at r o e g =
          let ws = r.words in
          let (sw, se) = stands_parts s (flat number_field ws) (bytes "]\n") at e in
          let ew = words.complete at ws (o.word_count, o.words-below) sw (end-leads (at + length (flat number_field ws)) se) in
          let l = length-append (flat number_field ws) (bytes "]\n") in
          let en : at + length (flat number_field ws) + 2 ≡ at + length (face_fields r) = omega arith in
          let unparsed : [] ≡ r.numbers = sym (empty r.numbers o.number-count) in
          rw (ew, literal-found s (bytes "]\n") (at + length (flat number_field ws)) se)
          (ap (λ (xs : List ℕ). parsed (record { numbers = xs; words = ws }) (at + length (flat number_field ws) + 2)) unparsed
          ∙ ap (parsed r) en)
        where
          empty : (xs : List ℕ) → length xs ≡ 0 → xs ≡ []
          empty [] h = refl
          empty (v ∷ xs) h = absurd (omega arith)
