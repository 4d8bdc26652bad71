-- A text is a listing exactly if it is the printing of rows that fit. Assumes nothing.
--     printed-of-listing     what is read is the printing of its rows
--     listing-at             the printing of rows that fit is read back
-- What is `pub` besides serves the printing of mesh text 1 too (`mesh_printing`).
use mathlib.Core.Path.{◌≡◌, refl, sym, ap, ◌∙◌, subst}
use mathlib.Core.List.{List, [], ◌∷◌, ◌++◌}
use mathlib.Core.Bool.{Bool, true, false, ◌&&◌}
use Prim.Native.Nat.{ℕ, zero, suc, ◌+◌, ◌≤◌, ◌<◌}
use native.Mathlib.Nat.{add-zero}
use native.Mathlib.Omega.{arith}
use lib.ListN.{length, get_or, length-append}
use lib.Seq.{ext_get_or}
use lib.Dec.{eqb}
use borrow.Author.Tests.{eqb-true, eq-eqb}
use Rattle.text_numbers.specs.Form.{bytes, Parsed, parsed, unparsed, Form, onward, pure, choose, stands, literal, many}
use Rattle.text_numbers.specs.Numbers.{digit_value}
use Rattle.text_numbers.proofs.Laws.{and_both, onward-found}
use Rattle.text_numbers.proofs.Turns.{literal-found}
use Rattle.mesh_lines.specs.Grammar.{flat}
use Rattle.mesh_text.specs.Text.{ends}
use Rattle.listings.specs.Printing.{ListedRow, ListedRows, FitRows, FitPoint, FitEdge, FitFace, point_line, edge_line, face_line, printed}
use Rattle.listings.specs.Grammar.{point_row_form, edge_row_form, face_row_form, rows, listing}
use Rattle.listings.proofs.Exact.{NoDigit, Leads, stands-both, stands_parts, stands_at, first-stands, literal-stands, sound-many, complete-many}
use Rattle.listings.proofs.Lines.{point_fields, edge_fields, face_fields, exact-point, exact-edge, exact-face}

-- a text that stands as a whole
byte-of-stands : (s t : List ℕ) (at i : ℕ) → stands s at t ≡ true → i < length t → get_or s (at + i) 0 ≡ get_or t i 0
byte-of-stands s [] at i e h = absurd (omega arith)
byte-of-stands s (b ∷ t) at zero e h = rw (add-zero at) (first-stands s at b t e).0
byte-of-stands s (b ∷ t) at (suc i) e h =
    let p : at + suc i ≡ at + 1 + i = omega arith in
    rw p (byte-of-stands s t (at + 1) i (first-stands s at b t e).1 (omega arith))

pub whole-of-stands : (s t : List ℕ) → stands s 0 t ≡ true → length s ≡ length t → s ≡ t
whole-of-stands s t e h = ext_get_or 0 s t h λ i k. zero_left i ∙ byte-of-stands s t 0 i e (rw h at k)
  where
    zero_left : (i : ℕ) → get_or s i 0 ≡ get_or s (0 + i) 0
    zero_left i = let p : 0 + i ≡ i = omega arith in rw p

stands-of-bytes : (s t : List ℕ) (at : ℕ) → ((i : ℕ) → i < length t → get_or s (at + i) 0 ≡ get_or t i 0) → stands s at t ≡ true
unfolding stands
stands-of-bytes s [] at h = refl
stands-of-bytes s (b ∷ t) at h =
    let e : get_or s at 0 ≡ b = rw (add-zero at) at (h 0 (omega arith)) in
    rw (eq-eqb (get_or s at 0) b e) (stands-of-bytes s t (at + 1) λ i k. next i ∙ h (suc i) (omega arith))
  where
    next : (i : ℕ) → get_or s (at + 1 + i) 0 ≡ get_or s (at + suc i) 0
    next i = let p : at + 1 + i ≡ at + suc i = omega arith in rw p

pub stands-whole : (s : List ℕ) → stands s 0 s ≡ true
stands-whole s = stands-of-bytes s s 0 λ i k. let p : 0 + i ≡ i = omega arith in rw p

-- what is printed after a byte is at least one byte long
pub flat-longer : {A : Type 0} (b : ℕ) (t : List ℕ) (pr : A → List ℕ) (l : List A) → length l ≤ length (flat (λ a. (b ∷ t) ++ pr a) l)
unfolding flat
flat-longer b t pr [] = omega arith
flat-longer b t pr (a ∷ l) =
    let r = flat-longer b t pr l in
    let g = length-append ((b ∷ t) ++ pr a) (flat (λ a. (b ∷ t) ++ pr a) l) in
    omega arith

module _ (s : List ℕ) where
  -- the first bytes of a line that stands
  pub head : (n b0 b1 b2 : ℕ) (xs : List ℕ) → stands s n (b0 ∷ b1 ∷ b2 ∷ xs) ≡ true
      → (get_or s n 0 ≡ b0) × (get_or s (n + 1) 0 ≡ b1) × (get_or s (n + 1 + 1) 0 ≡ b2)
  head n b0 b1 b2 xs e =
      let (e0, r0) = first-stands s n b0 (b1 ∷ b2 ∷ xs) e in
      let (e1, r1) = first-stands s (n + 1) b1 (b2 ∷ xs) r0 in
      (e0, e1, (first-stands s (n + 1 + 1) b2 xs r1).0)

  pub bracket-leads : (n : ℕ) → get_or s n 0 ≡ 91 → NoDigit s n
  unfolding digit_value
  bracket-leads n e = rw e (omega arith)

  pub line-leads : {A : Type 0} (b : ℕ) (t : List ℕ) (pr : A → List ℕ) → Leads s (λ a. (91 ∷ b ∷ t) ++ pr a)
  line-leads b t pr at a e = bracket-leads at (first-stands s at 91 ((b ∷ t) ++ pr a) e).0

  -- what stands after the lines of a kind begins another line
  module _ (n : ℕ) (fs : List ListedRow) where
    after-edges : stands s n (flat face_line fs ++ bytes "[end]\n") ≡ true → NoDigit s n × (stands s n (bytes "[edge") ≡ false)
    unfolding flat stands
    after-edges e = go fs e
      where
        go : (fs : List ListedRow) → stands s n (flat face_line fs ++ bytes "[end]\n") ≡ true → NoDigit s n × (stands s n (bytes "[edge") ≡ false)
        go [] e = let (e0, e1, e2) = head n 91 101 110 (100 ∷ 93 ∷ 10 ∷ []) e in (bracket-leads n e0, rw (e0, e1, e2))
        go (f ∷ fs) e =
            let (h, r) = stands_parts s (bytes "[face") (face_fields f) n (stands_parts s (face_line f) (flat face_line fs) n (stands_parts s (flat face_line (f ∷ fs)) (bytes "[end]\n") n e).0).0 in
            let (e0, e1, e2) = head n 91 102 97 (99 ∷ 101 ∷ []) h in
            (bracket-leads n e0, rw (e0, e1))

    after-points : (es : List ListedRow) → stands s n (flat edge_line es ++ (flat face_line fs ++ bytes "[end]\n")) ≡ true → NoDigit s n × (stands s n (bytes "[point") ≡ false)
    unfolding flat stands
    after-points [] e = go fs e
      where
        go : (fs : List ListedRow) → stands s n (flat face_line fs ++ bytes "[end]\n") ≡ true → NoDigit s n × (stands s n (bytes "[point") ≡ false)
        go [] e = let (e0, e1, e2) = head n 91 101 110 (100 ∷ 93 ∷ 10 ∷ []) e in (bracket-leads n e0, rw (e0, e1))
        go (f ∷ fs) e =
            let (h, r) = stands_parts s (bytes "[face") (face_fields f) n (stands_parts s (face_line f) (flat face_line fs) n (stands_parts s (flat face_line (f ∷ fs)) (bytes "[end]\n") n e).0).0 in
            let (e0, e1, e2) = head n 91 102 97 (99 ∷ 101 ∷ []) h in
            (bracket-leads n e0, rw (e0, e1))
    after-points (a ∷ es) e =
        let (h, r) = stands_parts s (bytes "[edge") (edge_fields a) n
        (stands_parts s (edge_line a) (flat edge_line es) n
        (stands_parts s (flat edge_line (a ∷ es)) (flat face_line fs ++ bytes "[end]\n") n e).0).0 in
        let (e0, e1, e2) = head n 91 101 100 (103 ∷ 101 ∷ []) h in
        (bracket-leads n e0, rw (e0, e1))

  after-faces : (n : ℕ) → stands s n (bytes "[end]\n") ≡ true → NoDigit s n × (stands s n (bytes "[face") ≡ false)
  unfolding stands
  after-faces n e = let (e0, e1, e2) = head n 91 101 110 (100 ∷ 93 ∷ 10 ∷ []) e in (bracket-leads n e0, rw (e0, e1))

  -- the end line is the last
  pub end-of-ends : (n : ℕ) → ends s n ≡ true → (stands s n (bytes "[end]\n") ≡ true) × (n + 6 ≡ length s)
  unfolding ends
  end-of-ends n e =
      let (a, b) = and_both (stands s n (bytes "[end]\n")) (eqb (n + 6) (length s)) e in
      (a, eqb-true (n + 6) (length s) b)

  pub ends-of-end : (n : ℕ) → stands s n (bytes "[end]\n") ≡ true → n + 6 ≡ length s → ends s n ≡ true
  unfolding ends
  ends-of-end n a e = rw (a, eq-eqb (n + 6) (length s) e)

  -- the parts of a listing, one after the other
  parts-print : (ps es fs : List ListedRow) (i j k : ℕ) → stands s 0 (bytes "[mesh 3]\n") ≡ true
      → (stands s 9 (flat point_line ps) ≡ true) × (i ≡ 9 + length (flat point_line ps))
      → (stands s i (flat edge_line es) ≡ true) × (j ≡ i + length (flat edge_line es))
      → (stands s j (flat face_line fs) ≡ true) × (k ≡ j + length (flat face_line fs))
      → (stands s k (bytes "[end]\n") ≡ true) × (k + 6 ≡ length s)
      → s ≡ printed (record { points = ps; edges = es; faces = fs })
  parts-print ps es fs i j k h (sp, ei) (se, ej) (sf, ek) (sn, en) =
      let lf = length-append (flat face_line fs) (bytes "[end]\n") in
      let le = length-append (flat edge_line es) (flat face_line fs ++ bytes "[end]\n") in
      let lp = length-append (flat point_line ps) (flat edge_line es ++ (flat face_line fs ++ bytes "[end]\n")) in
      let f = stands-both s (flat face_line fs) (bytes "[end]\n") j sf (stands_at s (bytes "[end]\n") ek sn) in
      let e = stands-both s (flat edge_line es) (flat face_line fs ++ bytes "[end]\n") i se (stands_at s (flat face_line fs ++ bytes "[end]\n") ej f) in
      let p = stands-both s (flat point_line ps) (flat edge_line es ++ (flat face_line fs ++ bytes "[end]\n")) 9 sp (stands_at s (flat edge_line es ++ (flat face_line fs ++ bytes "[end]\n")) ei e) in
      whole-of-stands s (printed (record { points = ps; edges = es; faces = fs }))
      (stands-both s (bytes "[mesh 3]\n") (flat point_line ps ++ (flat edge_line es ++ (flat face_line fs ++ bytes "[end]\n"))) 0 h p)
      (omega arith)

  pub printed-of-listing : (t : ListedRows) (n : ℕ) → listing s ≡ parsed t n → FitRows t × (s ≡ printed t)
  unfolding listing rows
  printed-of-listing t n e =
      let (z, m, ez, e1) = onward-found _ (literal s (bytes "[mesh 3]\n") 0) e in
      let (st, em) = literal-stands s (bytes "[mesh 3]\n") 0 z m ez in
      let (ps, i, ep, e2) = onward-found _ (many s (bytes "[point") (point_row_form s) (length s) m) e1 in
      let (es, j, ee, e3) = onward-found _ (many s (bytes "[edge") (edge_row_form s) (length s) i) e2 in
      let (fs, k, ef, e4) = onward-found _ (many s (bytes "[face") (face_row_form s) (length s) j) e3 in
      let (en, et) = ended ps es fs k (ends s k) refl e4 in
      let (fp, sp, ip) = sound-many s (bytes "[point") (point_row_form s) point_fields FitPoint (exact-point s) (length s) m ps i ep in
      let (fe, se, je) = sound-many s (bytes "[edge") (edge_row_form s) edge_fields FitEdge (exact-edge s) (length s) i es j ee in
      let (ff, sf, kf) = sound-many s (bytes "[face") (face_row_form s) face_fields FitFace (exact-face s) (length s) j fs k ef in
      let all : s ≡ printed (record { points = ps; edges = es; faces = fs }) =
      parts-print ps es fs i j k st (stands_at s (flat point_line ps) em sp, moved m i ps em ip) (se, je) (sf, kf) (end-of-ends k en) in
      same (record { points = ps; edges = es; faces = fs }) et (record { points-fit = fp; edges_fit = fe; faces-fit = ff }) all
    where
      moved : (m i : ℕ) (ps : List ListedRow) → m ≡ 9 → i ≡ m + length (flat point_line ps) → i ≡ 9 + length (flat point_line ps)
      moved m i ps em ip = omega arith

      ended : (ps es fs : List ListedRow) (k : ℕ) (b : Bool) → ends s k ≡ b
          → choose b (pure (record { points = ps; edges = es; faces = fs })) (λ v. unparsed) k ≡ parsed t n
          → (ends s k ≡ true) × (record { points = ps; edges = es; faces = fs } ≡ t)
      ended ps es fs k true eb g = (eb, cc)
      ended ps es fs k false eb g = let z : ◌≡◌ {A = ℕ} 0 1 = cc in absurd (omega arith)

      same : (r : ListedRows) → r ≡ t → FitRows r → s ≡ printed r → FitRows t × (s ≡ printed t)
      same r er f e = (rw er at f, rw er at e)

pub listing-at : (s : List ℕ) (t : ListedRows) → FitRows t → s ≡ printed t → (n : ℕ) × (listing s ≡ parsed t n)
unfolding listing rows
listing-at s t f es =
    let ps = t.points in
    let eds = t.edges in
    let fs = t.faces in
    let tail = flat edge_line eds ++ (flat face_line fs ++ bytes "[end]\n") in
    let all : stands s 0 (printed t) ≡ true = subst (λ (v : List ℕ). stands s 0 v ≡ true) es (stands-whole s) in
    let len : length s ≡ length (printed t) = ap length es in
    let (h, r) = stands_parts s (bytes "[mesh 3]\n") (flat point_line ps ++ tail) 0 all in
    let (sp, r1) = stands_parts s (flat point_line ps) tail 9 r in
    let i = 9 + length (flat point_line ps) in
    let (se, r2) = stands_parts s (flat edge_line eds) (flat face_line fs ++ bytes "[end]\n") i r1 in
    let j = i + length (flat edge_line eds) in
    let (sf, sn) = stands_parts s (flat face_line fs) (bytes "[end]\n") j r2 in
    let k = j + length (flat face_line fs) in
    let lf = length-append (flat face_line fs) (bytes "[end]\n") in
    let le = length-append (flat edge_line eds) (flat face_line fs ++ bytes "[end]\n") in
    let lp = length-append (flat point_line ps) tail in
    let bp = flat-longer 91 (112 ∷ 111 ∷ 105 ∷ 110 ∷ 116 ∷ []) point_fields ps in
    let be = flat-longer 91 (101 ∷ 100 ∷ 103 ∷ 101 ∷ []) edge_fields eds in
    let bf = flat-longer 91 (102 ∷ 97 ∷ 99 ∷ 101 ∷ []) face_fields fs in
    let (np, hp) = after-points s i fs eds r1 in
    let (ne, he) = after-edges s j fs r2 in
    let (nf, hf) = after-faces s k sn in
    let cp = complete-many s (bytes "[point") (point_row_form s) point_fields FitPoint (exact-point s) (length s) 9 ps
    (omega arith) f.points-fit sp (line-leads s 112 (111 ∷ 105 ∷ 110 ∷ 116 ∷ []) point_fields) np hp in
    let ce = complete-many s (bytes "[edge") (edge_row_form s) edge_fields FitEdge (exact-edge s) (length s) i eds (omega arith)
    f.edges_fit se (line-leads s 101 (100 ∷ 103 ∷ 101 ∷ []) edge_fields) ne he in
    let cf = complete-many s (bytes "[face") (face_row_form s) face_fields FitFace (exact-face s) (length s) j fs (omega arith)
    f.faces-fit sf (line-leads s 102 (97 ∷ 99 ∷ 101 ∷ []) face_fields) nf hf in
    let k6 : k + 6 ≡ length s = omega arith in
    (k, rw (literal-found s (bytes "[mesh 3]\n") 0 h, cp, ce, cf, ends-of-end s k sn k6))
