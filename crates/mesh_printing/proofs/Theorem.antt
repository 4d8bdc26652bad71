-- A text is read as lists exactly if it is the printing of them. Assumes nothing.
--     text-exactly, not-text-exactly     the claims of `specs/Claims.antt`
use mathlib.Core.Path.{◌≡◌, refl, sym, ap, ◌∙◌, subst}
use mathlib.Core.List.{List, [], ◌∷◌, ◌++◌}
use mathlib.Core.Bool.{Bool, true, false}
use Prim.Native.Nat.{ℕ, ◌+◌, ◌≤◌}
use native.Mathlib.Omega.{arith}
use lib.ListN.{length, get_or, length-append}
use Rattle.text_numbers.specs.Form.{bytes, Parsed, parsed, unparsed, onward, pure, choose, stands, literal, many}
use Rattle.text_numbers.proofs.Laws.{onward-found}
use Rattle.text_numbers.proofs.Turns.{literal-found}
use Rattle.mesh_lines.specs.Grammar.{Side, point_form, face_form, flat}
use Rattle.built_meshes.specs.declared.Version.{Version}
use Rattle.built_meshes.specs.declared.Version.TheVariants.{One, Two}
use Rattle.mesh_text.specs.Text.{TextMesh, head_form, ends, mesh, text}
use Rattle.listings.proofs.Exact.{NoDigit, first-stands, stands-both, stands_parts, stands_at, literal-stands, sound-many, complete-many}
use Rattle.listings.proofs.Whole.{whole-of-stands, stands-whole, flat-longer, head, bracket-leads, line-leads, end-of-ends, ends-of-end}
use Rattle.mesh_printing.specs.Printing.{FitTextPoint, FitTextFace, FitText, head_line, text_point_line, text_face_line, printed_text}
use Rattle.mesh_printing.specs.Claims.{Printing, TextExactly, NotTextExactly}
use Rattle.mesh_printing.proofs.Parts.{point_fields, face_fields, exact-point, exact-face}

module _ (s : List ℕ) where
  -- what stands after the lines of a kind begins another line
  after-faces : (n : ℕ) → stands s n (bytes "[end]\n") ≡ true → NoDigit s n × (stands s n (bytes "[face") ≡ false)
  unfolding stands
  after-faces n e = let (e0, e1, e2) = head s n 91 101 110 (100 ∷ 93 ∷ 10 ∷ []) e in (bracket-leads s n e0, rw (e0, e1))

  after-points : (n : ℕ) (fs : List (List Side)) → stands s n (flat text_face_line fs ++ bytes "[end]\n") ≡ true
      → NoDigit s n × (stands s n (bytes "[point") ≡ false)
  unfolding flat stands
  after-points n [] e = let (e0, e1, e2) = head s n 91 101 110 (100 ∷ 93 ∷ 10 ∷ []) e in (bracket-leads s n e0, rw (e0, e1))
  after-points n (f ∷ fs) e =
      let (h, r) = stands_parts s (bytes "[face") (face_fields f) n
      (stands_parts s (text_face_line f) (flat text_face_line fs) n (stands_parts s (flat text_face_line (f ∷ fs)) (bytes "[end]\n") n e).0).0 in
      let (e0, e1, e2) = head s n 91 102 97 (99 ∷ 101 ∷ []) h in
      (bracket-leads s n e0, rw (e0, e1))

  head-long : (v : Version) → length (head_line v) ≡ 9
  head-long One = refl
  head-long Two = refl

  -- byte 6 is the number of the version
  number-1 : stands s 0 (bytes "[mesh 1]\n") ≡ true → get_or s 6 0 ≡ 49
  number-1 h = (first-stands s 6 49 (bytes "]\n") (stands_parts s (bytes "[mesh ") (bytes "1]\n") 0 h).1).0

  number-2 : stands s 0 (bytes "[mesh 2]\n") ≡ true → get_or s 6 0 ≡ 50
  number-2 h = (first-stands s 6 50 (bytes "]\n") (stands_parts s (bytes "[mesh ") (bytes "2]\n") 0 h).1).0

  not-1 : stands s 0 (bytes "[mesh 2]\n") ≡ true → (b : Bool) → stands s 0 (bytes "[mesh 1]\n") ≡ b → b ≡ false
  not-1 h true e = let a = number-1 e in let b = number-2 h in absurd (omega arith)
  not-1 h false e = refl

  -- the head is found exactly where it is printed_text
  head-printed : (v : Version) (m : ℕ) → head_form s 0 ≡ parsed v m → (stands s 0 (head_line v) ≡ true) × (m ≡ 9)
  unfolding head_form
  head-printed v m e = go (stands s 0 (bytes "[mesh 1]\n")) refl e
    where
      go : (b : Bool) → stands s 0 (bytes "[mesh 1]\n") ≡ b
          → choose b (λ i. onward (λ z. pure One) (literal s (bytes "[mesh 1]\n") i)) (λ i. onward (λ z. pure Two) (literal s (bytes "[mesh 2]\n") i)) 0
          ≡ parsed v m
          → (stands s 0 (head_line v) ≡ true) × (m ≡ 9)
      go true eb g =
          let (z, n, ez, er) = onward-found (λ z. pure One) (literal s (bytes "[mesh 1]\n") 0) g in
          let (st, en) = literal-stands s (bytes "[mesh 1]\n") 0 z n ez in
          let ev : One ≡ v = cc in
          let nm : n ≡ m = cc in
          (subst (λ (w : Version). stands s 0 (head_line w) ≡ true) ev st, omega (arith, en, nm))
      go false eb g =
          let (z, n, ez, er) = onward-found (λ z. pure Two) (literal s (bytes "[mesh 2]\n") 0) g in
          let (st, en) = literal-stands s (bytes "[mesh 2]\n") 0 z n ez in
          let ev : Two ≡ v = cc in
          let nm : n ≡ m = cc in
          (subst (λ (w : Version). stands s 0 (head_line w) ≡ true) ev st, omega (arith, en, nm))

  head-found : (v : Version) → stands s 0 (head_line v) ≡ true → head_form s 0 ≡ parsed v 9
  unfolding head_form
  head-found One h = rw (h, literal-found s (bytes "[mesh 1]\n") 0 h)
  head-found Two h = rw (not-1 h (stands s 0 (bytes "[mesh 1]\n")) refl, literal-found s (bytes "[mesh 2]\n") 0 h)

  -- the parts of a text, one after the other
  parts-print : (v : Version) (ps : List (List ℕ)) (fs : List (List Side)) (i k : ℕ) → stands s 0 (head_line v) ≡ true
      → (stands s 9 (flat text_point_line ps) ≡ true) × (i ≡ 9 + length (flat text_point_line ps))
      → (stands s i (flat text_face_line fs) ≡ true) × (k ≡ i + length (flat text_face_line fs))
      → (stands s k (bytes "[end]\n") ≡ true) × (k + 6 ≡ length s)
      → s ≡ printed_text (record { version = v; points = ps; faces = fs })
  parts-print v ps fs i k h (sp, ei) (sf, ek) (sn, en) =
      let hl = head-long v in
      let lf = length-append (flat text_face_line fs) (bytes "[end]\n") in
      let lp = length-append (flat text_point_line ps) (flat text_face_line fs ++ bytes "[end]\n") in
      let f = stands-both s (flat text_face_line fs) (bytes "[end]\n") i sf (stands_at s (bytes "[end]\n") ek sn) in
      let p = stands-both s (flat text_point_line ps) (flat text_face_line fs ++ bytes "[end]\n") 9 sp (stands_at s (flat text_face_line fs ++ bytes "[end]\n") ei f) in
      let lh = length-append (head_line v) (flat text_point_line ps ++ (flat text_face_line fs ++ bytes "[end]\n")) in
      let e0 : 9 ≡ 0 + length (head_line v) = omega (arith, hl) in
      whole-of-stands s (printed_text (record { version = v; points = ps; faces = fs }))
      (stands-both s (head_line v) (flat text_point_line ps ++ (flat text_face_line fs ++ bytes "[end]\n")) 0 h
      (stands_at s (flat text_point_line ps ++ (flat text_face_line fs ++ bytes "[end]\n")) e0 p)) (omega arith)

  -- what is read is the printing of it
  printed-of-text : (t : TextMesh) (n : ℕ) → text s ≡ parsed t n → Printing s t
  unfolding text mesh
  printed-of-text t n e =
      let (v, m, ez, e1) = onward-found _ (head_form s 0) e in
      let (st, em) = head-printed v m ez in
      let (ps, i, ep, e2) = onward-found _ (many s (bytes "[point") (point_form s) (length s) m) e1 in
      let (fs, k, ef, e3) = onward-found _ (many s (bytes "[face") (face_form s) (length s) i) e2 in
      let (en, et) = ended v ps fs k (ends s k) refl e3 in
      let (fp, sp, ip) = sound-many s (bytes "[point") (point_form s) point_fields FitTextPoint (exact-point s) (length s) m ps i ep in
      let (ff, sf, kf) = sound-many s (bytes "[face") (face_form s) face_fields FitTextFace (exact-face s) (length s) i fs k ef in
      let all : s ≡ printed_text (record { version = v; points = ps; faces = fs }) =
      parts-print v ps fs i k st (stands_at s (flat text_point_line ps) em sp, moved m i ps em ip) (sf, kf) (end-of-ends s k en) in
      same (record { version = v; points = ps; faces = fs }) et (record { points-fit = fp; faces-fit = ff }) all
    where
      moved : (m i : ℕ) (ps : List (List ℕ)) → m ≡ 9 → i ≡ m + length (flat text_point_line ps) → i ≡ 9 + length (flat text_point_line ps)
      moved m i ps em ip = omega arith

      ended : (v : Version) (ps : List (List ℕ)) (fs : List (List Side)) (k : ℕ) (b : Bool) → ends s k ≡ b
          → choose b (pure (record { version = v; points = ps; faces = fs })) (λ i. unparsed) k ≡ parsed t n
          → (ends s k ≡ true) × (record { version = v; points = ps; faces = fs } ≡ t)
      ended v ps fs k true eb g = (eb, cc)
      ended v ps fs k false eb g = let z : ◌≡◌ {A = ℕ} 0 1 = cc in absurd (omega arith)

      same : (r : TextMesh) → r ≡ t → FitText r → s ≡ printed_text r → Printing s t
      same r er f e = (rw er at f, rw er at e)

  text-of-printed : (t : TextMesh) → Printing s t → (n : ℕ) × (text s ≡ parsed t n)
  unfolding text mesh
  text-of-printed t (f, es) =
      let v = t.version in
      let ps = t.points in
      let fs = t.faces in
      let tail = flat text_face_line fs ++ bytes "[end]\n" in
      let all : stands s 0 (printed_text t) ≡ true = subst (λ (v : List ℕ). stands s 0 v ≡ true) es (stands-whole s) in
      let len : length s ≡ length (printed_text t) = ap length es in
      let (h, r) = stands_parts s (head_line v) (flat text_point_line ps ++ tail) 0 all in
      let hl = head-long v in
      let lh = length-append (head_line v) (flat text_point_line ps ++ tail) in
      let e0 : 0 + length (head_line v) ≡ 9 = omega (arith, hl) in
      let (sp, r1) = stands_parts s (flat text_point_line ps) tail 9 (stands_at s (flat text_point_line ps ++ tail) e0 r) in
      let i = 9 + length (flat text_point_line ps) in
      let (sf, sn) = stands_parts s (flat text_face_line fs) (bytes "[end]\n") i r1 in
      let k = i + length (flat text_face_line fs) in
      let lf = length-append (flat text_face_line fs) (bytes "[end]\n") in
      let lp = length-append (flat text_point_line ps) tail in
      let bp = flat-longer 91 (112 ∷ 111 ∷ 105 ∷ 110 ∷ 116 ∷ []) point_fields ps in
      let bf = flat-longer 91 (102 ∷ 97 ∷ 99 ∷ 101 ∷ []) face_fields fs in
      let (np, hp) = after-points i fs r1 in
      let (nf, hf) = after-faces k sn in
      let cp = complete-many s (bytes "[point") (point_form s) point_fields FitTextPoint (exact-point s) (length s) 9 ps
      (omega arith) f.points-fit sp (line-leads s 112 (111 ∷ 105 ∷ 110 ∷ 116 ∷ []) point_fields) np hp in
      let cf = complete-many s (bytes "[face") (face_form s) face_fields FitTextFace (exact-face s) (length s) i fs (omega arith)
      f.faces-fit sf (line-leads s 102 (97 ∷ 99 ∷ 101 ∷ []) face_fields) nf hf in
      let k6 : k + 6 ≡ length s = omega arith in
      (k, rw (head-found v h, cp, cf, ends-of-end s k sn k6))

pub text-exactly : TextExactly
text-exactly s l = (λ (n, e). printed-of-text s l n e, text-of-printed s l)

pub not-text-exactly : NotTextExactly
not-text-exactly s = (to, from (text s) refl)
  where
    found-not-none : (l : TextMesh) (n : ℕ) → parsed l n ≡ unparsed → ⊥
    found-not-none l n e = let z : ◌≡◌ {A = ℕ} 0 1 = cc in omega arith

    to : text s ≡ unparsed → (l : TextMesh) → ¬ Printing s l
    to e l p = let (n, g) = (text-exactly s l).1 p in found-not-none l n (sym g ∙ e)

    from : (x : Parsed TextMesh) → text s ≡ x → ((l : TextMesh) → ¬ Printing s l) → x ≡ unparsed
    from (parsed l n) e h = absurd (h l ((text-exactly s l).0 (n, e)))
    from unparsed e h = refl
