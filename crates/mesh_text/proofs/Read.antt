-- What a text that is read gives, for callers of the reader. Assumes nothing.
--     read-means             a text that is read is of the form, within the limits, and fills the lists
--     length-coordinates     three coordinates a point
--     length-lengths         four lengths a face
--     length-firsts          four first points a face
--     length-intervals       as many intervals as listed points
--     total-lengths          the lengths add up to the listed points
use mathlib.Core.List.{List, [], ◌∷◌, ◌++◌, map}
use mathlib.Core.Path.{◌≡◌, refl, ap, subst, ◌∙◌}
use mathlib.Core.Bool.{Bool, true, false}
use Prim.Native.Nat.{ℕ, zero, suc, ◌+◌, ◌*◌}
use native.Mathlib.Omega.{arith}
use lib.ListN.{length, length-append, length-map}
use Rattle.text_numbers.specs.Form.{Parsed, parsed, unparsed, Form, ◌>>=◌, pure, choose, stands, literal, many, bytes}
use Rattle.text_numbers.specs.Numbers.{float}
use Rattle.text_numbers.proofs.Laws.{total, onward-found}
use Rattle.mesh_lines.specs.Grammar.{Side, point_form, face_form, flat, side_first, side_count, side_points, side_intervals}
use Rattle.mesh_text.specs.Text.{TextMesh, head_form, ends, mesh, text}
use Rattle.mesh_text.specs.Reading.{counts, TextLists, with_text, within, read_into}
use Rattle.mesh_text.specs.Lists.{coordinates, lengths, firsts, listed_points, intervals}
use Rattle.tables.specs.declared.Sizes.{Sizes}
use Rattle.built_meshes.specs.declared.Version.{Version}
use Rattle.std.specs.Prelude.{Ok}
use Rattle.mesh_lines.proofs.Laws.{same_count, length-point, length-face}

pub record ReadText (s : List ℕ) (limits : Sizes) (l : TextLists) (v : Version) (c : Sizes) : Type 0 where
  pub what : TextMesh
  pub place : ℕ
  pub form : text s ≡ parsed what place
  pub versioned : what.version ≡ v
  pub counted : counts what ≡ c
  pub fits : within c limits (length l.coordinates) (length l.lengths) (length l.listed) (length l.intervals) (length l.firsts) ≡ true
  pub lists : (read_into s limits l).lists ≡ with_text what l

pub read-means : (s : List ℕ) (limits : Sizes) (l : TextLists) (v : Version) (c : Sizes) → (read_into s limits l).reading ≡ Ok (v, c) → ReadText s limits l v c
unfolding read_into
read-means s limits l v c e = go (text s) refl
  where
    room : TextMesh → Bool
    room m = within (counts m) limits (length l.coordinates) (length l.lengths) (length l.listed) (length l.intervals) (length l.firsts)

    test : (m : TextMesh) (n : ℕ) → text s ≡ parsed m n → (b : Bool) → room m ≡ b → ReadText s limits l v c
    test m n et true eb =
        let e' = rw (et, eb) at e in
        let p : ◌≡◌ {A = Version × Sizes} (m.version, counts m) (v, c) = cc in
        let ev : m.version ≡ v = ap (λ (q : Version × Sizes). q.0) p in
        let ec : counts m ≡ c = ap (λ (q : Version × Sizes). q.1) p in
        record { what = m; place = n; form = et; versioned = ev; counted = ec; fits = rw ec at eb; lists = rw (et, eb) }
    test m n et false eb =
        let e' = rw (et, eb) at e in
        let z : ◌≡◌ {A = ℕ} 0 1 = cc in
        absurd (omega arith)

    go : (x : Parsed TextMesh) → text s ≡ x → ReadText s limits l v c
    go (parsed m n) et = test m n et (room m) refl
    go unparsed et =
        let e' = rw et at e in
        let z : ◌≡◌ {A = ℕ} 0 1 = cc in
        absurd (omega arith)

-- P holds of each element
abbrev Each : {A : Type 0} → (A → Type 0) → List A → Type 0
Each P [] = Unit {0}
Each P (a ∷ l) = P a × Each P l

many-each : {A : Type 0} (s t : List ℕ) (p : Form A) (P : A → Type 0) → ((at : ℕ) (a : A) (n : ℕ) → p at ≡ parsed a n → P a)
    → (k at : ℕ) (l : List A) (n : ℕ) → many s t p k at ≡ parsed l n → Each P l
unfolding many
many-each {A} s t p P h zero at l n e = let el : [] ≡ l = cc in subst (λ (x : List A). Each P x) el tt
many-each {A} s t p P h (suc k) at l n e = go (stands s at t) e (many-each s t p P h k)
  where
    go : (b : Bool) → choose b (literal s t >>= λ z. p >>= λ a. many s t p k >>= λ r. pure (a ∷ r)) (pure []) at ≡ parsed l n
        → ((at' : ℕ) (l' : List A) (n' : ℕ) → many s t p k at' ≡ parsed l' n' → Each P l') → Each P l
    go true e' ih =
        let (z, m1, ez, e1) = onward-found _ (literal s t at) e' in
        let (a, m2, ea, e2) = onward-found _ (p m1) e1 in
        let (r, m3, er, e3) = onward-found (λ r. pure (a ∷ r)) (many s t p k m2) e2 in
        let el : a ∷ r ≡ l = cc in
        subst (λ (x : List A). Each P x) el (h m1 a m2 ea, ih m2 r m3 er)
    go false e' ih = let el : [] ≡ l = cc in subst (λ (x : List A). Each P x) el tt

length-flat : {A B : Type 0} (f : A → List B) (c : ℕ) (l : List A) → Each (λ a. length (f a) ≡ c) l → length (flat f l) ≡ c * length l
unfolding flat
length-flat f c [] h = omega arith
length-flat f c (a ∷ l) h =
    let k = length-append (f a) (flat f l) in
    let r = length-flat f c l h.1 in
    let g = h.0 in
    omega arith

-- where the lines of a text stand
lines : (s : List ℕ) (m : TextMesh) (n : ℕ) → text s ≡ parsed m n
    → (a i j : ℕ) × (many s (bytes "[point") (point_form s) (length s) a ≡ parsed m.points i) × (many s (bytes "[face") (face_form s) (length s) i ≡ parsed m.faces j)
unfolding mesh text
lines s m n e =
    let (v, a, ez, e1) = onward-found _ (head_form s 0) e in
    let (ps, i, ep, e2) = onward-found _ (many s (bytes "[point") (point_form s) (length s) a) e1 in
    let (fs, j, ef, e3) = onward-found _ (many s (bytes "[face") (face_form s) (length s) i) e2 in
    go v a i j ps fs ep ef (ends s j) e3
  where
    go : (v : Version) (a i j : ℕ) (ps : List (List ℕ)) (fs : List (List Side)) → many s (bytes "[point") (point_form s) (length s) a ≡ parsed ps i
        → many s (bytes "[face") (face_form s) (length s) i ≡ parsed fs j → (b : Bool) → choose b (pure (record { version = v; points = ps; faces = fs })) (λ k. unparsed) j ≡ parsed m n
        → (a i j : ℕ) × (many s (bytes "[point") (point_form s) (length s) a ≡ parsed m.points i) × (many s (bytes "[face") (face_form s) (length s) i ≡ parsed m.faces j)
    go v a i j ps fs ep ef true e' =
        let em : ◌≡◌ {A = TextMesh} (record { version = v; points = ps; faces = fs }) m = cc in
        (a, i, j, ep ∙ ap (λ (x : TextMesh). parsed x.points i) em, ef ∙ ap (λ (x : TextMesh). parsed x.faces j) em)
    go v a i j ps fs ep ef false e' = let z : ◌≡◌ {A = ℕ} 0 1 = cc in absurd (omega arith)

module _ (s : List ℕ) (m : TextMesh) (n : ℕ) (e : text s ≡ parsed m n) where
  pub length-coordinates : length (coordinates m) ≡ 3 * length m.points
  length-coordinates =
      let (a, i, j, ep, ef) = lines s m n e in
      length-flat (map float) 3 m.points
      (many-each s (bytes "[point") (point_form s) (λ (xyz : List ℕ). length (map float xyz) ≡ 3) (λ at xyz k h. length-map xyz float ∙ length-point s at xyz k h) (length s) a m.points i ep)

  pub length-lengths : length (lengths m) ≡ 4 * length m.faces
  length-lengths =
      let (a, i, j, ep, ef) = lines s m n e in
      length-flat (map side_count) 4 m.faces
      (many-each s (bytes "[face") (face_form s) (λ (sides : List Side). length (map side_count sides) ≡ 4)
      (λ at sides k h. length-map sides side_count ∙ length-face s at sides k h) (length s) i m.faces j ef)

  pub length-firsts : length (firsts m) ≡ 4 * length m.faces
  length-firsts =
      let (a, i, j, ep, ef) = lines s m n e in
      length-flat (map side_first) 4 m.faces
      (many-each s (bytes "[face") (face_form s) (λ (sides : List Side). length (map side_first sides) ≡ 4)
      (λ at sides k h. length-map sides side_first ∙ length-face s at sides k h) (length s) i m.faces j ef)

pub length-intervals : (m : TextMesh) → length (intervals m) ≡ length (listed_points m)
unfolding flat
length-intervals m = go m.faces
  where
    go : (fs : List (List Side)) → length (flat (flat side_intervals) fs) ≡ length (flat (flat side_points) fs)
    go [] = refl
    go (f ∷ fs) =
        let a = length-append (flat side_intervals f) (flat (flat side_intervals) fs) in
        let b = length-append (flat side_points f) (flat (flat side_points) fs) in
        let k = same_count f in
        let r = go fs in
        omega arith

total-append : (xs ys : List ℕ) → total (λ (k : ℕ). k) (xs ++ ys) ≡ total (λ (k : ℕ). k) xs + total (λ (k : ℕ). k) ys
unfolding total
total-append [] ys = omega arith
total-append (x ∷ xs) ys = let r = total-append xs ys in omega arith

total-sides : (sides : List Side) → total (λ (k : ℕ). k) (map side_count sides) ≡ length (flat side_points sides)
unfolding total flat
total-sides [] = refl
total-sides (p ∷ sides) =
    let a = length-append (side_points p) (flat side_points sides) in
    let b : length (side_points p) ≡ side_count p = length-map p.listed _ in
    let r = total-sides sides in
    omega arith

pub total-lengths : (m : TextMesh) → total (λ (k : ℕ). k) (lengths m) ≡ length (listed_points m)
unfolding flat total
total-lengths m = go m.faces
  where
    go : (fs : List (List Side)) → total (λ (k : ℕ). k) (flat (map side_count) fs) ≡ length (flat (flat side_points) fs)
    go [] = refl
    go (f ∷ fs) =
        let a = total-append (map side_count f) (flat (map side_count) fs) in
        let b = length-append (flat side_points f) (flat (flat side_points) fs) in
        let k = total-sides f in
        let r = go fs in
        omega arith
