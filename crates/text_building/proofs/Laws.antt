-- The laws of building from a text: what the reader's answers say of it. Assumes nothing.
--     too_long, not-too-long what is answered of a text that is too long, or is not
--     not-text, over-limits  what is answered where the reader finds no text, or one that is over the limits
--     fits                   the lists hold what was read
--     no-form, over-text     what the reader's refusals say of the text
--     first-lists            the first entries of the lists are the lists of the text
--     first-entries          so building from them is building from the text
--     promised               an outcome, and its answer in the documents' numbers
use mathlib.Core.Path.{◌≡◌, refl, sym, ap, ◌∙◌}
use mathlib.Core.Bool.{Bool, true, false}
use mathlib.Core.List.{List}
use Prim.Native.Nat.{ℕ, ◌+◌, ◌*◌, ◌≤◌}
use native.Mathlib.Omega.{arith}
use lib.Dec.{leb}
use lib.ListN.{length, take, drop}
use lib.Seq.{sets, length-sets, sets-eq, take-append_seam}
use borrow.Author.Tests.{leb-true, le-leb}
use Rattle.built_meshes.specs.declared.Ground.{Ground}
use Rattle.tables.specs.declared.Counts.{Counts}
use Rattle.std.specs.Prelude.{Result, Ok, Err}
use Rattle.tables.specs.Mesh.{Mesh}
use Rattle.text_numbers.specs.Form.{Parsed, parsed, unparsed}
use Rattle.text_numbers.proofs.Laws.{and_both}
use Rattle.mesh_text.specs.Text.{text, TextMesh}
use Rattle.mesh_text.specs.Reading.{counts, TextLists, with_text, within, ReadOutcome, read_into}
use Rattle.mesh_text.specs.Lists.{coordinates, lengths, firsts, listed_points, intervals}
use Rattle.tables.specs.declared.Sizes.{Sizes}
use Rattle.mesh_text.specs.declared.ReadingGround.{ReadingGround}
use Rattle.mesh_text.proofs.Read.{ReadText, read-means, length-coordinates, length-lengths, length-firsts, length-intervals}
use Rattle.built_meshes.specs.Lists.{Lists, counts_fit}
use Rattle.built_meshes.specs.Building.{build, BuildOutcome as ListsOutcome}
use Rattle.built_meshes.specs.declared.Version.{Version}
use Rattle.built_meshes.specs.declared.Ground.TheVariants.{OverCounts}
use Rattle.built_meshes.proofs.Begin.{counts-is}
use Rattle.building_tests.specs.Lent.{lists_in, limits_of}
use Rattle.building_tests.specs.declared.Bounds.{Bounds}
use Rattle.building_tests.specs.declared.Bounds.TheVariants.{General, Refine}
use Rattle.text_meshes.specs.TextBuilding.{is_too_long, lists_of, told, text_numbers, TextOutcome, told_outcome, build_text_if, build_text}
use Rattle.text_meshes.specs.declared.TextRefusal.{TextRefusal}
use Rattle.text_meshes.specs.declared.TextRefusal.TheVariants.{NotText, Refused}

-- the limits of both kinds are within the general ones
few : (b : Bounds) → ((limits_of b).points ≤ 4096) × ((limits_of b).faces ≤ 4096) × ((limits_of b).listed ≤ 16384)
few General = omega arith
few Refine = omega arith

-- counts within the limits are within lists that have room for the general ones
within-room : (b : Bounds) (c : Sizes) (xs ls ps ds qs : ℕ) → c.points ≤ (limits_of b).points → c.faces ≤ (limits_of b).faces → c.listed ≤ (limits_of b).listed
    → 12288 ≤ xs → 16384 ≤ ls → 16384 ≤ ps → 16384 ≤ ds → 16384 ≤ qs → within c (limits_of b) xs ls ps ds qs ≡ true
unfolding within
within-room b c xs ls ps ds qs hp hf hl rx rl rp rd rq =
    let (kp, kf, kl) = few b in
    rw (
      le-leb c.points (limits_of b).points hp,
      le-leb c.faces (limits_of b).faces hf,
      le-leb c.listed (limits_of b).listed hl,
      le-leb c.listed 4294967295 (omega arith),
      le-leb (3 * c.points) xs (omega arith),
      le-leb (4 * c.faces) ls (omega arith),
      le-leb c.listed ps (omega arith),
      le-leb c.listed ds (omega arith),
      le-leb (4 * c.faces) qs (omega arith),
    )

-- a text over the limits has lists that are over them
over-counts : (b : Bounds) (s : List ℕ) (t : TextMesh) (n : ℕ) → text s ≡ parsed t n
    → (xs ls ps ds qs : ℕ) → 12288 ≤ xs → 16384 ≤ ls → 16384 ≤ ps → 16384 ≤ ds → 16384 ≤ qs
    → within (counts t) (limits_of b) xs ls ps ds qs ≡ false → counts_fit (limits_of b) (lists_of t) ≡ false
over-counts b s t n e xs ls ps ds qs rx rl rp rd rq w = go (counts_fit (limits_of b) (lists_of t)) refl
  where
    go : (f : Bool) → counts_fit (limits_of b) (lists_of t) ≡ f → f ≡ false
    go true h =
        let k = counts-is (limits_of b) (lists_of t) h in
        let lc = length-coordinates s t n e in
        let ll = length-lengths s t n e in
        sym (within-room b (counts t) xs ls ps ds qs (omega (arith, k.points-few)) (omega (arith, k.faces-few)) k.listed-few rx rl rp rd rq) ∙ w
    go false h = refl

-- the lists hold as much as the counts say
pub record Held (c : Sizes) (l : TextLists) : Type 0 where
  pub coordinates : 3 * c.points ≤ length l.coordinates
  pub lengths : 4 * c.faces ≤ length l.lengths
  pub listed : c.listed ≤ length l.listed
  pub intervals : c.listed ≤ length l.intervals
  pub firsts : 4 * c.faces ≤ length l.firsts

held : (c limits : Sizes) (l : TextLists) → within c limits (length l.coordinates) (length l.lengths) (length l.listed) (length l.intervals) (length l.firsts) ≡ true → Held c l
unfolding within
held c limits l e =
    let e1 = (and_both (leb c.points limits.points) _ e).1 in
    let e2 = (and_both (leb c.faces limits.faces) _ e1).1 in
    let e3 = (and_both (leb c.listed limits.listed) _ e2).1 in
    let e4 = (and_both (leb c.listed 4294967295) _ e3).1 in
    let (ec, e5) = and_both (leb (3 * c.points) (length l.coordinates)) _ e4 in
    let (el, e6) = and_both (leb (4 * c.faces) (length l.lengths)) _ e5 in
    let (ep, e7) = and_both (leb c.listed (length l.listed)) _ e6 in
    let (ed, eq) = and_both (leb c.listed (length l.intervals)) _ e7 in
    record { coordinates = leb-true _ _ ec; lengths = leb-true _ _ el; listed = leb-true _ _ ep; intervals = leb-true _ _ ed; firsts = leb-true _ _ eq }

take-sets : {A : Type 0} (xs cs : List A) (n : ℕ) → length cs ≡ n → n ≤ length xs → take n (sets xs 0 cs) ≡ cs
take-sets xs cs n e h =
    rw (sets-eq cs xs 0 (omega arith), ← e) (take-append_seam cs (drop (0 + length cs) xs))

-- the answer as one of building from a text, beside the tables
pub same-told : {a : Result Counts TextRefusal} {r : Result Counts Ground} {m : Mesh} {o : ListsOutcome} → a ≡ told r →
    record { answer = r; tables = m } ≡ o → record { answer = a; tables = m } ≡ told_outcome o
same-told {a} {r} {m} e h =
    let f : (x : ListsOutcome) → TextOutcome = told_outcome in
    (λ i. record { answer = e i; tables = m }) ∙ ap f h

module _ (b : Bounds) (s : List ℕ) (l : TextLists) {r : Result (Version × Sizes) ReadingGround} {l' : TextLists} {limits : Sizes} (eb : limits ≡ limits_of b)
    (e : record { reading = r; lists = l' } ≡ read_into s limits l) where
  answered : r ≡ (read_into s (limits_of b) l).reading
  answered = ap (λ (x : ReadOutcome). x.reading) e ∙ ap (λ (v : Sizes). (read_into s v l).reading) eb

  pub no-form : r ≡ Err ReadingGround.NotText → text s ≡ unparsed
  unfolding read_into
  no-form h = go (text s) refl
    where
      test : (t : TextMesh) (n : ℕ) → text s ≡ parsed t n → (w : Bool)
          → within (counts t) (limits_of b) (length l.coordinates) (length l.lengths) (length l.listed) (length l.intervals) (length l.firsts) ≡ w → parsed t n ≡ unparsed
      test t n et true ew =
          let e' = rw (et, ew) at answered in
          cc
      test t n et false ew =
          let e' = rw (et, ew) at answered in
          cc

      go : (x : Parsed TextMesh) → text s ≡ x → x ≡ unparsed
      go (parsed t n) et = test t n et _ refl
      go unparsed et = refl

  -- what a text over the limits says
  module _ (rx : 12288 ≤ length l.coordinates) (rl : 16384 ≤ length l.lengths) (rp : 16384 ≤ length l.listed) (rd : 16384 ≤ length l.intervals)
      (rq : 16384 ≤ length l.firsts) where
    pub over-text : r ≡ Err ReadingGround.OverLimits → (t : TextMesh) × (n : ℕ) × (text s ≡ parsed t n) × (counts_fit (limits_of b) (lists_of t) ≡ false)
    unfolding read_into
    over-text h = go (text s) refl
      where
        test : (t : TextMesh) (n : ℕ) → text s ≡ parsed t n → (w : Bool)
            → within (counts t) (limits_of b) (length l.coordinates) (length l.lengths) (length l.listed) (length l.intervals) (length l.firsts) ≡ w
            → (t : TextMesh) × (n : ℕ) × (text s ≡ parsed t n) × (counts_fit (limits_of b) (lists_of t) ≡ false)
        test t n et true ew =
            let e' = rw (et, ew) at answered in
            let z : ◌≡◌ {A = ℕ} 0 1 = cc in
            absurd (omega arith)
        test t n et false ew = (t, n, et, over-counts b s t n et _ _ _ _ _ rx rl rp rd rq ew)

        go : (x : Parsed TextMesh) → text s ≡ x → (t : TextMesh) × (n : ℕ) × (text s ≡ parsed t n) × (counts_fit (limits_of b) (lists_of t) ≡ false)
        go (parsed t n) et = test t n et _ refl
        go unparsed et =
            let e' = rw et at answered in
            let z : ◌≡◌ {A = ℕ} 0 1 = cc in
            absurd (omega arith)

  module _ {v : Version} {c : Sizes} (ec : r ≡ Ok (v, c)) where
    pub means : ReadText s (limits_of b) l v c
    means = read-means s (limits_of b) l v c (sym answered ∙ ec)

    read-lists : l' ≡ with_text means.what l
    read-lists = ap (λ (v : ReadOutcome). v.lists) e ∙ ap (λ (v : Sizes). (read_into s v l).lists) eb ∙ means.lists

    before : Held c l
    before = held c (limits_of b) l means.fits

    pub fits : Held c l'
    fits =
        let t = means.what in
        let h = before in
        let lc = length-sets l.coordinates 0 (coordinates t) in
        let ll = length-sets l.lengths 0 (lengths t) in
        let lp = length-sets l.listed 0 (listed_points t) in
        let ld = length-sets l.intervals 0 (intervals t) in
        let lq = length-sets l.firsts 0 (firsts t) in
        rw read-lists (record {
          coordinates = omega (arith, h.coordinates);
          lengths = omega (arith, h.lengths);
          listed = omega (arith, h.listed);
          intervals = omega (arith, h.intervals);
          firsts = omega (arith, h.firsts);
        })

    -- the first entries of the lists are those of the text
    pub first-lists :
        lists_in v (take (3 * c.points) l'.coordinates) (take (4 * c.faces) l'.lengths) (take (4 * c.faces) l'.firsts)
        (take c.listed l'.listed) (take c.listed l'.intervals) ≡ lists_of means.what
    first-lists =
        let x = means in
        let t = x.what in
        let h = before in
        let ep : length t.points ≡ c.points = ap (λ (v : Sizes). v.points) x.counted in
        let ef : length t.faces ≡ c.faces = ap (λ (v : Sizes). v.faces) x.counted in
        let en : length (listed_points t) ≡ c.listed = ap (λ (v : Sizes). v.listed) x.counted in
        let lc = length-coordinates s t x.place x.form in
        let ll = length-lengths s t x.place x.form in
        let lq = length-firsts s t x.place x.form in
        let li = length-intervals t in
        let el : l' ≡ with_text t l = read-lists in
        let tc = ap (λ (v : TextLists). take (3 * c.points) v.coordinates) el ∙ take-sets l.coordinates (coordinates t) (3 * c.points) (omega arith) h.coordinates in
        let tl = ap (λ (v : TextLists). take (4 * c.faces) v.lengths) el ∙ take-sets l.lengths (lengths t) (4 * c.faces) (omega arith) h.lengths in
        let tq = ap (λ (v : TextLists). take (4 * c.faces) v.firsts) el ∙ take-sets l.firsts (firsts t) (4 * c.faces) (omega arith) h.firsts in
        let tv = sym x.versioned in
        let tp = ap (λ (v : TextLists). take c.listed v.listed) el ∙ take-sets l.listed (listed_points t) c.listed (omega arith) h.listed in
        let td = ap (λ (v : TextLists). take c.listed v.intervals) el ∙ take-sets l.intervals (intervals t) c.listed (omega arith) h.intervals in
        λ i. lists_in (tv i) (tc i) (tl i) (tq i) (tp i) (td i)

module _ (b : Bounds) (s : List ℕ) (l : TextLists) (m : Mesh) {r : Result (Version × Sizes) ReadingGround} {l' : TextLists} {limits : Sizes} (eb : limits ≡ limits_of b)
    (e : record { reading = r; lists = l' } ≡ read_into s limits l) where
  pub not-text : r ≡ Err ReadingGround.NotText → record { answer = Err NotText; tables = m } ≡ build_text_if false b s m
  unfolding build_text_if
  not-text h = rw (no-form b s l eb e h)

  module _ (rx : 12288 ≤ length l.coordinates) (rl : 16384 ≤ length l.lengths) (rp : 16384 ≤ length l.listed) (rd : 16384 ≤ length l.intervals)
      (rq : 16384 ≤ length l.firsts) where
    pub over-limits : r ≡ Err ReadingGround.OverLimits → record { answer = Err (Refused OverCounts); tables = m } ≡ build_text_if false b s m
    unfolding build_text_if
    over-limits h = let (t, n, et, ec) = over-text b s l eb e rx rl rp rd rq h in rw (et, ec)

  module _ {v : Version} {c : Sizes} (ec : r ≡ Ok (v, c)) where
    pub first-entries : (o : TextOutcome) → o ≡ told_outcome (build (limits_of b)
        (lists_in v (take (3 * c.points) l'.coordinates) (take (4 * c.faces) l'.lengths) (take (4 * c.faces) l'.firsts)
        (take c.listed l'.listed) (take c.listed l'.intervals)) m)
        → o ≡ build_text_if false b s m
    unfolding build_text_if
    first-entries o eo =
        rw (means b s l eb e ec).form (eo ∙ ap (λ (x : Lists). told_outcome (build (limits_of b) x m)) (first-lists b s l eb e ec))

module _ (b : Bounds) (s : List ℕ) (m : Mesh) {t : Bool} (e : t ≡ is_too_long b (length s)) where
  pub too_long : t ≡ true → record { answer = Err (Refused OverCounts); tables = m } ≡ build_text b s m
  unfolding build_text
  too_long h = rw (sym e ∙ h)

  pub not-too-long : t ≡ false → {o : TextOutcome} → o ≡ build_text_if false b s m → o ≡ build_text b s m
  unfolding build_text
  not-too-long h eo = rw (sym e ∙ h) eo

-- an outcome, and its answer in the documents' numbers
pub promised : {o p : TextOutcome} → o ≡ p → (o ≡ p) × (text_numbers o.answer ≡ text_numbers p.answer)
promised e = (e, ap (λ (o : TextOutcome). text_numbers o.answer) e)
