-- Reading a text into lists l: r is the answer for its version v and its sizes c; xs', ls', qs', ps' and ds' are the lists once the text is stored.
use mathlib.Core.List.{List, [], ◌∷◌, ◌++◌, map}
use mathlib.Core.Path.{◌≡◌, refl, sym, ap, ◌∙◌}
use mathlib.Core.Bool.{true, false}
use Prim.Native.Nat.{ℕ, ◌≤◌}
use native.Mathlib.Nat.{mod-eq_of_lt}
use native.Mathlib.Omega.{arith}
use lib.ListN.{length, length-append, length-map}
use lib.Seq.{sets}
use lib.Dec.{leb}
use lib.Ieee.{Float}
use borrow.Author.Tests.{leb-true}
use Rattle.std.specs.Prelude.{Option, Some, None, Result, Ok, Err}
use Rattle.text_numbers.specs.Form.{Parsed, parsed, unparsed}
use Rattle.mesh_lines.specs.Grammar.{Side, flat, side_count, side_points}
use Rattle.mesh_text.specs.Text.{TextMesh, text}
use Rattle.mesh_text.specs.Reading.{counts, TextLists, within, ReadOutcome, read_into, reading_numbers}
use Rattle.mesh_text.specs.Lists.{coordinates, lengths, firsts, listed_points, intervals}
use Rattle.mesh_lines.specs.Parts.{length_word, Parses, stored}
use Rattle.mesh_text.specs.Parts.{length_words, total_of}
use Rattle.text_numbers.proofs.Laws.{and_both}
use Rattle.tables.specs.declared.Sizes.{Sizes}
use Rattle.built_meshes.specs.declared.Version.{Version}
use Rattle.mesh_text.specs.declared.ReadingGround.{ReadingGround}
use Rattle.mesh_text.specs.declared.ReadingGround.TheVariants.{NotText, OverLimits}
use Rattle.std.proofs.lemmas.Option.{some_pair_parts}

total-of : (x : Parsed TextMesh) {v : Version} {c : Sizes} → total_of x ≡ Some (v, c) →
    (m : TextMesh) × (n : ℕ) × (x ≡ parsed m n) × (counts m ≡ c) × (m.version ≡ v)
total-of (parsed m n) {v} {c} e =
    let (ev, ec) = some_pair_parts _ _ _ _ e in
    (m, n, refl, ec, ev)
total-of unparsed e = let z : ◌≡◌ {A = ℕ} 0 1 = cc in absurd (omega arith)

total-none : (x : Parsed TextMesh) → total_of x ≡ None → x ≡ unparsed
total-none (parsed m n) e = cc
total-none unparsed e = refl

-- a text that was counted is of the form
pub parses : (s : List ℕ) {r : Option (Version × Sizes)} → r ≡ total_of (text s) → {v : Version} {c : Sizes} → r ≡ Some (v, c) → Parses (text s)
parses s er ep = let (m, n, et, ec, ev) = total-of (text s) (sym er ∙ ep) in (m, n, et)

-- lengths that fit a word are that word
side-words : (sides : List Side) → length (flat side_points sides) ≤ 4294967295 → map length_word sides ≡ map side_count sides
unfolding flat
side-words [] h = refl
side-words (p ∷ sides) h =
    let a = length-append (side_points p) (flat side_points sides) in
    let b : length (side_points p) ≡ side_count p = length-map p.listed _ in
    let w : length_word p ≡ side_count p = mod-eq_of_lt (omega arith) in
    let r = side-words sides (omega arith) in
    λ i. w i ∷ r i

face-words : (fs : List (List Side)) → length (flat (flat side_points) fs) ≤ 4294967295 → flat (map length_word) fs ≡ flat (map side_count) fs
unfolding flat
face-words [] h = refl
face-words (f ∷ fs) h =
    let a = length-append (flat side_points f) (flat (flat side_points) fs) in
    let w = side-words f (omega arith) in
    let r = face-words fs (omega arith) in
    λ i. w i ++ r i

listed-fits : (c limits : Sizes) (xs ls ps ds qs : ℕ) → within c limits xs ls ps ds qs ≡ true → c.listed ≤ 4294967295
unfolding within
listed-fits c limits xs ls ps ds qs e =
    let e1 = (and_both (leb c.points limits.points) _ e).1 in
    let e2 = (and_both (leb c.faces limits.faces) _ e1).1 in
    let e3 = (and_both (leb c.listed limits.listed) _ e2).1 in
    leb-true c.listed 4294967295 (and_both (leb c.listed 4294967295) _ e3).0

module _ (s : List ℕ) (limits : Sizes) (l : TextLists) {r : Option (Version × Sizes)} (er : r ≡ total_of (text s)) where
  pub not-text : r ≡ None → {a : Result (Version × Sizes) ReadingGround} → a ≡ Err NotText → record { reading = a; lists = l } ≡ read_into s limits l
  unfolding read_into
  not-text en ea = rw (total-none (text s) (sym er ∙ en), ea)

  module _ {v : Version} {c : Sizes} (ep : r ≡ Some (v, c)) where
    pub over-limits :
        within c limits (length l.coordinates) (length l.lengths) (length l.listed) (length l.intervals) (length l.firsts) ≡ false
        → record { reading = Err OverLimits; lists = l } ≡ read_into s limits l
    unfolding read_into
    over-limits ew =
        let (m, n, et, ec, ev) = total-of (text s) (sym er ∙ ep) in
        rw (et, ec, ew)

    pub whole : within c limits (length l.coordinates) (length l.lengths) (length l.listed) (length l.intervals) (length l.firsts) ≡ true
        → {xs' : List Float} {ls' qs' ps' : List ℕ} {ds' : List Float}
        → xs' ≡ stored coordinates l.coordinates 0 (text s) → ls' ≡ stored length_words l.lengths 0 (text s)
        → qs' ≡ stored firsts l.firsts 0 (text s) → ps' ≡ stored listed_points l.listed 0 (text s) → ds' ≡ stored intervals l.intervals 0 (text s)
        → record {
          reading = Ok (v, c);
          lists = record { coordinates = xs'; lengths = ls'; firsts = qs'; listed = ps'; intervals = ds' };
        }
        ≡ read_into s limits l
    unfolding read_into
    whole ew ex el eq' ep' ed =
        let (m, n, et, ec, ev) = total-of (text s) (sym er ∙ ep) in
        let h = listed-fits _ limits _ _ _ _ _ ew in
        let em : length (listed_points m) ≡ c.listed = ap (λ (v : Sizes). v.listed) ec in
        let w : length_words m ≡ lengths m = face-words m.faces (omega arith) in
        let ex'' = rw et at ex in
        let el'' = (rw et at el) ∙ ap (sets l.lengths 0) w in
        let eq'' = rw et at eq' in
        let ep'' = rw et at ep' in
        let ed'' = rw et at ed in
        rw (et, ec, ev, ew) (λ i. record {
          reading = Ok (v, c);
          lists = record { coordinates = ex'' i; lengths = el'' i; firsts = eq'' i; listed = ep'' i; intervals = ed'' i };
        })

-- an outcome, and its answer in the documents' numbers
pub promised : {o p : ReadOutcome} → o ≡ p → (o ≡ p) × (reading_numbers o.reading ≡ reading_numbers p.reading)
promised e = (e, ap (λ (o : ReadOutcome). reading_numbers o.reading) e)
