-- Fields and lines written one after another. Assumes nothing.
--     fields-more fields-room     one field more, and that there is room for it
--     lines_more lines-room       one line more, and that there is room for it
--     fields-start fields-turn    what a loop over fields has written before its first turn, and after one turn more
--     lines_start lines-turn      the same for a loop over lines
--     line_of                     a line from its parts
use mathlib.Core.Path.{◌≡◌, refl, sym, ap, ◌∙◌, subst}
use mathlib.Core.Bool.{Bool, true, false}
use mathlib.Core.List.{List, [], ◌∷◌, ◌++◌}
use Prim.Native.Nat.{ℕ, zero, suc, ◌+◌, ◌-◌, ◌*◌, ◌≤◌, ◌<◌}
use native.Mathlib.Nat.{add-zero}
use native.Mathlib.Numerals.{add-one}
use native.Mathlib.Omega.{arith}
use lib.ListN.{length, get_or, take, drop, length-append, length-drop}
use lib.Dec.{ltb}
use borrow.Author.Tests.{ltb-true, ltb-false}
use lib.Seq.{take-suc, get_or-drop, take-add}
use Rattle.mesh_lines.specs.Grammar.{flat}
use lib.Ieee.{Float, nan}
use Rattle.text_numbers.specs.Form.{bytes}
use Rattle.tables.specs.Mesh.{mesh_of}
use Rattle.mesh_answers.specs.Lines.{number_field, bits_field}
use Rattle.mesh_answers.specs.Writing.{Written}
use Rattle.mesh_answers.proofs.Laws.{written-append}
use Rattle.listings.specs.Printing.{point_line, edge_line, face_line}
use Rattle.listings.specs.Handing.{up_to, bits_of, point_line_row, edge_line_row, face_line_row}
use Rattle.listings.proofs.Parts.{flat_append, flat-one, part-cells}
use Rattle.listing_printing.specs.Fields.{part, word_fields, number_fields}

module _ {A : Type 0} (f : A → List ℕ) where
  module _ (d : A) (xs : List A) (b : ℕ) where
    part-more : (j : ℕ) → b + j < length xs → part xs b (j + 1) ≡ part xs b j ++ (get_or xs (b + j) d ∷ [])
    part-more j h =
        let l = length-drop b xs in
        ap (λ (k : ℕ). take k (drop b xs)) (add-one j) ∙ take-suc (drop b xs) j d (omega arith)
        ∙ ap (λ (v : A). take j (drop b xs) ++ (v ∷ [])) (get_or-drop b xs j d)

    pub fields-more : (j : ℕ) → b + j < length xs → flat f (part xs b (j + 1)) ≡ flat f (part xs b j) ++ f (get_or xs (b + j) d)
    fields-more j h =
        ap (flat f) (part-more j h) ∙ flat_append f (part xs b j) (get_or xs (b + j) d ∷ [])
        ∙ ap (λ (l : List ℕ). flat f (part xs b j) ++ l) (flat-one f (get_or xs (b + j) d))

    pub fields-room : (j k : ℕ) → j < k → b + k ≤ length xs
        → length (flat f (part xs b j)) + length (f (get_or xs (b + j) d)) ≤ length (flat f (part xs b k))
    fields-room j k h g =
        let e : j + 1 + (k - (j + 1)) ≡ k = omega arith in
        let t : part xs b k ≡ part xs b (j + 1) ++ take (k - (j + 1)) (drop (j + 1) (drop b xs)) =
        ap (λ (i : ℕ). take i (drop b xs)) (sym e) ∙ take-add (j + 1) (k - (j + 1)) (drop b xs) in
        let u = ap (λ (l : List A). length (flat f l)) t in
        let v = ap length (flat_append f (part xs b (j + 1)) (take (k - (j + 1)) (drop (j + 1) (drop b xs)))) in
        let w = length-append (flat f (part xs b (j + 1))) (flat f (take (k - (j + 1)) (drop (j + 1) (drop b xs)))) in
        let m = ap length (fields-more j (omega arith)) in
        let n = length-append (flat f (part xs b j)) (f (get_or xs (b + j) d)) in
        omega arith

  module _ (g : ℕ → A) where
    pub lines_more : (p : ℕ) → flat f (up_to (p + 1) g) ≡ flat f (up_to p g) ++ f (g p)
    unfolding up_to
    lines_more p =
        ap (λ (k : ℕ). flat f (up_to k g)) (add-one p) ∙ flat_append f (up_to p g) (g p ∷ []) ∙ ap (λ (l : List ℕ). flat f (up_to p g) ++ l) (flat-one f (g p))

    pub lines-room : (n p : ℕ) → p < n → length (flat f (up_to p g)) + length (f (g p)) ≤ length (flat f (up_to n g))
    unfolding up_to
    lines-room zero p h = absurd (omega arith)
    lines-room (suc n) p h = go (ltb p n) refl (lines-room n p)
      where
        step : length (flat f (up_to (suc n) g)) ≡ length (flat f (up_to n g)) + length (f (g n))
        step =
            ap length (flat_append f (up_to n g) (g n ∷ [])) ∙ length-append (flat f (up_to n g)) (flat f (g n ∷ []))
            ∙ ap (λ (l : List ℕ). length (flat f (up_to n g)) + length l) (flat-one f (g n))

        go : (b : Bool) → ltb p n ≡ b → (p < n → length (flat f (up_to p g)) + length (f (g p)) ≤ length (flat f (up_to n g)))
            → length (flat f (up_to p g)) + length (f (g p)) ≤ length (flat f (up_to (suc n) g))
        go true e rec = let r = rec (ltb-true p n e) in let q = step in omega arith
        go false e rec =
            let l = ltb-false p n e in
            let pn : p ≡ n = omega arith in
            let q = step in
            let r = ap (λ (k : ℕ). length (flat f (up_to k g)) + length (f (g k))) pn in
            omega arith

pub written_same : {out : List ℕ} {at : ℕ} {xs ys : List ℕ} {r : ℕ} {o : List ℕ} → xs ≡ ys → Written out at xs r o → Written out at ys r o
written_same {out} {at} {xs} {ys} {r} {o} e w = subst (λ (l : List ℕ). Written out at l r o) e w

written_none : (out : List ℕ) (at : ℕ) → Written out at [] at out
written_none out at = record { place = sym (add-zero at); list = refl }

module _ {A : Type 0} (f : A → List ℕ) (out₀ : List ℕ) (at : ℕ) where
  module _ (xs : List A) (b : ℕ) where
    pub fields-start : Written out₀ at (flat f (part xs b 0)) at out₀
    unfolding flat
    fields-start = written_none out₀ at

    pub fields-end : {j k i : ℕ} {out : List ℕ} → Written out₀ at (flat f (part xs b j)) i out → j ≤ k → k ≤ j → Written out₀ at (flat f (part xs b k)) i out
    fields-end {j} {k} w h g = let e : j ≡ k = omega arith in written_same (ap (λ (l : ℕ). flat f (part xs b l)) e) w

    module _ (d : A) (j : ℕ) {i : ℕ} {out : List ℕ} (w : Written out₀ at (flat f (part xs b j)) i out) {ys : List ℕ} (ey : ys ≡ f (get_or xs (b + j) d)) where
      pub fields-turn-room : {k : ℕ} → length out ≡ length out₀ → j < k → b + k ≤ length xs → at + length (flat f (part xs b k)) ≤ length out₀
          → i + length ys ≤ length out
      fields-turn-room {k} el h g r =
          let p = w.place in
          let q = fields-room f d xs b j k h g in
          let l = ap length ey in
          omega arith

      pub fields-turn : b + j < length xs → {r : ℕ} {out' : List ℕ} → Written out i ys r out' → Written out₀ at (flat f (part xs b (j + 1))) r out'
      fields-turn h v = written_same (sym (fields-more f d xs b j h)) (written-append w (written_same ey v))

  module _ (g : ℕ → A) where
    pub lines_start : Written out₀ at (flat f (up_to 0 g)) at out₀
    unfolding flat up_to
    lines_start = written_none out₀ at

    pub lines_end : {p n i : ℕ} {out : List ℕ} → Written out₀ at (flat f (up_to p g)) i out → p ≤ n → n ≤ p → Written out₀ at (flat f (up_to n g)) i out
    lines_end {p} {n} w h k = let e : p ≡ n = omega arith in written_same (ap (λ (l : ℕ). flat f (up_to l g)) e) w

    module _ (p : ℕ) {i : ℕ} {out : List ℕ} (w : Written out₀ at (flat f (up_to p g)) i out) where
      pub lines-turn-room : {n : ℕ} → length out ≡ length out₀ → p < n → at + length (flat f (up_to n g)) ≤ length out₀ → i + length (f (g p)) ≤ length out
      lines-turn-room {n} el h r =
          let q = w.place in
          let l = lines-room f g n p h in
          omega arith

      pub lines-turn : {r : ℕ} {out' : List ℕ} → Written out i (f (g p)) r out' → Written out₀ at (flat f (up_to (p + 1) g)) r out'
      lines-turn v = written_same (sym (lines_more f g p)) (written-append w v)

-- a line: its head, two runs of fields, its end
pub line_of : {out : List ℕ} {at : ℕ} {a : List ℕ} {i : ℕ} {o1 : List ℕ} {b b' : List ℕ} {j : ℕ} {o2 : List ℕ}
    {c c' : List ℕ} {k : ℕ} {o3 : List ℕ} {d : List ℕ} {r : ℕ} {o4 : List ℕ}
    → Written out at a i o1 → Written o1 i b j o2 → Written o2 j c k o3 → Written o3 k d r o4 → b ≡ b' → c ≡ c'
    → Written out at (a ++ ((b' ++ c') ++ d)) r o4
line_of wa wb wc wd eb ec = written-append wa (written-append (written-append (written_same eb wb) (written_same ec wc)) wd)

-- a line of one run of fields
pub short-line-of : {out : List ℕ} {at : ℕ} {a : List ℕ} {i : ℕ} {o1 : List ℕ} {b b' : List ℕ} {j : ℕ} {o2 : List ℕ} {d : List ℕ} {r : ℕ} {o4 : List ℕ}
    → Written out at a i o1 → Written o1 i b j o2 → Written o2 j d r o4 → b ≡ b' → Written out at (a ++ (b' ++ d)) r o4
short-line-of wa wb wd eb = written-append wa (written-append (written_same eb wb) wd)

-- the fields of a row are those of its part of the table, and how long the line is by them
module _ (xs : List Float) (ws : List ℕ) (p : ℕ) (hx : p * 3 + 3 ≤ length xs) (hw : p * 3 + 3 ≤ length ws) where
  pub point-numbers : number_fields xs (p * 3) 3 ≡ flat bits_field (point_line_row (mesh_of xs ws [] [] []) p).numbers
  unfolding flat
  point-numbers = ap (flat (λ (v : Float). bits_field (bits_of v))) (part-cells nan xs (p * 3) 3 hx)

  pub point-words : word_fields ws (p * 3) 3 ≡ flat number_field (point_line_row (mesh_of xs ws [] [] []) p).words
  point-words = ap (flat number_field) (part-cells 0 ws (p * 3) 3 hw)

  pub point-room : length (point_line (point_line_row (mesh_of xs ws [] [] []) p)) ≡ 6 + (length (number_fields xs (p * 3) 3) + length (word_fields ws (p * 3) 3) + 2)
  point-room =
      let n = ap length point-numbers in
      let w = ap length point-words in
      let r = point_line_row (mesh_of xs ws [] [] []) p in
      let a1 = length-append (flat bits_field r.numbers) (flat number_field r.words) in
      let a2 = length-append (flat bits_field r.numbers ++ flat number_field r.words) (bytes "]\n") in
      omega arith

module _ (ws : List ℕ) (xs : List Float) (e : ℕ) (hw : e * 8 + 8 ≤ length ws) (hx : e + 1 ≤ length xs) where
  pub edge-words : word_fields ws (e * 8) 8 ≡ flat number_field (edge_line_row (mesh_of [] [] ws xs []) e).words
  edge-words = ap (flat number_field) (part-cells 0 ws (e * 8) 8 hw)

  pub edge-numbers : number_fields xs e 1 ≡ flat bits_field (edge_line_row (mesh_of [] [] ws xs []) e).numbers
  unfolding flat
  edge-numbers = ap (flat (λ (v : Float). bits_field (bits_of v))) (part-cells nan xs e 1 hx)

  pub edge-room : length (edge_line (edge_line_row (mesh_of [] [] ws xs []) e)) ≡ 5 + (length (word_fields ws (e * 8) 8) + length (number_fields xs e 1) + 2)
  edge-room =
      let n = ap length edge-numbers in
      let w = ap length edge-words in
      let r = edge_line_row (mesh_of [] [] ws xs []) e in
      let a1 = length-append (flat number_field r.words) (flat bits_field r.numbers) in
      let a2 = length-append (flat number_field r.words ++ flat bits_field r.numbers) (bytes "]\n") in
      omega arith

module _ (ws : List ℕ) (f : ℕ) (hw : f * 5 + 5 ≤ length ws) where
  pub face-words : word_fields ws (f * 5) 5 ≡ flat number_field (face_line_row (mesh_of [] [] [] [] ws) f).words
  face-words = ap (flat number_field) (part-cells 0 ws (f * 5) 5 hw)

  pub face-room : length (face_line (face_line_row (mesh_of [] [] [] [] ws) f)) ≡ 5 + (length (word_fields ws (f * 5) 5) + 2)
  face-room =
      let w = ap length face-words in
      let r = face_line_row (mesh_of [] [] [] [] ws) f in
      let a = length-append (flat number_field r.words) (bytes "]\n") in
      omega arith
