-- A point line after `[point`: r is the answer for its coordinates, which end at i, q that for its words, the last of which is v and
-- which end at j; xs' and ws' are the lists that they leave.
use mathlib.Core.List.{List, map}
use mathlib.Core.Path.{◌≡◌, sym, ◌∙◌}
use mathlib.Core.Bool.{true, false}
use Prim.Native.Nat.{ℕ, ◌+◌, ◌≤◌, ◌<◌}
use native.Mathlib.Omega.{arith}
use lib.ListN.{length}
use lib.Ieee.{Float}
use borrow.Author.Tests.{lt-ltb, le-ltb}
use Rattle.std.specs.Prelude.{Option, Some, None, OnSome}
use Rattle.text_numbers.specs.Form.{bytes, parsed, times, stands}
use Rattle.text_numbers.specs.Numbers.{float}
use Rattle.text_numbers.proofs.Turns.{literal-found, literal-none}
use Rattle.mesh_lines.specs.Grammar.{coordinate_form}
use Rattle.mesh_lines.specs.Parts.{place_answer, stored}
use Rattle.mesh_lines.proofs.Answers.{place_at, place_none}
use Rattle.listings.specs.Printing.{last}
use Rattle.listings.specs.Grammar.{word_form, point_row_form}
use Rattle.listing_lines.specs.Parts.{last_word, same, row_numbers, row_words}
use Rattle.listing_lines.proofs.Laws.{last-is, last_none, takes-words, takes-coordinates}

module _ (s : List ℕ) (at : ℕ) {r : Option ℕ} (er : r ≡ place_answer (times 3 (coordinate_form s) at)) where
  pub no-coordinates : r ≡ None → None ≡ place_answer (point_row_form s at)
  unfolding point_row_form
  no-coordinates en = rw (place_none (times 3 (coordinate_form s) at) (sym er ∙ en))

  module _ {i : ℕ} (ei : r ≡ Some i) where
    numbers : (xs : List ℕ) × (times 3 (coordinate_form s) at ≡ parsed xs i)
    numbers = place_at (times 3 (coordinate_form s) at) (sym er ∙ ei)

    pub numbers-inside : at ≤ length s → (at ≤ i) × (i ≤ length s)
    numbers-inside h = let t = takes-coordinates s 3 at h numbers.0 i numbers.1 in (omega arith, t.1)

    module _ {q : Option (ℕ × ℕ)} (eq : q ≡ last_word 0 (times 3 (word_form s) i)) where
      pub no_words : q ≡ None → None ≡ place_answer (point_row_form s at)
      unfolding point_row_form
      no_words en = rw (numbers.1, last_none 0 (times 3 (word_form s) i) (sym eq ∙ en))

      module _ {v j : ℕ} (ev : q ≡ Some (v, j)) where
        words : (ws : List ℕ) × (times 3 (word_form s) i ≡ parsed ws j) × (last 0 ws ≡ v)
        words = last-is (times 3 (word_form s) i) (sym eq ∙ ev)

        pub words_inside : at ≤ length s → j ≤ length s
        words_inside h = (takes-words s 3 i (numbers-inside h).1 words.0 j words.1).1

        pub no-mark : 2 ≤ v → None ≡ place_answer (point_row_form s at)
        unfolding point_row_form
        no-mark h =
            let l : 2 ≤ last 0 words.0 = let e = words.2 in omega arith in
            rw (numbers.1, words.1, le-ltb (last 0 words.0) 2 l)

        module _ (hv : v < 2) where
          mark : last 0 words.0 < 2
          mark = let e = words.2 in omega arith

          pub no_end : stands s j (bytes "]\n") ≡ false → None ≡ place_answer (point_row_form s at)
          unfolding point_row_form
          no_end es = rw (numbers.1, words.1, lt-ltb (last 0 words.0) 2 mark, literal-none s (bytes "]\n") j es)

          read : stands s j (bytes "]\n") ≡ true → point_row_form s at ≡ parsed (record { numbers = numbers.0; words = words.0 }) (j + 2)
          unfolding point_row_form
          read es = rw (numbers.1, words.1, lt-ltb (last 0 words.0) 2 mark, literal-found s (bytes "]\n") j es)

          pub whole : stands s j (bytes "]\n") ≡ true → (xs : List Float) (ws : List ℕ) (n : ℕ) {xs' : List Float} {ws' : List ℕ}
              → OnSome r (xs' ≡ stored (map float) xs n (times 3 (coordinate_form s) at)) → OnSome q (ws' ≡ stored same ws n (times 3 (word_form s) i))
              → (Some (j + 2) ≡ place_answer (point_row_form s at)) × ((xs' ≡ stored row_numbers xs n (point_row_form s at)) × (ws' ≡ stored row_words ws n (point_row_form s at)))
          whole es xs ws n ex ew =
              let t = read es in
              (rw t, (rw t (rw (ei, numbers.1) at ex), rw t (rw (ev, words.1) at ew)))
