-- An edge line after `[edge`: q is the answer for its words, which end at i, r that for its interval, which ends at j; ws' and xs'
-- are the lists that they leave.
use mathlib.Core.List.{List, map}
use mathlib.Core.Path.{◌≡◌, sym, ◌∙◌}
use mathlib.Core.Bool.{true, false}
use Prim.Native.Nat.{ℕ, ◌+◌, ◌≤◌}
use native.Mathlib.Omega.{arith}
use lib.ListN.{length}
use lib.Ieee.{Float}
use Rattle.std.specs.Prelude.{Option, Some, None, OnSome}
use Rattle.text_numbers.specs.Form.{bytes, parsed, times, stands}
use Rattle.text_numbers.specs.Numbers.{float}
use Rattle.text_numbers.proofs.Turns.{literal-found, literal-none}
use Rattle.mesh_lines.specs.Grammar.{coordinate_form}
use Rattle.mesh_lines.specs.Parts.{place_answer, stored}
use Rattle.mesh_lines.proofs.Answers.{place_at, place_none}
use Rattle.listings.specs.Printing.{last}
use Rattle.listings.specs.Grammar.{word_form, edge_row_form}
use Rattle.listing_lines.specs.Parts.{last_word, same, row_numbers, row_words}
use Rattle.listing_lines.proofs.Laws.{last-is, last_none, takes-words, takes-coordinates}

module _ (s : List ℕ) (at : ℕ) {q : Option (ℕ × ℕ)} (eq : q ≡ last_word 0 (times 8 (word_form s) at)) where
  pub no_words : q ≡ None → None ≡ place_answer (edge_row_form s at)
  unfolding edge_row_form
  no_words en = rw (last_none 0 (times 8 (word_form s) at) (sym eq ∙ en))

  module _ {v i : ℕ} (ev : q ≡ Some (v, i)) where
    words : (ws : List ℕ) × (times 8 (word_form s) at ≡ parsed ws i) × (last 0 ws ≡ v)
    words = last-is (times 8 (word_form s) at) (sym eq ∙ ev)

    pub words_inside : at ≤ length s → (at ≤ i) × (i ≤ length s)
    words_inside h = let t = takes-words s 8 at h words.0 i words.1 in (omega arith, t.1)

    module _ {r : Option ℕ} (er : r ≡ place_answer (times 1 (coordinate_form s) i)) where
      pub no-interval : r ≡ None → None ≡ place_answer (edge_row_form s at)
      unfolding edge_row_form
      no-interval en = rw (words.1, place_none (times 1 (coordinate_form s) i) (sym er ∙ en))

      module _ {j : ℕ} (ej : r ≡ Some j) where
        numbers : (xs : List ℕ) × (times 1 (coordinate_form s) i ≡ parsed xs j)
        numbers = place_at (times 1 (coordinate_form s) i) (sym er ∙ ej)

        pub interval-inside : at ≤ length s → j ≤ length s
        interval-inside h = (takes-coordinates s 1 i (words_inside h).1 numbers.0 j numbers.1).1

        pub no_end : stands s j (bytes "]\n") ≡ false → None ≡ place_answer (edge_row_form s at)
        unfolding edge_row_form
        no_end es = rw (words.1, numbers.1, literal-none s (bytes "]\n") j es)

        read : stands s j (bytes "]\n") ≡ true → edge_row_form s at ≡ parsed (record { numbers = numbers.0; words = words.0 }) (j + 2)
        unfolding edge_row_form
        read es = rw (words.1, numbers.1, literal-found s (bytes "]\n") j es)

        pub whole : stands s j (bytes "]\n") ≡ true → (ws : List ℕ) (n : ℕ) (xs : List Float) (m : ℕ) {ws' : List ℕ} {xs' : List Float}
            → OnSome q (ws' ≡ stored same ws n (times 8 (word_form s) at)) → OnSome r (xs' ≡ stored (map float) xs m (times 1 (coordinate_form s) i))
            → (Some (j + 2) ≡ place_answer (edge_row_form s at)) × ((ws' ≡ stored row_words ws n (edge_row_form s at)) × (xs' ≡ stored row_numbers xs m (edge_row_form s at)))
        whole es ws n xs m ew ex =
            let t = read es in
            (rw t, (rw t (rw (ev, words.1) at ew), rw t (rw (ej, numbers.1) at ex)))
