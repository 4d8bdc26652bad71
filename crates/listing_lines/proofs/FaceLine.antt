-- A face line after `[face`: q is the answer for its words, which end at i; ws' is the list that they leave.
use mathlib.Core.List.{List, []}
use mathlib.Core.Path.{◌≡◌, sym, ◌∙◌}
use mathlib.Core.Bool.{true, false}
use Prim.Native.Nat.{ℕ, ◌+◌, ◌≤◌}
use lib.ListN.{length}
use Rattle.std.specs.Prelude.{Option, Some, None, OnSome}
use Rattle.text_numbers.specs.Form.{bytes, parsed, times, stands}
use Rattle.text_numbers.proofs.Turns.{literal-found, literal-none}
use Rattle.mesh_lines.specs.Parts.{place_answer, stored}
use Rattle.listings.specs.Printing.{last}
use Rattle.listings.specs.Grammar.{word_form, face_row_form}
use Rattle.listing_lines.specs.Parts.{last_word, same, row_words}
use Rattle.listing_lines.proofs.Laws.{last-is, last_none, takes-words}

module _ (s : List ℕ) (at : ℕ) {q : Option (ℕ × ℕ)} (eq : q ≡ last_word 0 (times 5 (word_form s) at)) where
  pub no_words : q ≡ None → None ≡ place_answer (face_row_form s at)
  unfolding face_row_form
  no_words en = rw (last_none 0 (times 5 (word_form s) at) (sym eq ∙ en))

  module _ {v i : ℕ} (ev : q ≡ Some (v, i)) where
    words : (ws : List ℕ) × (times 5 (word_form s) at ≡ parsed ws i) × (last 0 ws ≡ v)
    words = last-is (times 5 (word_form s) at) (sym eq ∙ ev)

    pub words_inside : at ≤ length s → i ≤ length s
    words_inside h = (takes-words s 5 at h words.0 i words.1).1

    pub no_end : stands s i (bytes "]\n") ≡ false → None ≡ place_answer (face_row_form s at)
    unfolding face_row_form
    no_end es = rw (words.1, literal-none s (bytes "]\n") i es)

    read : stands s i (bytes "]\n") ≡ true → face_row_form s at ≡ parsed (record { numbers = []; words = words.0 }) (i + 2)
    unfolding face_row_form
    read es = rw (words.1, literal-found s (bytes "]\n") i es)

    pub whole : stands s i (bytes "]\n") ≡ true → (ws : List ℕ) (n : ℕ) {ws' : List ℕ} → OnSome q (ws' ≡ stored same ws n (times 5 (word_form s) at))
        → (Some (i + 2) ≡ place_answer (face_row_form s at)) × (ws' ≡ stored row_words ws n (face_row_form s at))
    whole es ws n ew =
        let t = read es in
        (rw t, rw t (rw (ev, words.1) at ew))
