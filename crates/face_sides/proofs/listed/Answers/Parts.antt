-- A listed point after ` [`: its number p ends at i, the bits d of its interval at j.
use mathlib.Core.List.{List}
use mathlib.Core.Path.{◌≡◌, refl}
use mathlib.Core.Bool.{true, false}
use Prim.Native.Nat.{ℕ, ◌+◌, ◌≤◌}
use lib.ListN.{length}
use Rattle.std.specs.Prelude.{Some, None}
use Rattle.text_numbers.specs.Form.{bytes, parsed, unparsed, stands}
use Rattle.text_numbers.specs.Numbers.{decimal, bits}
use Rattle.mesh_lines.specs.Grammar.{listed_form}
use Rattle.mesh_lines.specs.Parts.{listed_answer}
use Rattle.text_numbers.proofs.Laws.{takes-decimal, takes-bits, stands-inside}
use Rattle.text_numbers.proofs.Turns.{literal-found, literal-none}

module _ (s : List ℕ) (at : ℕ) where
  pub no-decimal : decimal s at ≡ unparsed → None ≡ listed_answer (listed_form s at)
  unfolding listed_form
  no-decimal e = rw e

  pub decimal-inside : at ≤ length s → {p i : ℕ} → decimal s at ≡ parsed p i → i ≤ length s
  decimal-inside h {p} {i} e = (takes-decimal s at h p i e).1

  module _ {p i : ℕ} where
    pub no-space : decimal s at ≡ parsed p i → stands s i (bytes " ") ≡ false → None ≡ listed_answer (listed_form s at)
    unfolding listed_form
    no-space e f = rw (e, literal-none s (bytes " ") i f)

    pub space-inside : at ≤ length s → decimal s at ≡ parsed p i → stands s i (bytes " ") ≡ true → i + 1 ≤ length s
    space-inside h e f = stands-inside s (bytes " ") i refl (decimal-inside h e) f

    pub no_bits : decimal s at ≡ parsed p i → stands s i (bytes " ") ≡ true → bits s (i + 1) ≡ unparsed → None ≡ listed_answer (listed_form s at)
    unfolding listed_form
    no_bits e f g = rw (e, literal-found s (bytes " ") i f, g)

    module _ {d j : ℕ} where
      pub bits_inside : at ≤ length s → decimal s at ≡ parsed p i → stands s i (bytes " ") ≡ true → bits s (i + 1) ≡ parsed d j → j ≤ length s
      bits_inside h e f g = (takes-bits s (i + 1) (space-inside h e f) d j g).1

      pub no_end : decimal s at ≡ parsed p i → stands s i (bytes " ") ≡ true → bits s (i + 1) ≡ parsed d j → stands s j (bytes "]") ≡ false
          → None ≡ listed_answer (listed_form s at)
      unfolding listed_form
      no_end e f g k = rw (e, literal-found s (bytes " ") i f, g, literal-none s (bytes "]") j k)

      pub whole : decimal s at ≡ parsed p i → stands s i (bytes " ") ≡ true → bits s (i + 1) ≡ parsed d j → stands s j (bytes "]") ≡ true
          → Some (record { point = p; interval = d; after = j + 1 }) ≡ listed_answer (listed_form s at)
      unfolding listed_form
      whole e f g k = rw (e, literal-found s (bytes " ") i f, g, literal-found s (bytes "]") j k)
