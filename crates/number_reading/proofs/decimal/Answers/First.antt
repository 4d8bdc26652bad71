-- The first byte b of a decimal, and its value d as a digit.
use native.Mathlib.Omega.{arith}
use mathlib.Core.List.{List}
use mathlib.Core.Path.{◌≡◌, sym, ap, ◌∙◌}
use Prim.Native.Nat.{ℕ, ◌≤◌, ◌<◌, ◌+◌}
use lib.ListN.{length, get_or}
use borrow.Author.Tests.{eq-eqb, ne_eqb}
use Rattle.text_numbers.specs.Numbers.{decimal, decimal_from, digit_value}
use Rattle.text_numbers.specs.Answers.{number}
use Rattle.std.specs.Prelude.{Some, None}
use Rattle.text_numbers.proofs.Laws.{digit-inside}
use Rattle.text_numbers.proofs.Turns.{digit-found, digit-none}

module _ (s : List ℕ) (at : ℕ) {d b : ℕ} (ed : d ≡ digit_value b) (eb : b ≡ get_or s at 0) where
  value-at : d ≡ digit_value (get_or s at 0)
  value-at = ed ∙ ap digit_value eb

  first_small : d ≡ 0 → d < 10
  first_small e = omega arith

  pub first-zero : d ≡ 0 → Some (0, at + 1) ≡ number (decimal s at)
  unfolding decimal
  first-zero e = rw (digit-found s 10 at (rw value-at at (first_small e)), eq-eqb _ 0 (sym value-at ∙ e))

  pub first-other : d < 10 → (d ≡ 0 → ⊥) → number (decimal_from s d (at + 1)) ≡ number (decimal s at)
  unfolding decimal
  first-other h n = rw (digit-found s 10 at (rw value-at at h), ne_eqb _ 0 (λ e. n (value-at ∙ e)), ← value-at)

  pub first-inside : d < 10 → at + 1 ≤ length s
  first-inside h = let r = digit-inside s at 10 (omega arith) (rw value-at at h) in omega arith

pub first-none : (s : List ℕ) (at : ℕ) {b : ℕ} → b ≡ get_or s at 0 → 10 ≤ digit_value b → None ≡ number (decimal s at)
unfolding decimal
first-none s at eb h = rw (digit-none s 10 at (rw eb at h))
