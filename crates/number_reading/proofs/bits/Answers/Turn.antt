-- One turn of the reading of 16 digits: k are read, with the value v; the next byte b stands after them, and d is its value as a digit.
use mathlib.Core.List.{List, ◌∷◌}
use mathlib.Core.Path.{◌≡◌, sym, ap, ◌∙◌}
use Prim.Native.Nat.{ℕ, suc, ◌+◌, ◌-◌, ◌*◌, ◌^◌, ◌≤◌, ◌<◌}
use native.Mathlib.Nat.{add-zero, pow-suc, pow-le-pow_right, zero-lt-suc}
use native.Mathlib.Numerals.{add-one}
use native.Mathlib.Omega.{arith}
use lib.ListN.{length, get_or}
use Rattle.text_numbers.specs.Form.{Parsed, if_parsed, times}
use Rattle.text_numbers.specs.Numbers.{bits, digit, digit_value, value}
use Rattle.text_numbers.specs.Answers.{number}
use Rattle.std.specs.Prelude.{Option, Some, None}
use Rattle.text_numbers.proofs.Laws.{digit-inside}
use Rattle.text_numbers.proofs.Turns.{given-pure, times-found, times_none, digit-found, digit-none}

-- the number that digits of value v make with those that were found
abbrev pub number_of : ℕ → Parsed (List ℕ) → Option (ℕ × ℕ)
number_of v x = if_parsed (λ ds n. Some (value 16 v ds, n)) None x

pub bits-start : (s : List ℕ) (at : ℕ) → number_of 0 (times 16 (digit s 16) (at + 0)) ≡ number (bits s at)
unfolding bits
bits-start s at = rw add-zero (sym (given-pure (λ (v n : ℕ). Some (v, n)) None (value 16 0) (times 16 (digit s 16) at)))

module _ (s : List ℕ) (at v k : ℕ) (inv : number_of v (times (16 - k) (digit s 16) (at + k)) ≡ number (bits s at)) where
  pub bits-turn : k < 16 → {d b : ℕ} → d ≡ digit_value b → b ≡ get_or s (at + k) 0 → d < 16
      → number_of (v * 16 + d) (times (16 - (k + 1)) (digit s 16) (at + (k + 1))) ≡ number (bits s at)
  unfolding value
  bits-turn hk {d} {b} ed eb hd =
      let e : d ≡ digit_value (get_or s (at + k) 0) = ed ∙ ap digit_value eb in
      let f : 16 - k ≡ suc (16 - (k + 1)) = omega arith in
      let n : at + (k + 1) ≡ at + k + 1 = omega arith in
      let t = times-found (digit s 16) (at + k) (16 - (k + 1)) (digit-found s 16 (at + k) (rw e at hd)) in
      let r = rw (f, t) at inv in
      rw (e, n) (sym (given-pure (λ (ds : List ℕ) (n : ℕ). Some (value 16 v ds, n)) None (λ (l : List ℕ). digit_value (get_or s (at + k) 0) ∷ l)
      (times (16 - (k + 1)) (digit s 16) (at + k + 1))) ∙ r)

  pub bits_none : k < 16 → {b : ℕ} → b ≡ get_or s (at + k) 0 → 16 ≤ digit_value b → None ≡ number (bits s at)
  bits_none hk {b} eb hd =
      let f : 16 - k ≡ suc (16 - (k + 1)) = omega arith in
      rw (f, times_none (digit s 16) (at + k) (16 - (k + 1)) (digit-none s 16 (at + k) (rw eb at hd))) at inv

  pub bits-end : k ≡ 16 → Some (v, at + 16) ≡ number (bits s at)
  unfolding times value
  bits-end e = rw e at inv

pub bits_inside : (s : List ℕ) (i : ℕ) {d b : ℕ} → d ≡ digit_value b → b ≡ get_or s i 0 → d < 16 → i < length s
bits_inside s i {d} {b} ed eb hd =
    let e : d ≡ digit_value (get_or s i 0) = ed ∙ ap digit_value eb in
    digit-inside s i 16 (omega arith) (rw e at hd)

pub next-below : (v k d : ℕ) → v < 16 ^ k → d < 16 → v * 16 + d < 16 ^ (k + 1)
next-below v k d h hd = rw (add-one, pow-suc) (omega arith)

pub next_fits : (v k d : ℕ) → k < 16 → v < 16 ^ k → d < 16 → v * 16 + d < 2 ^ 64
next_fits v k d hk h hd =
    let k15 : k ≤ 15 = omega arith in
    let m : 16 ^ k ≤ 16 ^ 15 = pow-le-pow_right (zero-lt-suc 15) k15 in
    omega arith
