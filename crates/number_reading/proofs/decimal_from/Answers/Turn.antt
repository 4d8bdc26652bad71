-- One turn of the reading of a decimal's digits: those from `at` to i are read, with the value v; the next byte b stands at i, and d is its
-- value as a digit.
--     rest s k v i     the number, if at most k digits from i on complete it
use mathlib.Core.List.{List}
use mathlib.Core.Path.{◌≡◌, refl, sym, ap, ◌∙◌}
use mathlib.Core.Bool.{Bool, true, false}
use Prim.Native.Nat.{ℕ, zero, suc, ◌+◌, ◌-◌, ◌*◌, ◌≤◌, ◌<◌}
use native.Mathlib.Omega.{arith}
use lib.ListN.{length, get_or}
use lib.Dec.{ltb}
use borrow.Author.Tests.{lt-ltb, le-ltb, ltb-true, ltb-false}
use Rattle.text_numbers.specs.Form.{Parsed, parsed, unparsed, Form, onward, ◌>>=◌, pure, choose}
use Rattle.text_numbers.specs.Numbers.{digits_from, decimal_from, digit_value}
use Rattle.text_numbers.specs.Answers.{number}
use Rattle.std.specs.Prelude.{Some, None}
use Rattle.text_numbers.proofs.Laws.{digit-inside}
use Rattle.text_numbers.proofs.Turns.{digits-turn, digits-stop}

abbrev pub rest : List ℕ → ℕ → ℕ → Form ℕ
rest s k v = digits_from s k v >>= λ w. choose (ltb w 4294967296) (pure w) (λ at. unparsed)

pub rest-start : (s : List ℕ) (first at : ℕ) → number (rest s (length s - (at - at)) first at) ≡ number (decimal_from s first at)
unfolding decimal_from
rest-start s first at = let e : length s - (at - at) ≡ length s = omega arith in rw e

-- digits only make a number larger
digits-grow : (s : List ℕ) (k v i w n : ℕ) → digits_from s k v i ≡ parsed w n → v ≤ w
unfolding digits_from
digits-grow s zero v i w n e = let ew : v ≡ w = cc in omega arith
digits-grow s (suc k) v i w n e = go (ltb (digit_value (get_or s i 0)) 10) refl (digits-grow s k (v * 10 + digit_value (get_or s i 0)) (i + 1) w n)
  where
    go : (b : Bool) → ltb (digit_value (get_or s i 0)) 10 ≡ b
        → (digits_from s k (v * 10 + digit_value (get_or s i 0)) (i + 1) ≡ parsed w n → v * 10 + digit_value (get_or s i 0) ≤ w) → v ≤ w
    go true eb ih = let r = ih (sym (digits-turn s v i k (ltb-true _ _ eb)) ∙ e) in omega arith
    go false eb ih = let ew : v ≡ w = cc (digits-stop s v i (suc k) (ltb-false _ _ eb)) in omega arith

large : (s : List ℕ) (k v i : ℕ) → 4294967296 ≤ v → rest s k v i ≡ unparsed
large s k v i h = go (digits_from s k v i) refl
  where
    go : (x : Parsed ℕ) → digits_from s k v i ≡ x → onward (λ w. choose (ltb w 4294967296) (pure w) (λ at. unparsed)) x ≡ unparsed
    go (parsed w n) e = let g = digits-grow s k v i w n e in rw (le-ltb w 4294967296 (omega arith))
    go unparsed e = refl

module _ (s : List ℕ) (at first v i : ℕ) (inv : number (rest s (length s - (i - at)) v i) ≡ number (decimal_from s first at)) where
  pub rest-turn : at ≤ i → i < length s → {d b : ℕ} → d ≡ digit_value b → b ≡ get_or s i 0 → d < 10
      → number (rest s (length s - (i + 1 - at)) (v * 10 + d) (i + 1)) ≡ number (decimal_from s first at)
  rest-turn ha hi {d} {b} ed eb hd =
      let e : d ≡ digit_value (get_or s i 0) = ed ∙ ap digit_value eb in
      let f : length s - (i - at) ≡ suc (length s - (i + 1 - at)) = omega arith in
      rw e (rw (f, digits-turn s v i (length s - (i + 1 - at)) (rw e at hd)) at inv)

  pub rest-stop : {b : ℕ} → b ≡ get_or s i 0 → 10 ≤ digit_value b → v < 4294967296 → Some (v, i) ≡ number (decimal_from s first at)
  rest-stop {b} eb hd hv =
      rw (digits-stop s v i (length s - (i - at)) (rw eb at hd), lt-ltb v 4294967296 hv) at inv

  pub rest-large : 4294967296 ≤ v → None ≡ number (decimal_from s first at)
  rest-large h = rw (large s (length s - (i - at)) v i h) at inv

pub rest-inside : (s : List ℕ) (i : ℕ) {d b : ℕ} → d ≡ digit_value b → b ≡ get_or s i 0 → d < 10 → i < length s
rest-inside s i {d} {b} ed eb hd =
    let e : d ≡ digit_value (get_or s i 0) = ed ∙ ap digit_value eb in
    digit-inside s i 10 (omega arith) (rw e at hd)
