-- One turn of a repeated form, and what an answer says of a form. Assumes nothing.
use mathlib.Core.List.{List, [], ◌∷◌}
use mathlib.Core.Path.{◌≡◌, refl, sym}
use mathlib.Core.Bool.{Bool, true, false, cond}
use Prim.Native.Nat.{ℕ, zero, suc, ◌+◌, ◌*◌, ◌≤◌, ◌<◌}
use Rattle.std.specs.Prelude.{Some, None}
use Rattle.std.proofs.lemmas.Option.{some_pair_parts, cond_some}
use lib.ListN.{length, get_or}
use lib.Dec.{ltb}
use borrow.Author.Tests.{lt-ltb, le-ltb, ltb-true, ltb-false}
use Rattle.text_numbers.specs.Form.{Parsed, parsed, unparsed, Form, onward, pure, times, if_parsed, stands, literal, many}
use Rattle.text_numbers.specs.Numbers.{digit_value, digit, digits_from}
use Rattle.text_numbers.specs.Answers.{number, digit_below}

pub given-pure : {A B R : Type 0} (g : B → ℕ → R) (d : R) (f : A → B) (x : Parsed A) → if_parsed g d (onward (λ a. pure (f a)) x) ≡ if_parsed (λ a n. g (f a) n) d x
given-pure g d f (parsed a n) = refl
given-pure g d f unparsed = refl

pub number_is : (x : Parsed ℕ) {v n : ℕ} → number x ≡ Some (v, n) → x ≡ parsed v n
number_is (parsed v n) e = let p = some_pair_parts _ _ _ _ e in cc
number_is unparsed e = cc

pub number-none : (x : Parsed ℕ) → number x ≡ None → x ≡ unparsed
number-none (parsed v n) e = cc
number-none unparsed e = refl

module _ {base v : ℕ} where
  pub digit_some : {d : ℕ} → digit_below base v ≡ Some d → (d ≡ v) × (d < base)
  digit_some {d} e =
      let k = cond_some (ltb v base) v d e in
      let h = ltb-true v base k.0 in
      (sym k.1, rw k.1 at h)

  pub digit_past : digit_below base v ≡ None → base ≤ v
  digit_past e = go (ltb v base) refl e
    where
      go : (b : Bool) → ltb v base ≡ b → cond b (Some v) None ≡ None → base ≤ v
      go true eb e' = cc
      go false eb e' = ltb-false v base eb

module _ {A : Type 0} (p : Form A) (at : ℕ) where
  pub times-found : (k : ℕ) {a : A} {n : ℕ} → p at ≡ parsed a n → times (suc k) p at ≡ onward (λ l. pure (a ∷ l)) (times k p n)
  unfolding times
  times-found k e = rw e

  pub times_none : (k : ℕ) → p at ≡ unparsed → times (suc k) p at ≡ unparsed
  unfolding times
  times_none k e = rw e

module _ (s : List ℕ) where
  pub digit-found : (base at : ℕ) → digit_value (get_or s at 0) < base → digit s base at ≡ parsed (digit_value (get_or s at 0)) (at + 1)
  unfolding digit
  digit-found base at h = rw (lt-ltb _ _ h)

  pub digit-none : (base at : ℕ) → base ≤ digit_value (get_or s at 0) → digit s base at ≡ unparsed
  unfolding digit
  digit-none base at h = rw (le-ltb _ _ h)

  pub literal-found : (t : List ℕ) (at : ℕ) → stands s at t ≡ true → literal s t at ≡ parsed tt (at + length t)
  unfolding literal
  literal-found t at e = rw e

  pub literal-none : (t : List ℕ) (at : ℕ) → stands s at t ≡ false → literal s t at ≡ unparsed
  unfolding literal
  literal-none t at e = rw e

  module _ {A : Type 0} (t : List ℕ) (p : Form A) (at : ℕ) where
    pub many-found : (k : ℕ) {a : A} {n : ℕ} → stands s at t ≡ true → p (at + length t) ≡ parsed a n → many s t p (suc k) at ≡ onward (λ l. pure (a ∷ l)) (many s t p k n)
    unfolding many
    many-found k e f = rw (e, literal-found t at e, f)

    pub many-none : (k : ℕ) → stands s at t ≡ true → p (at + length t) ≡ unparsed → many s t p (suc k) at ≡ unparsed
    unfolding many
    many-none k e f = rw (e, literal-found t at e, f)

    pub many-stop : (k : ℕ) → stands s at t ≡ false → many s t p k at ≡ parsed [] at
    unfolding many
    many-stop zero e = refl
    many-stop (suc k) e = rw e

module _ (s : List ℕ) (v i : ℕ) where
  pub digits-turn : (k : ℕ) → digit_value (get_or s i 0) < 10 → digits_from s (suc k) v i ≡ digits_from s k (v * 10 + digit_value (get_or s i 0)) (i + 1)
  unfolding digits_from
  digits-turn k h = rw (lt-ltb _ _ h, digit-found s 10 i h)

  pub digits-stop : (k : ℕ) → 10 ≤ digit_value (get_or s i 0) → digits_from s k v i ≡ parsed v i
  unfolding digits_from
  digits-stop zero h = refl
  digits-stop (suc k) h = rw (le-ltb _ _ h)
