-- How long the numbers and the lines of an answer are, and how a number is written digit by digit. Assumes nothing.
use mathlib.Core.List.{List, [], ◌∷◌, ◌++◌}
use mathlib.Core.Path.{◌≡◌, refl, sym, ap, ◌∙◌}
use mathlib.Core.Bool.{Bool, true, false, cond}
use Prim.Native.Nat.{ℕ, zero, suc, ◌+◌, ◌-◌, ◌/◌, ◌%◌, ◌≤◌, ◌<◌}
use native.Mathlib.Nat.{add-zero}
use native.Mathlib.Omega.{arith}
use lib.ListN.{length, set, length-append}
use lib.Seq.{sets}
use lib.Dec.{ltb}
use borrow.Author.Tests.{lt-ltb, le-ltb}
use Rattle.text_numbers.proofs.Stores.{sets-append}
use Rattle.mesh_answers.specs.Lines.{decimal_digits, hex_byte, hex_bytes, number_field, bits_field, three_fields, at_line, refused_line}
use Rattle.mesh_answers.specs.Writing.{Written}
use Rattle.text_numbers.specs.Form.{bytes}

pub length-hex : (k n : ℕ) → length (hex_bytes k n) ≡ k
unfolding hex_bytes
length-hex zero n = refl
length-hex (suc k) n =
    let a = length-append (hex_bytes k (n / 16)) (hex_byte (n % 16) ∷ []) in
    let h = length-hex k (n / 16) in
    omega arith

pub length-decimal : (k n : ℕ) → length (decimal_digits k n) ≤ k
unfolding decimal_digits
length-decimal zero n = omega arith
length-decimal (suc k) n = go (ltb n 10) (length-decimal k (n / 10))
  where
    go : (b : Bool) → length (decimal_digits k (n / 10)) ≤ k → length (cond b ((48 + n) ∷ []) (decimal_digits k (n / 10) ++ ((48 + n % 10) ∷ []))) ≤ suc k
    go true h = omega arith
    go false h = let a = length-append (decimal_digits k (n / 10)) ((48 + n % 10) ∷ []) in omega arith

-- no digit
module _ (out : List ℕ) (at k n : ℕ) (e : k ≡ 0) where
  pub hex-none : Written out at (hex_bytes k n) at out
  unfolding hex_bytes
  hex-none = rw e (record { place = sym (add-zero at); list = refl })

  pub decimal-none : Written out at (decimal_digits k n) at out
  unfolding decimal_digits
  decimal-none = rw e (record { place = sym (add-zero at); list = refl })

-- one run of bytes after another
pub written-append : {out : List ℕ} {at : ℕ} {xs : List ℕ} {i : ℕ} {o1 : List ℕ} {ys : List ℕ} {j : ℕ} {o2 : List ℕ}
    → Written out at xs i o1 → Written o1 i ys j o2 → Written out at (xs ++ ys) j o2
written-append {out} {at} {xs} {i} {o1} {ys} {j} {o2} a b =
    let ea = a.place in
    let eb = b.place in
    let l = length-append xs ys in
    record {
      place = omega arith;
      list = b.list ∙ ap (λ (o : List ℕ). sets o i ys) a.list ∙ ap (λ (k : ℕ). sets (sets out at xs) k ys) ea ∙ sym (sets-append out at xs ys);
    }

-- one byte
written_byte : (out : List ℕ) (i b : ℕ) → Written out i (b ∷ []) (i + 1) (set out i b)
written_byte out i b = record { place = refl; list = refl }

-- a number of one digit, and a longer one
module _ (k n : ℕ) where
  pub decimal-short : n < 10 → decimal_digits (suc k) n ≡ (48 + n) ∷ []
  unfolding decimal_digits
  decimal-short h = rw (lt-ltb n 10 h)

  pub decimal-long : 10 ≤ n → decimal_digits (suc k) n ≡ decimal_digits k (n / 10) ++ ((48 + n % 10) ∷ [])
  unfolding decimal_digits
  decimal-long h = rw (le-ltb n 10 h)

-- the same where the number of places is not 0
module _ (k n : ℕ) (e : k ≡ 0 → ⊥) where
  from_one : k ≡ suc (k - 1)
  from_one = omega arith

  pub length-short : n < 10 → length (decimal_digits k n) ≡ 1
  length-short h = ap (λ (j : ℕ). length (decimal_digits j n)) from_one ∙ ap length (decimal-short (k - 1) n h)

  pub length-long : 10 ≤ n → length (decimal_digits k n) ≡ length (decimal_digits (k - 1) (n / 10)) + 1
  length-long h =
      ap (λ (j : ℕ). length (decimal_digits j n)) from_one ∙ ap length (decimal-long (k - 1) n h) ∙ length-append (decimal_digits (k - 1) (n / 10)) ((48 + n % 10) ∷ [])

module _ (out : List ℕ) (at k n : ℕ) (e : k ≡ 0 → ⊥) where
  pub hex-last : {i b : ℕ} {out' : List ℕ} → Written out at (hex_bytes (k - 1) (n / 16)) i out' → b ≡ hex_byte (n % 16) → Written out at (hex_bytes k n) (i + 1) (set out' i b)
  unfolding hex_bytes
  hex-last {i} {b} {out'} h eb =
      let ek : hex_bytes k n ≡ hex_bytes (k - 1) (n / 16) ++ (hex_byte (n % 16) ∷ []) = ap (λ (j : ℕ). hex_bytes j n) (from_one k n e) in
      rw (ek, eb) (written-append h (written_byte out' i (hex_byte (n % 16))))

  pub decimal-one : n < 10 → {b : ℕ} → b ≡ 48 + n → Written out at (decimal_digits k n) (at + 1) (set out at b)
  decimal-one h eb = rw (ap (λ (j : ℕ). decimal_digits j n) (from_one k n e) ∙ decimal-short (k - 1) n h, eb) (written_byte out at (48 + n))

  pub decimal-last : 10 ≤ n → {i b : ℕ} {out' : List ℕ} → Written out at (decimal_digits (k - 1) (n / 10)) i out' → b ≡ 48 + n % 10
      → Written out at (decimal_digits k n) (i + 1) (set out' i b)
  decimal-last h {i} {b} {out'} d eb = rw (ap (λ (j : ℕ). decimal_digits j n) (from_one k n e) ∙ decimal-long (k - 1) n h, eb) (written-append d (written_byte out' i (48 + n % 10)))

pub length-number : (n : ℕ) → length (number_field n) ≤ 21
length-number n = let h = length-decimal 20 n in omega arith

pub length-bits : (b : ℕ) → length (bits_field b) ≡ 17
length-bits b = ap suc (length-hex 16 b)

-- how long a line can be, for who lends the room
length_three : (t a b c : List ℕ) → length (three_fields t a b c) ≡ length t + length a + length b + length c + 2
length_three t a b c =
    let e1 = length-append t a in
    let e2 = length-append (t ++ a) b in
    let e3 = length-append ((t ++ a) ++ b) c in
    let e4 = length-append (((t ++ a) ++ b) ++ c) (bytes "]\n") in
    omega arith

pub length-counts : (t : List ℕ) (p e f : ℕ) → length t ≡ 5 → length (three_fields t (number_field p) (number_field e) (number_field f)) ≤ 70
length-counts t p e f h =
    let l = length_three t (number_field p) (number_field e) (number_field f) in
    let lp = length-number p in
    let le = length-number e in
    let lf = length-number f in
    omega arith

pub length_at : (x y z : ℕ) → length (at_line x y z) ≡ 58
length_at x y z =
    let l = length_three (bytes "[at 0") (bits_field x) (bits_field y) (bits_field z) in
    let lx = length-bits x in
    let ly = length-bits y in
    let lz = length-bits z in
    omega arith

pub length-refused : (n : ℕ) → length (refused_line n) ≤ 31
length-refused n =
    let e1 = length-append (bytes "[refused") (number_field n) in
    let e2 = length-append (bytes "[refused" ++ number_field n) (bytes "]\n") in
    let l = length-number n in
    omega arith
