-- A number that was written is read back: decimal numbers below 4,294,967,296, and the bits of a binary64. Assumes nothing.
--     decimal-of-decimal_bytes, bits-of-hex_bytes
use mathlib.Core.List.{List, [], ◌∷◌, ◌++◌, map}
use mathlib.Core.Path.{◌≡◌, refl, sym, ap, ◌∙◌}
use mathlib.Core.Bool.{Bool, true, false, cond}
use Prim.Native.Nat.{ℕ, zero, suc, ◌+◌, ◌-◌, ◌*◌, ◌/◌, ◌%◌, ◌^◌, ◌≤◌, ◌<◌}
use native.Mathlib.Nat.{add-zero, pow-suc}
use native.Mathlib.Omega.{arith}
use lib.ListN.{length, get_or}
use lib.Dec.{ltb, eqb}
use borrow.Author.Tests.{lt-ltb, le-ltb, eqb-true, ltb-true, ltb-false, ne_eqb}
use Rattle.text_numbers.specs.Form.{parsed, times, stands}
use Rattle.text_numbers.specs.Numbers.{digit_value, value, digit, bits, digits_from, decimal_from, decimal}
use Rattle.text_numbers.proofs.Laws.{and_both, digit-inside}
use Rattle.text_numbers.proofs.Turns.{times-found, digit-found, digits-turn, digits-stop}
use Rattle.mesh_answers.specs.Lines.{decimal_digits, decimal_bytes, hex_byte, hex_bytes}
use Rattle.mesh_answers.proofs.Laws.{length-hex, decimal-short, decimal-long}

-- all bytes are digits below the base
abbrev Digits : ℕ → List ℕ → Type 0
Digits base [] = Unit {0}
Digits base (b ∷ xs) = (digit_value b < base) × Digits base xs

digits_append : (base : ℕ) (xs ys : List ℕ) → Digits base xs → Digits base ys → Digits base (xs ++ ys)
digits_append base [] ys h g = g
digits_append base (b ∷ xs) ys h g = (h.0, digits_append base xs ys h.1 g)

value-append : (base v : ℕ) (xs : List ℕ) (b : ℕ) → value base v (map digit_value (xs ++ (b ∷ []))) ≡ value base v (map digit_value xs) * base + digit_value b
unfolding value
value-append base v [] b = refl
value-append base v (x ∷ xs) b = value-append base (v * base + digit_value x) xs b

decimal_digit : (d : ℕ) → d < 10 → digit_value (48 + d) ≡ d
unfolding digit_value
decimal_digit d h = simp (le-ltb (48 + d) 48 (omega arith), lt-ltb (48 + d) 58 (omega arith)) (omega arith)

hex-digit : (d : ℕ) → d < 16 → digit_value (hex_byte d) ≡ d
unfolding hex_byte digit_value
hex-digit d h = go (ltb d 10) refl
  where
    go : (b : Bool) → ltb d 10 ≡ b → digit_value (cond b (48 + d) (87 + d)) ≡ d
    go true e = decimal_digit d (ltb-true d 10 e)
    go false e =
        let g = ltb-false d 10 e in
        simp (le-ltb (87 + d) 48 (omega arith), le-ltb (87 + d) 58 (omega arith), le-ltb (87 + d) 97 (omega arith), lt-ltb (87 + d) 103 (omega arith)) (omega arith)

-- ---- hexadecimal digits

hex-digits : (k n : ℕ) → Digits 16 (hex_bytes k n)
unfolding hex_bytes
hex-digits zero n = tt
hex-digits (suc k) n =
    let m : n % 16 < 16 = omega arith in
    digits_append 16 (hex_bytes k (n / 16)) (hex_byte (n % 16) ∷ []) (hex-digits k (n / 16)) (rw (hex-digit (n % 16) m) m, tt)

hex-value : (k n : ℕ) → n < 16 ^ k → value 16 0 (map digit_value (hex_bytes k n)) ≡ n
unfolding hex_bytes value
hex-value zero n h = omega arith
hex-value (suc k) n h =
    let p = pow-suc 16 k in
    let r = hex-value k (n / 16) (omega arith) in
    let d = hex-digit (n % 16) (omega arith) in
    value-append 16 0 (hex_bytes k (n / 16)) (hex_byte (n % 16)) ∙ (rw (r, d) (omega arith))

module _ (s : List ℕ) where
  times-digits : (xs : List ℕ) (at : ℕ) → Digits 16 xs → stands s at xs ≡ true → times (length xs) (digit s 16) at ≡ parsed (map digit_value xs) (at + length xs)
  unfolding times stands
  times-digits [] at d e = rw (add-zero at)
  times-digits (b ∷ xs) at d e =
      let (f, g) = and_both (eqb (get_or s at 0) b) (stands s (at + 1) xs) e in
      let eb : get_or s at 0 ≡ b = eqb-true (get_or s at 0) b f in
      let t = times-found (digit s 16) at (length xs) (digit-found s 16 at (rw eb d.0)) in
      let r = times-digits xs (at + 1) d.1 g in
      let en : at + 1 + length xs ≡ at + suc (length xs) = omega arith in
      t ∙ (rw (r, eb, en))

  -- 16 digits that were written are read back as the number
  pub bits-of-hex_bytes : (at n : ℕ) → n < 2 ^ 64 → stands s at (hex_bytes 16 n) ≡ true → bits s at ≡ parsed n (at + 16)
  unfolding bits
  bits-of-hex_bytes at n h e =
      let t = times-digits (hex_bytes 16 n) at (hex-digits 16 n) e in
      let t16 = rw (length-hex 16 n) at t in
      rw (t16, hex-value 16 n h)

-- ---- decimal digits

decimal-digits : (k n : ℕ) → Digits 10 (decimal_digits k n)
unfolding decimal_digits
decimal-digits zero n = tt
decimal-digits (suc k) n = go (ltb n 10) refl (decimal-digits k (n / 10))
  where
    go : (b : Bool) → ltb n 10 ≡ b → Digits 10 (decimal_digits k (n / 10)) → Digits 10 (cond b ((48 + n) ∷ []) (decimal_digits k (n / 10) ++ ((48 + n % 10) ∷ [])))
    go true e h = let l = ltb-true n 10 e in (rw (decimal_digit n l) l, tt)
    go false e h =
        let m : n % 10 < 10 = omega arith in
        digits_append 10 (decimal_digits k (n / 10)) ((48 + n % 10) ∷ []) h (rw (decimal_digit (n % 10) m) m, tt)

decimal-value : (k n : ℕ) → n < 10 ^ suc k → value 10 0 (map digit_value (decimal_digits (suc k) n)) ≡ n
unfolding value
decimal-value zero n h =
    let d = decimal_digit n h in
    rw (decimal-short 0 n h) (omega arith)
decimal-value (suc k) n h = go (ltb n 10) refl (decimal-value k (n / 10))
  where
    go : (b : Bool) → ltb n 10 ≡ b → (n / 10 < 10 ^ suc k → value 10 0 (map digit_value (decimal_digits (suc k) (n / 10))) ≡ n / 10)
        → value 10 0 (map digit_value (decimal_digits (suc (suc k)) n)) ≡ n
    go true e r =
        let l = ltb-true n 10 e in
        let d = decimal_digit n l in
        rw (decimal-short (suc k) n l) (omega arith)
    go false e r =
        let p = pow-suc 10 (suc k) in
        let v = r (omega arith) in
        let d = decimal_digit (n % 10) (omega arith) in
        rw (decimal-long (suc k) n (ltb-false n 10 e)) (value-append 10 0 (decimal_digits (suc k) (n / 10)) (48 + n % 10) ∙ (rw (v, d) (omega arith)))

-- the first digit of a number above 0 is not 0
decimal-first : (k n : ℕ) → 0 < n → n < 10 ^ suc k → (b : ℕ) × (xs : List ℕ) × (decimal_digits (suc k) n ≡ b ∷ xs) × (digit_value b ≡ 0 → ⊥)
decimal-first zero n h0 h = (48 + n, [], decimal-short 0 n h, λ z. let d = decimal_digit n h in omega arith)
decimal-first (suc k) n h0 h = go (ltb n 10) refl (decimal-first k (n / 10))
  where
    go : (t : Bool) → ltb n 10 ≡ t → (0 < n / 10 → n / 10 < 10 ^ suc k → (b : ℕ) × (xs : List ℕ) × (decimal_digits (suc k) (n / 10) ≡ b ∷ xs) × (digit_value b ≡ 0 → ⊥))
        → (b : ℕ) × (xs : List ℕ) × (decimal_digits (suc (suc k)) n ≡ b ∷ xs) × (digit_value b ≡ 0 → ⊥)
    go true e r = let l = ltb-true n 10 e in (48 + n, [], decimal-short (suc k) n l, λ z. let d = decimal_digit n l in omega arith)
    go false e r =
        let l = ltb-false n 10 e in
        let p = pow-suc 10 (suc k) in
        let (b, xs, eb, nz) = r (omega arith) (omega arith) in
        (b, xs ++ ((48 + n % 10) ∷ []), decimal-long (suc k) n l ∙ ap (λ (ys : List ℕ). ys ++ ((48 + n % 10) ∷ [])) eb, nz)

module _ (s : List ℕ) where
  digits-inside : (xs : List ℕ) (at : ℕ) → at ≤ length s → Digits 10 xs → stands s at xs ≡ true → at + length xs ≤ length s
  unfolding stands
  digits-inside [] at h d e = omega arith
  digits-inside (b ∷ xs) at h d e =
      let (f, g) = and_both (eqb (get_or s at 0) b) (stands s (at + 1) xs) e in
      let i = digit-inside s at 10 (omega arith) (rw (eqb-true (get_or s at 0) b f) d.0) in
      let r = digits-inside xs (at + 1) (omega arith) d.1 g in
      omega arith

  digits-read : (xs : List ℕ) (at v k : ℕ) → Digits 10 xs → stands s at xs ≡ true
      → digits_from s (length xs + k) v at ≡ digits_from s k (value 10 v (map digit_value xs)) (at + length xs)
  unfolding stands value
  digits-read [] at v k d e = let z : 0 + k ≡ k = omega arith in rw (z, add-zero at)
  digits-read (b ∷ xs) at v k d e =
      let (f, g) = and_both (eqb (get_or s at 0) b) (stands s (at + 1) xs) e in
      let eb : get_or s at 0 ≡ b = eqb-true (get_or s at 0) b f in
      let n : suc (length xs) + k ≡ suc (length xs + k) = omega arith in
      let t = digits-turn s v at (length xs + k) (rw eb d.0) in
      let r = digits-read xs (at + 1) (v * 10 + digit_value b) k d.1 g in
      let en : at + 1 + length xs ≡ at + suc (length xs) = omega arith in
      ap (λ (j : ℕ). digits_from s j v at) n ∙ t ∙ ap (λ (c : ℕ). digits_from s (length xs + k) (v * 10 + digit_value c) (at + 1)) eb ∙ r
      ∙ ap (λ (j : ℕ). digits_from s k (value 10 (v * 10 + digit_value b) (map digit_value xs)) j) en

  decimal-read : (at b : ℕ) (xs : List ℕ) (n : ℕ) → at ≤ length s → n < 4294967296 → Digits 10 (b ∷ xs) → (digit_value b ≡ 0 → ⊥)
      → value 10 0 (map digit_value (b ∷ xs)) ≡ n → stands s at (b ∷ xs) ≡ true → 10 ≤ digit_value (get_or s (at + suc (length xs)) 0)
      → decimal s at ≡ parsed n (at + suc (length xs))
  unfolding decimal decimal_from stands value
  decimal-read at b xs n h hn d nz ev e g =
      let (f, es) = and_both (eqb (get_or s at 0) b) (stands s (at + 1) xs) e in
      let eb : get_or s at 0 ≡ b = eqb-true (get_or s at 0) b f in
      let db : digit_value (get_or s at 0) < 10 = rw eb d.0 in
      let i = digit-inside s at 10 (omega arith) db in
      let j = digits-inside xs (at + 1) (omega arith) d.1 es in
      let k = length s - length xs in
      let fuel : length s ≡ length xs + k = omega arith in
      let z : 0 * 10 + digit_value b ≡ digit_value b = omega arith in
      let en : at + 1 + length xs ≡ at + suc (length xs) = omega arith in
      let all : digits_from s (length s) (digit_value b) (at + 1) ≡ parsed n (at + suc (length xs)) =
      ap (λ (m : ℕ). digits_from s m (digit_value b) (at + 1)) fuel
      ∙ digits-read xs (at + 1) (digit_value b) k d.1 es
      ∙ ap (λ (w : ℕ). digits_from s k (value 10 w (map digit_value xs)) (at + 1 + length xs)) (sym z)
      ∙ ap (λ (w : ℕ). digits_from s k w (at + 1 + length xs)) ev
      ∙ ap (λ (m : ℕ). digits_from s k n m) en
      ∙ digits-stop s n (at + suc (length xs)) k g in
      rw (digit-found s 10 at db, eb, ne_eqb (digit_value b) 0 nz, all, lt-ltb n 4294967296 hn)

  zero-read : (at : ℕ) → stands s at (48 ∷ []) ≡ true → decimal s at ≡ parsed 0 (at + 1)
  unfolding decimal stands digit_value
  zero-read at e =
      let eb : get_or s at 0 ≡ 48 = eqb-true (get_or s at 0) 48 (and_both (eqb (get_or s at 0) 48) true e).0 in
      let db : digit_value (get_or s at 0) < 10 = rw eb (omega arith) in
      rw (digit-found s 10 at db, eb)

  -- a number that was written is read back, if no digit stands after it
  pub decimal-of-decimal_bytes : (at n : ℕ) → at ≤ length s → n < 4294967296 → stands s at (decimal_bytes n) ≡ true
      → 10 ≤ digit_value (get_or s (at + length (decimal_bytes n)) 0) → decimal s at ≡ parsed n (at + length (decimal_bytes n))
  unfolding decimal_digits
  decimal-of-decimal_bytes at zero h hn e g = zero-read at e
  decimal-of-decimal_bytes at (suc m) h hn e g =
      let (b, xs, eb, nz) = decimal-first 19 (suc m) (omega arith) (omega arith) in
      let el : length (decimal_bytes (suc m)) ≡ suc (length xs) = ap length eb in
      let v = decimal-value 19 (suc m) (omega arith) in
      rw el (decimal-read at b xs (suc m) h hn (rw eb at (decimal-digits 20 (suc m))) nz (rw eb at v) (rw eb at e) (rw el at g))
