-- A number that is read is its own printing: decimal numbers, and the bits of a binary64. The other way round is RoundTrip.
-- Assumes nothing.
--     decimal_bytes-of-decimal, hex_bytes-of-bits
use mathlib.Core.List.{List, [], ◌∷◌, ◌++◌, map, append_assoc, append-nil}
use mathlib.Core.Path.{◌≡◌, refl, sym, ap, ◌∙◌}
use mathlib.Core.Bool.{Bool, true, false, cond}
use Prim.Native.Nat.{ℕ, zero, suc, ◌+◌, ◌-◌, ◌*◌, ◌/◌, ◌%◌, ◌^◌, ◌≤◌, ◌<◌}
use native.Mathlib.Nat.{add-zero, pow-suc}
use native.Mathlib.Omega.{arith}
use lib.ListN.{length, get_or}
use lib.Dec.{ltb, eqb}
use borrow.Author.Tests.{lt-ltb, le-ltb, eqb-true, ltb-true, ltb-false, eq-eqb, eqb-false}
use Rattle.text_numbers.specs.Form.{parsed, unparsed, onward, pure, choose, times, stands}
use Rattle.text_numbers.specs.Numbers.{digit_value, value, digit, bits, digits_from, decimal_from, decimal}
use Rattle.text_numbers.proofs.Laws.{onward-found, decimal-below}
use Rattle.text_numbers.proofs.Turns.{digit-found}
use Rattle.mesh_answers.specs.Lines.{decimal_digits, decimal_bytes, hex_byte, hex_bytes}

-- the byte of a digit
hex-of-digit : (b : ℕ) → digit_value b < 16 → hex_byte (digit_value b) ≡ b
unfolding digit_value hex_byte
hex-of-digit b h = go1 (ltb b 48) refl h
  where
    last : (t : Bool) → ltb b 103 ≡ t → 97 ≤ b → cond t (b - 87) 16 < 16 → hex_byte (cond t (b - 87) 16) ≡ b
    last true e l k = rw (le-ltb (b - 87) 10 (omega arith)) (omega arith)
    last false e l k = absurd (omega arith)

    go3 : (t : Bool) → ltb b 97 ≡ t → cond t 16 (cond (ltb b 103) (b - 87) 16) < 16 → hex_byte (cond t 16 (cond (ltb b 103) (b - 87) 16)) ≡ b
    go3 true e k = absurd (omega arith)
    go3 false e k = last (ltb b 103) refl (ltb-false b 97 e) k

    go2 : (t : Bool) → ltb b 58 ≡ t → 48 ≤ b → cond t (b - 48) (cond (ltb b 97) 16 (cond (ltb b 103) (b - 87) 16)) < 16
        → hex_byte (cond t (b - 48) (cond (ltb b 97) 16 (cond (ltb b 103) (b - 87) 16))) ≡ b
    go2 true e l k = let u = ltb-true b 58 e in rw (lt-ltb (b - 48) 10 (omega arith)) (omega arith)
    go2 false e l k = go3 (ltb b 97) refl k

    go1 : (t : Bool) → ltb b 48 ≡ t → cond t 16 (cond (ltb b 58) (b - 48) (cond (ltb b 97) 16 (cond (ltb b 103) (b - 87) 16))) < 16
        → hex_byte (cond t 16 (cond (ltb b 58) (b - 48) (cond (ltb b 97) 16 (cond (ltb b 103) (b - 87) 16)))) ≡ b
    go1 true e k = absurd (omega arith)
    go1 false e k = go2 (ltb b 58) refl (ltb-false b 48 e) k

decimal-of-digit : (b : ℕ) → digit_value b < 10 → 48 + digit_value b ≡ b
unfolding hex_byte
decimal-of-digit b h = rw (lt-ltb (digit_value b) 10 h) at (hex-of-digit b (omega arith))

-- ---- hexadecimal digits

-- each digit is below 16
abbrev Small : List ℕ → Type 0
Small [] = Unit {0}
Small (d ∷ ds) = (d < 16) × Small ds

value-below : (ds : List ℕ) (v j : ℕ) → v < 16 ^ j → Small ds → value 16 v ds < 16 ^ (length ds + j)
unfolding value
value-below [] v j h k = rw add-zero-left h
  where
    add-zero-left : 0 + j ≡ j
    add-zero-left = omega arith
value-below (d ∷ ds) v j h k =
    let p = pow-suc 16 j in
    let d16 = k.0 in
    let r = value-below ds (v * 16 + d) (suc j) (omega arith) k.1 in
    let e : length ds + suc j ≡ suc (length ds) + j = omega arith in
    rw e at r

hex-of-value : (ds : List ℕ) (k v : ℕ) → Small ds → hex_bytes (length ds + k) (value 16 v ds) ≡ hex_bytes k v ++ map hex_byte ds
unfolding value hex_bytes
hex-of-value [] k v h = rw (zero_left, append-nil)
  where
    zero_left : 0 + k ≡ k
    zero_left = omega arith
hex-of-value (d ∷ ds) k v h =
    let d16 = h.0 in
    let r = hex-of-value ds (suc k) (v * 16 + d) h.1 in
    let e : length ds + suc k ≡ suc (length ds) + k = omega arith in
    let q : (v * 16 + d) / 16 ≡ v = omega arith in
    let m : (v * 16 + d) % 16 ≡ d = omega arith in
    ap (λ (i : ℕ). hex_bytes i (value 16 (v * 16 + d) ds)) (sym e) ∙ r ∙ (rw (q, m, append_assoc))

module _ (s : List ℕ) where
  digits-stand : (k at : ℕ) (ds : List ℕ) (n : ℕ) → times k (digit s 16) at ≡ parsed ds n
      → Small ds × (stands s at (map hex_byte ds) ≡ true) × (n ≡ at + k) × (length ds ≡ k)
  unfolding times stands digit
  digits-stand zero at ds n e =
      let ed : ds ≡ [] = cc in
      let en : n ≡ at = cc in
      rw ed (tt, refl, omega arith, refl)
  digits-stand (suc k) at ds n e =
      let (d, m, ep, ea) = onward-found _ (digit s 16 at) e in
      let (l, m', et, el) = onward-found _ (times k (digit s 16) m) ea in
      let ll : ds ≡ d ∷ l = cc in
      let mn : n ≡ m' = cc in
      one d m l m' (ltb (digit_value (get_or s at 0)) 16) refl ep (digits-stand k m l m' et) ll mn
    where
      one : (d m : ℕ) (l : List ℕ) (m' : ℕ) (b : Bool) → ltb (digit_value (get_or s at 0)) 16 ≡ b
          → choose b (λ i. parsed (digit_value (get_or s i 0)) (i + 1)) (λ i. unparsed) at ≡ parsed d m
          → Small l × (stands s m (map hex_byte l) ≡ true) × (m' ≡ m + k) × (length l ≡ k) → ds ≡ d ∷ l → n ≡ m'
          → Small ds × (stands s at (map hex_byte ds) ≡ true) × (n ≡ at + suc k) × (length ds ≡ suc k)
      one d m l m' true eb ep r ll mn =
          let dv : digit_value (get_or s at 0) ≡ d = cc in
          let am : at + 1 ≡ m = cc in
          let lt = ltb-true _ _ eb in
          let by : hex_byte d ≡ get_or s at 0 = ap hex_byte (sym dv) ∙ hex-of-digit (get_or s at 0) lt in
          rw ll ((rw dv at lt, r.0), rw (by, eq-eqb (get_or s at 0) (get_or s at 0) refl, am) r.1, omega arith, ap suc r.3)
      one d m l m' false eb ep r ll mn = let z : ◌≡◌ {A = ℕ} 0 1 = cc in absurd (omega arith)

  -- 16 digits that are read are the printing of their number
  pub hex_bytes-of-bits : (at v n : ℕ) → bits s at ≡ parsed v n
      → (stands s at (hex_bytes 16 v) ≡ true) × (n ≡ at + 16) × (v < 18446744073709551616)
  unfolding bits hex_bytes
  hex_bytes-of-bits at v n e =
      let (ds, m, et, ev) = onward-found _ (times 16 (digit s 16) at) e in
      let dv : value 16 0 ds ≡ v = cc in
      let mn : m ≡ n = cc in
      let (sm, st, em, el) = digits-stand 16 at ds m et in
      let hv : hex_bytes 16 v ≡ map hex_byte ds =
      ap (hex_bytes 16) (sym dv) ∙ ap (λ (k : ℕ). hex_bytes k (value 16 0 ds)) (sym (add-zero 16)) ∙ ap (λ (k : ℕ). hex_bytes (k + 0) (value 16 0 ds)) (sym el)
      ∙ hex-of-value ds 0 0 sm in
      let b = value-below ds 0 0 (omega arith) sm in
      let b16 : value 16 0 ds < 16 ^ 16 = rw (el) at b in
      (rw hv st, omega arith, rw dv at b16)

-- ---- decimal digits

-- a place more than there are digits changes nothing
decimal-more : (k n : ℕ) → n < 10 ^ suc k → decimal_digits (suc (suc k)) n ≡ decimal_digits (suc k) n
unfolding decimal_digits
decimal-more zero n h = rw (lt-ltb n 10 h)
decimal-more (suc k) n h = go (ltb n 10) refl (decimal-more k (n / 10))
  where
    go : (b : Bool) → ltb n 10 ≡ b → (n / 10 < 10 ^ suc k → decimal_digits (suc (suc k)) (n / 10) ≡ decimal_digits (suc k) (n / 10))
        → decimal_digits (suc (suc (suc k))) n ≡ decimal_digits (suc (suc k)) n
    go true e r = rw e
    go false e r =
        let p = pow-suc 10 (suc k) in
        let i = r (omega arith) in
        rw (e, i)

-- one digit more
decimal-snoc : (v d : ℕ) → 0 < v → d < 10 → v * 10 + d < 4294967296 → decimal_bytes (v * 10 + d) ≡ decimal_bytes v ++ ((48 + d) ∷ [])
unfolding decimal_digits
decimal-snoc v d h hd l =
    let q : (v * 10 + d) / 10 ≡ v = omega arith in
    let m : (v * 10 + d) % 10 ≡ d = omega arith in
    let s = decimal-more 18 v (omega arith) in
    rw (le-ltb (v * 10 + d) 10 (omega arith), q, m, s)

module _ (s : List ℕ) where
  cons-stands : (at m b : ℕ) (xs : List ℕ) → b ≡ get_or s at 0 → at + 1 ≡ m → stands s m xs ≡ true → stands s at (b ∷ xs) ≡ true
  unfolding stands
  cons-stands at m b xs eb em st = rw (eb, eq-eqb (get_or s at 0) (get_or s at 0) refl, em) st

  byte-stands : (at d : ℕ) → digit_value (get_or s at 0) ≡ d → d < 10 → stands s at ((48 + d) ∷ []) ≡ true
  unfolding stands
  byte-stands at d e h =
      let b : 48 + d ≡ get_or s at 0 = ap (λ (w : ℕ). 48 + w) (sym e) ∙ decimal-of-digit (get_or s at 0) (rw e h) in
      rw (b, eq-eqb (get_or s at 0) (get_or s at 0) refl)

  -- the digits that are read after v, and that their number is no less
  digits-print : (k v at w n : ℕ) → 0 < v → w < 4294967296 → digits_from s k v at ≡ parsed w n
      → (v ≤ w) × (xs : List ℕ) × (stands s at xs ≡ true) × (n ≡ at + length xs) × (decimal_bytes w ≡ decimal_bytes v ++ xs)
  unfolding digits_from digit stands
  digits-print zero v at w n hv hw e =
      let vw : v ≡ w = cc in
      let an : at ≡ n = cc in
      (omega arith, [], refl, omega arith, ap decimal_bytes (sym vw) ∙ sym (append-nil (decimal_bytes v)))
  digits-print (suc k) v at w n hv hw e = go (ltb (digit_value (get_or s at 0)) 10) refl e (λ d m hd. digits-print k (v * 10 + d) m w n hd hw)
    where
      Out : Type 0
      Out = (v ≤ w) × (xs : List ℕ) × (stands s at xs ≡ true) × (n ≡ at + length xs) × (decimal_bytes w ≡ decimal_bytes v ++ xs)

      go : (b : Bool) → ltb (digit_value (get_or s at 0)) 10 ≡ b
          → choose b (λ i. onward (λ d. digits_from s k (v * 10 + d)) (digit s 10 i)) (pure v) at ≡ parsed w n
          → ((d m : ℕ) → 0 < v * 10 + d → digits_from s k (v * 10 + d) m ≡ parsed w n
          → (v * 10 + d ≤ w) × (xs : List ℕ) × (stands s m xs ≡ true) × (n ≡ m + length xs) × (decimal_bytes w ≡ decimal_bytes (v * 10 + d) ++ xs))
          → Out
      go true eb g rec =
          let lt = ltb-true _ _ eb in
          let (d, m, ed, er) = onward-found (λ d. digits_from s k (v * 10 + d)) (digit s 10 at) g in
          let ed' : parsed (digit_value (get_or s at 0)) (at + 1) ≡ parsed d m = sym (digit-found s 10 at lt) ∙ ed in
          let dv : digit_value (get_or s at 0) ≡ d = cc in
          let am : at + 1 ≡ m = cc in
          let dlt : d < 10 = rw dv at lt in
          let (le, xs, st, en, ex) = rec d m (omega arith) er in
          let sn = decimal-snoc v d hv dlt (omega arith) in
          let by : 48 + d ≡ get_or s at 0 = ap (λ (u : ℕ). 48 + u) (sym dv) ∙ decimal-of-digit (get_or s at 0) lt in
          (omega arith, (48 + d) ∷ xs, cons-stands at m (48 + d) xs by am st, omega arith, ex ∙ ap (λ (ys : List ℕ). ys ++ xs) sn ∙ append_assoc (decimal_bytes v) ((48 + d) ∷ []) xs)
      go false eb g rec =
          let vw : v ≡ w = cc in
          let an : at ≡ n = cc in
          (omega arith, [], refl, omega arith, ap decimal_bytes (sym vw) ∙ sym (append-nil (decimal_bytes v)))

  -- a number that is read is its own printing
  pub decimal_bytes-of-decimal : (at v n : ℕ) → decimal s at ≡ parsed v n → (stands s at (decimal_bytes v) ≡ true) × (n ≡ at + length (decimal_bytes v))
  unfolding decimal decimal_from digit decimal_digits
  decimal_bytes-of-decimal at v n e =
      let below = decimal-below s at v n e in
      let (d, m, ed, ev) = onward-found _ (digit s 10 at) e in
      first (ltb (digit_value (get_or s at 0)) 10) refl d m ed (eqb d 0) refl ev below
    where
      last : (b : Bool) (w i : ℕ) → choose b (pure w) (λ k. unparsed) i ≡ parsed v n → (w ≡ v) × (i ≡ n)
      last true w i k = (cc, cc)
      last false w i k = let z : ◌≡◌ {A = ℕ} 0 1 = cc in absurd (omega arith)

      first : (t : Bool) → ltb (digit_value (get_or s at 0)) 10 ≡ t → (d m : ℕ)
          → choose t (λ i. parsed (digit_value (get_or s i 0)) (i + 1)) (λ i. unparsed) at ≡ parsed d m → (b : Bool) → eqb d 0 ≡ b
          → choose b (pure 0) (λ i. onward (λ w. choose (ltb w 4294967296) (pure w) (λ k. unparsed)) (digits_from s (length s) d i)) m ≡ parsed v n
          → v < 4294967296 → (stands s at (decimal_bytes v) ≡ true) × (n ≡ at + length (decimal_bytes v))
      first false et d m ed b eb ev below = let z : ◌≡◌ {A = ℕ} 0 1 = cc in absurd (omega arith)
      first true et d m ed true eb ev below =
          let dv : digit_value (get_or s at 0) ≡ d = cc in
          let am : at + 1 ≡ m = cc in
          let d0 : d ≡ 0 = eqb-true d 0 eb in
          let zv : 0 ≡ v = cc in
          let mn : m ≡ n = cc in
          rw (← zv) (byte-stands at 0 (dv ∙ d0) (omega arith), omega arith)
      first true et d m ed false eb ev below =
          let dv : digit_value (get_or s at 0) ≡ d = cc in
          let am : at + 1 ≡ m = cc in
          let lt : digit_value (get_or s at 0) < 10 = ltb-true _ _ et in
          let dlt : d < 10 = rw dv at lt in
          let (w, i, ew, eo) = onward-found (λ w. choose (ltb w 4294967296) (pure w) (λ k. unparsed)) (digits_from s (length s) d m) ev in
          let (wv, in') = last (ltb w 4294967296) w i eo in
          let nz : d ≡ 0 → ⊥ = eqb-false d 0 eb in
          let (le, xs, st, en, ex) = digits-print (length s) d m w i (positive d nz) (rw wv below) ew in
          let one : decimal_bytes d ≡ (48 + d) ∷ [] = rw (lt-ltb d 10 dlt) in
          let all : decimal_bytes v ≡ (48 + d) ∷ xs = ap decimal_bytes (sym wv) ∙ ex ∙ ap (λ (ys : List ℕ). ys ++ xs) one in
          let by : 48 + d ≡ get_or s at 0 = ap (λ (u : ℕ). 48 + u) (sym dv) ∙ decimal-of-digit (get_or s at 0) lt in
          rw all (cons-stands at m (48 + d) xs by am st, omega arith)
        where
          positive : (d : ℕ) → (d ≡ 0 → ⊥) → 0 < d
          positive d h = omega arith
