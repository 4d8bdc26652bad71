-- How far a form goes, and what it finds. Assumes nothing.
use mathlib.Core.List.{List, [], ◌∷◌}
use mathlib.Core.Path.{◌≡◌, refl, ap, ◌∙◌}
use mathlib.Core.Bool.{Bool, true, false, ◌&&◌}
use Prim.Native.Nat.{ℕ, zero, suc, ◌+◌, ◌*◌, ◌≤◌, ◌<◌}
use native.Mathlib.Omega.{arith}
use lib.ListN.{length, get_or, get_or-eq_default}
use lib.Dec.{eqb, ltb}
use borrow.Author.Tests.{ltb-true, ltb-false, eqb-true}
use Rattle.text_numbers.specs.Form.{Parsed, parsed, unparsed, Form, onward, ◌>>=◌, pure, choose, times, stands, literal, many}
use Rattle.text_numbers.specs.Numbers.{digit_value, value, digit, bits, digits_from, decimal_from, decimal}

-- a byte other than 0 stands inside the text
pub inside : (s : List ℕ) (i : ℕ) → 0 < get_or s i 0 → i < length s
inside s i h = go (ltb i (length s)) refl
  where
    go : (b : Bool) → ltb i (length s) ≡ b → i < length s
    go true e = ltb-true i (length s) e
    go false e = let z : get_or s i 0 ≡ 0 = get_or-eq_default s 0 (ltb-false i (length s) e) in omega arith

-- no byte of t is 0
abbrev pub solid : List ℕ → Bool
solid [] = true
solid (b ∷ t) = ltb 0 b && solid t

pub and_both : (a b : Bool) → a && b ≡ true → (a ≡ true) × (b ≡ true)
and_both true b h = (refl, h)
and_both false b h = (h, cc)

pub stands-inside : (s t : List ℕ) (at : ℕ) → solid t ≡ true → at ≤ length s → stands s at t ≡ true → at + length t ≤ length s
unfolding stands
stands-inside s [] at k h e = omega arith
stands-inside s (b ∷ t) at k h e =
    let kk = and_both (ltb 0 b) (solid t) k in
    let ee = and_both (eqb (get_or s at 0) b) (stands s (at + 1) t) e in
    let b0 : 0 < b = ltb-true 0 b kk.0 in
    let eb : get_or s at 0 ≡ b = eqb-true (get_or s at 0) b ee.0 in
    let i : at < length s = inside s at (rw eb b0) in
    let r : at + 1 + length t ≤ length s = stands-inside s t (at + 1) kk.1 (omega arith) ee.1 in
    omega arith

-- Where p is found from a place in the text on, the place after it is in the text too, and lies at least w further, but for c places.
abbrev pub Takes : {A : Type 0} → List ℕ → ℕ → (A → ℕ) → Form A → Type 0
Takes {A} s c w p = (at : ℕ) → at ≤ length s → (a : A) (n : ℕ) → p at ≡ parsed a n → (at + w a ≤ n + c) × (n ≤ length s)

module _ {A : Type 0} (s : List ℕ) where
  pub takes_none : (c : ℕ) (w : A → ℕ) → Takes s c w (λ at. unparsed)
  takes_none c w at h a n e = let z : ◌≡◌ {A = ℕ} 0 1 = cc in omega arith

  pub takes-pure : (c : ℕ) (w : A → ℕ) (b : A) → w b ≤ c → Takes s c w (pure b)
  takes-pure c w b k at h a n e =
      let ea : b ≡ a = cc in
      let en : at ≡ n = cc in
      let k' : w a ≤ c = rw ea at k in
      omega arith

  pub takes-choose : (c : ℕ) (w : A → ℕ) (b : Bool) (p q : Form A) → Takes s c w p → Takes s c w q → Takes s c w (choose b p q)
  takes-choose c w true p q hp hq = hp
  takes-choose c w false p q hp hq = hq

pub takes-bind : {A B : Type 0} (s : List ℕ) (c : ℕ) (u : A → ℕ) (w : B → ℕ) (p : Form A) (f : A → Form B)
    → Takes s 0 u p → ((a : A) → Takes s (u a + c) w (f a)) → Takes s c w (p >>= f)
takes-bind {A} {B} s c u w p f hp hf at h b n e = go (p at) refl e
  where
    go : (x : Parsed A) → p at ≡ x → onward f x ≡ parsed b n → (at + w b ≤ n + c) × (n ≤ length s)
    go (parsed a m) ex e' =
        let l = hp at h a m ex in
        let r = hf a m l.1 b n e' in
        omega arith
    go unparsed ex e' = let z : ◌≡◌ {A = ℕ} 0 1 = cc in omega arith

-- the weights of a list's elements added up
unfoldable pub total : {A : Type 0} → (A → ℕ) → List A → ℕ
total u [] = 0
total u (a ∷ l) = u a + total u l

pub length-total : {A : Type 0} (u : A → ℕ) (l : List A) → ((a : A) → 1 ≤ u a) → length l ≤ total u l
unfolding total
length-total u [] h = omega arith
length-total u (a ∷ l) h = let r = length-total u l h in let k = h a in omega arith

pub takes-times : {A : Type 0} (s : List ℕ) (u : A → ℕ) (p : Form A) (k : ℕ) → Takes s 0 u p → Takes s 0 (total u) (times k p)
unfolding times total
takes-times s u p zero hp = takes-pure s 0 (total u) [] (omega arith)
takes-times s u p (suc k) hp =
    takes-bind s 0 u (total u) p _ hp λ a.
    takes-bind s (u a + 0) (total u) (total u) (times k p) _ (takes-times s u p k hp) λ l. takes-pure s (total u l + (u a + 0)) (total u) (a ∷ l) (omega arith)

-- what was found before the rest
pub onward-found : {A B : Type 0} (f : A → Form B) (x : Parsed A) {b : B} {n : ℕ} → onward f x ≡ parsed b n
    → (a : A) × (m : ℕ) × (x ≡ parsed a m) × (f a m ≡ parsed b n)
onward-found f (parsed a m) e = (a, m, refl, e)
onward-found f unparsed e = let z : ◌≡◌ {A = ℕ} 0 1 = cc in absurd (omega arith)

pub length-times : {A : Type 0} (p : Form A) (k at : ℕ) (l : List A) (n : ℕ) → times k p at ≡ parsed l n → length l ≡ k
unfolding times
length-times p zero at l n e = let el : l ≡ [] = cc in ap length el
length-times p (suc k) at l n e =
    let (a, m, ep, ea) = onward-found _ (p at) e in
    let (l', m', et, el) = onward-found _ (times k p m) ea in
    let ll : l ≡ a ∷ l' = cc in
    ap length ll ∙ ap suc (length-times p k m l' m' et)

module _ (s : List ℕ) where
  pub takes-literal : (t : List ℕ) → solid t ≡ true → Takes s 0 (λ a. length t) (literal s t)
  unfolding literal
  takes-literal t k at h a n e = go (stands s at t) refl e
    where
      go : (b : Bool) → stands s at t ≡ b → choose b (λ m. parsed tt (m + length t)) (λ m. unparsed) at ≡ parsed a n → (at + length t ≤ n + 0) × (n ≤ length s)
      go true eb e' =
          let i = stands-inside s t at k h eb in
          let en : at + length t ≡ n = cc in
          omega arith
      go false eb e' = let z : ◌≡◌ {A = ℕ} 0 1 = cc in omega arith

  -- a byte below 48 is no digit
  pub digit-inside : (at base : ℕ) → base ≤ 16 → digit_value (get_or s at 0) < base → at < length s
  unfolding digit_value
  digit-inside at base h k = go (ltb at (length s)) refl
    where
      go : (b : Bool) → ltb at (length s) ≡ b → at < length s
      go true e = ltb-true at (length s) e
      go false e =
          let z : get_or s at 0 ≡ 0 = get_or-eq_default s 0 (ltb-false at (length s) e) in
          let y : 16 < base = rw z at k in
          omega arith

  pub takes-digit : (base : ℕ) → base ≤ 16 → Takes s 0 (λ d. 1) (digit s base)
  unfolding digit
  takes-digit base k at h a n e = go (ltb (digit_value (get_or s at 0)) base) refl e
    where
      go : (b : Bool) → ltb (digit_value (get_or s at 0)) base ≡ b
          → choose b (λ m. parsed (digit_value (get_or s m 0)) (m + 1)) (λ m. unparsed) at ≡ parsed a n
          → (at + 1 ≤ n + 0) × (n ≤ length s)
      go true eb e' =
          let i = digit-inside at base k (ltb-true _ _ eb) in
          let en : at + 1 ≡ n = cc in
          omega arith
      go false eb e' = let z : ◌≡◌ {A = ℕ} 0 1 = cc in omega arith

  pub takes-digits : (k v : ℕ) → Takes s 0 (λ w. 0) (digits_from s k v)
  unfolding digits_from
  takes-digits zero v at = takes-pure s 0 _ v (omega arith) at
  takes-digits (suc k) v at =
      takes-choose s 0 _ (ltb (digit_value (get_or s at 0)) 10) _ _
      (takes-bind s 0 (λ d. 1) _ (digit s 10) _ (takes-digit 10 (omega arith)) λ d b h a n e.
      let r = takes-digits k (v * 10 + d) b h a n e in omega arith)
      (takes-pure s 0 _ v (omega arith))
      at

  pub takes-decimal : Takes s 0 (λ v. 1) (decimal s)
  unfolding decimal decimal_from
  takes-decimal =
      takes-bind s 0 (λ d. 1) _ (digit s 10) _ (takes-digit 10 (omega arith)) λ d.
      takes-choose s 1 _ (eqb d 0) _ _ (takes-pure s 1 _ 0 (omega arith))
      (takes-bind s 1 (λ v. 0) _ (digits_from s (length s) d) _ (takes-digits (length s) d) λ v.
      takes-choose s 1 _ (ltb v 4294967296) _ _ (takes-pure s 1 _ v (omega arith)) (takes_none s 1 _))

  pub takes-many : {A : Type 0} (t : List ℕ) (u : A → ℕ) (p : Form A) (k : ℕ) → solid t ≡ true → Takes s 0 u p → Takes s 0 (total (λ a. length t + u a)) (many s t p k)
  unfolding many total
  takes-many t u p zero h hp at = takes-pure s 0 _ [] (omega arith) at
  takes-many t u p (suc k) h hp at =
      takes-choose s 0 _ (stands s at t) _ _
      (takes-bind s 0 (λ z. length t) _ (literal s t) _ (takes-literal t h) λ z.
      takes-bind s (length t + 0) u _ p _ hp λ a.
      takes-bind s (u a + (length t + 0)) _ _ (many s t p k) _ (takes-many t u p k h hp) λ l.
      takes-pure s _ _ (a ∷ l) (omega arith))
      (takes-pure s 0 _ [] (omega arith))
      at

  pub takes-bits : Takes s 0 (λ v. 0) (bits s)
  unfolding bits
  takes-bits =
      takes-bind s 0 (total (λ d. 1)) _ (times 16 (digit s 16)) _ (takes-times s (λ d. 1) (digit s 16) 16 (takes-digit 16 (omega arith))) λ ds.
      takes-pure s _ _ (value 16 0 ds) (omega arith)

  pub decimal-below : (at v n : ℕ) → decimal s at ≡ parsed v n → v < 4294967296
  unfolding decimal decimal_from
  decimal-below at v n e =
      let (d, m, ed, ev) = onward-found _ (digit s 10 at) e in
      first d m (eqb d 0) ev
    where
      last : (b : Bool) (w m : ℕ) → ltb w 4294967296 ≡ b → choose b (pure w) (λ k. unparsed) m ≡ parsed v n → v < 4294967296
      last true w m h k = let wv : w ≡ v = cc in let l = ltb-true w 4294967296 h in omega arith
      last false w m h k = let z : ◌≡◌ {A = ℕ} 0 1 = cc in omega arith

      first : (d m : ℕ) (b : Bool) → choose b (pure 0) (digits_from s (length s) d >>= λ w. choose (ltb w 4294967296) (pure w) (λ k. unparsed)) m ≡ parsed v n → v < 4294967296
      first d m true h = let zv : 0 ≡ v = cc in omega arith
      first d m false h =
          let (w, m', ew, eo) = onward-found (λ w. choose (ltb w 4294967296) (pure w) (λ k. unparsed)) (digits_from s (length s) d m) h in
          last (ltb w 4294967296) w m' refl eo
