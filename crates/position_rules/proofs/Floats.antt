-- Sums of numbers that are finite with the sign bit clear, and numbers that are not finite. Assumes nothing.
--     add-lost, mul-lost, div-lost    what is not finite stays so
--     sum-lost                        a sum of four terms is not finite where a sum of lesser numbers than two of them is not
--     half-fit, quarter-fit           half and a quarter of a number that fits are finite, with the sign bit clear, and no greater
--     finite-parts                    the coordinates of a finite position
-- A number x is at most y where num x / den x is at most num y / den y.
use mathlib.Core.Path.{◌≡◌, refl, sym, ◌∙◌, ap, subst}
use mathlib.Core.Bool.{Bool, true, false, not, ◌&&◌, ◌||◌, cond, true≢false, false≢true}
use Prim.Native.Nat.{ℕ, zero, suc, ◌+◌, ◌-◌, ◌*◌, ◌%◌, ◌^◌, ◌≤◌, ◌<◌}
use native.Mathlib.Nat.{le_of_eq, le_of_lt, mul-pos, mul-one, one-mul, zero-mul, add-mul, mul_comm, mul_assoc, mul_left_comm}
use native.Mathlib.Nat.{mul_right_comm, mul-le-mul_right, mul-lt-mul_of_pos_right, lt_of_mul-lt-mul_right, not-le_of_lt}
use native.Mathlib.Omega.{arith}
use native.Mathlib.Decide.{dec_lt}
use lib.IntN.{ℤ, pos, negsuc}
use lib.Dec.{T, ltb, eqb, leb, ltb→lt, eqb→eq, leb→le}
use lib.Pow.{pow-add, pow_pos, pow-lt}
use lib.Ieee.{Float, nan, inf, fin, binary64, prec, emax, low, up, down, odd, units, round, sum, add, mul, div, le, fits, of_bits}
use lib.Ieee.Fits.{down_pos, round_is, add-fits}
use lib.Ieee.Exact.{HasValue, odd_sign, round_exact}
use lib.Ieee.Order.{round_mono}
use lib.Ieee.Positive.{num, den, den_pos, value→cross, through}
use lib.Ieee.Scale.{finite, grid, round_val, round_under}
use Rattle.positions.specs.declared.Position.{Position}
use Rattle.positions.specs.Position.{finite_position}
use Rattle.audited_meshes.specs.Audit.{interval_fit}

-- ---- what is not finite stays so

pub add-lost : (x y : Float) → finite x ≡ false → finite (add binary64 x y) ≡ false
unfolding add
add-lost nan y h = refl
add-lost (inf s) nan h = refl
add-lost (inf true) (inf true) h = refl
add-lost (inf true) (inf false) h = refl
add-lost (inf false) (inf true) h = refl
add-lost (inf false) (inf false) h = refl
add-lost (inf s) (fin t n d) h = refl
add-lost (fin s m e) y h = absurd (true≢false h)

pub add-lost-right : (x y : Float) → finite y ≡ false → finite (add binary64 x y) ≡ false
unfolding add
add-lost-right nan y h = refl
add-lost-right (inf s) y h = add-lost (inf s) y refl
add-lost-right (fin s m e) nan h = refl
add-lost-right (fin s m e) (inf t) h = refl
add-lost-right (fin s m e) (fin t n d) h = absurd (true≢false h)

lost-if : (b : Bool) (s : Bool) → finite (cond b nan (inf s)) ≡ false
lost-if true s = refl
lost-if false s = refl

pub mul-lost : (x y : Float) → finite x ≡ false → finite (mul binary64 x y) ≡ false
unfolding mul
mul-lost nan y h = refl
mul-lost (inf s) nan h = refl
mul-lost (inf s) (inf t) h = refl
mul-lost (inf s) (fin t n d) h = lost-if (eqb n 0) _
mul-lost (fin s m e) y h = absurd (true≢false h)

pub mul-lost-right : (x y : Float) → finite y ≡ false → finite (mul binary64 x y) ≡ false
unfolding mul
mul-lost-right nan y h = refl
mul-lost-right (inf s) y h = mul-lost (inf s) y refl
mul-lost-right (fin s m e) nan h = refl
mul-lost-right (fin s m e) (inf t) h = lost-if (eqb m 0) _
mul-lost-right (fin s m e) (fin t n d) h = absurd (true≢false h)

pub div-lost : (x y : Float) → finite x ≡ false → finite y ≡ false → finite (div binary64 x y) ≡ false
unfolding div
div-lost nan y h k = refl
div-lost (inf s) nan h k = refl
div-lost (inf s) (inf t) h k = refl
div-lost (inf s) (fin t n d) h k = absurd (true≢false k)
div-lost (fin s m e) y h k = absurd (true≢false h)

-- ---- numbers as fractions

abbrev pub AtMost : Float → Float → Type 0
AtMost x y = num x * den y ≤ num y * den x

at-most-trans : (x y z : Float) → AtMost x y → AtMost y z → AtMost x z
at-most-trans x y z h k = through (num x) (num y) (num z) (den x) (den y) (den z) (den_pos y) h k

value-fit : (z : Float) (a c : ℕ) → HasValue z false a c → interval_fit z ≡ true
value-fit nan a c h = absurd h
value-fit (inf s) a c h = absurd h
value-fit (fin s m e) a c h = ap not h.0

value-finite : (z : Float) (a c : ℕ) → HasValue z false a c → finite z ≡ true
value-finite nan a c h = absurd h
value-finite (inf s) a c h = absurd h
value-finite (fin s m e) a c h = refl

-- ---- rounding

round-fit : (a c : ℕ) → finite (round binary64 false a c) ≡ true → interval_fit (round binary64 false a c) ≡ true
round-fit a c h =
    value-fit (round binary64 false a c) (grid binary64 a c) (2 ^ low binary64) (round_val binary64 a c (round_under binary64 a c (subst T (sym h) tt)))

units-inf : (q k : ℕ) → finite (units binary64 false q k) ≡ false → units binary64 false q k ≡ inf false
unfolding units
units-inf q k = go (ltb (q * 2 ^ k) (2 ^ (low binary64 + suc (emax binary64))))
  where
    go : (b : Bool) → finite (cond b (odd (suc (prec binary64)) false q k (low binary64)) (inf false)) ≡ false
        → cond b (odd (suc (prec binary64)) false q k (low binary64)) (inf false) ≡ inf false
    go true h =
        absurd (true≢false (sym (value-finite (odd (suc (prec binary64)) false q k (low binary64)) (q * 2 ^ k) (2 ^ low binary64)
        (odd_sign (suc (prec binary64)) false q k (low binary64))) ∙ h))
    go false h = refl

round-inf : (a c : ℕ) → finite (round binary64 false a c) ≡ false → round binary64 false a c ≡ inf false
round-inf a c h = round_is binary64 false a c ∙ units-inf _ _ (sym (ap finite (round_is binary64 false a c)) ∙ h)

above-inf : (z : Float) → T (le (inf false) z) → finite z ≡ false
unfolding le
above-inf nan h = refl
above-inf (inf s) h = refl
above-inf (fin s m e) h = absurd h

-- a greater fraction overflows too
round-lost : (a b c d : ℕ) → 0 < b → 0 < d → a * d ≤ c * b → finite (round binary64 false a b) ≡ false → finite (round binary64 false c d) ≡ false
round-lost a b c d B D h k = above-inf _ (subst (λ z. T (le z (round binary64 false c d))) (round-inf a b k) (round_mono binary64 a b c d B D h))

at-most-of-le : (x y : Float) → interval_fit x ≡ true → interval_fit y ≡ true → T (le x y) → AtMost x y
unfolding le
at-most-of-le nan y h k l = absurd (false≢true h)
at-most-of-le (inf s) y h k l = absurd (false≢true h)
at-most-of-le (fin true m e) y h k l = absurd (false≢true h)
at-most-of-le (fin false m e) nan h k l = absurd (false≢true k)
at-most-of-le (fin false m e) (inf t) h k l = absurd (false≢true k)
at-most-of-le (fin false m e) (fin true n d) h k l = absurd (false≢true k)
at-most-of-le (fin false m e) (fin false n d) h k l = ordered (m * up e * down d) (n * up d * down e) l
  where
    ordered : (a b : ℕ) → T (ltb a b || (eqb a b && true)) → a ≤ b
    ordered a b = go (ltb a b) (eqb a b) (ltb→lt a b) (eqb→eq a b)
      where
        go : (x y : Bool) → (T x → a < b) → (T y → a ≡ b) → T (x || (y && true)) → a ≤ b
        go true y f g t = le_of_lt (f tt)
        go false true f g t = le_of_eq (g tt)
        go false false f g t = absurd t

-- ---- sums

-- the sum of two numbers is the rounded sum of their fractions
add-round : (x y : Float) → interval_fit x ≡ true → interval_fit y ≡ true
    → add binary64 x y ≡ round binary64 false (num x * den y + num y * den x) (den x * den y)
unfolding add sum
add-round nan y h k = absurd (false≢true h)
add-round (inf s) y h k = absurd (false≢true h)
add-round (fin true m e) y h k = absurd (false≢true h)
add-round (fin false m e) nan h k = absurd (false≢true k)
add-round (fin false m e) (inf t) h k = absurd (false≢true k)
add-round (fin false m e) (fin true n d) h k = absurd (false≢true k)
add-round (fin false m e) (fin false n d) h k = refl

pub add_fit : (x y : Float) → interval_fit x ≡ true → interval_fit y ≡ true → finite (add binary64 x y) ≡ true → interval_fit (add binary64 x y) ≡ true
add_fit x y h k l = rw (add-round x y h k) (round-fit _ _ (sym (ap finite (add-round x y h k)) ∙ l))

-- a number that the format holds is not changed by rounding
scaled : (q u d w l : ℕ) → w * d ≡ u * l → q * u * l ≡ q * w * d
scaled q u d w l e = mul_assoc q u l ∙ ap (λ (z : ℕ). q * z) (sym e) ∙ sym (mul_assoc q w d)

scaled-lt : (q u d w l n : ℕ) → 0 < l → q * u < n * d → w * d ≡ u * l → q * w < l * n
scaled-lt q u d w l n L h e =
    lt_of_mul-lt-mul_right d
    (subst (λ (z : ℕ). z < l * n * d) (scaled q u d w l e)
    (subst (λ (z : ℕ). q * u * l < z) (mul_right_comm n d l ∙ ap (λ (z : ℕ). z * d) (mul_comm n l)) (mul-lt-mul_of_pos_right h L)))

own_at : (q u d j : ℕ) → 0 < d → q < 2 ^ prec binary64 → q * u < 2 ^ suc (emax binary64) * d → 2 ^ j * d ≡ u * 2 ^ low binary64
    → HasValue (round binary64 false (q * u) d) false (q * u) d
own_at q u d j D small fine e =
    round_exact binary64 false (q * u) d q j D small
    (subst (λ (z : ℕ). q * 2 ^ j < z) (sym (pow-add 2 (low binary64) (suc (emax binary64))))
    (scaled-lt q u d (2 ^ j) (2 ^ low binary64) (2 ^ suc (emax binary64)) (pow_pos (low binary64)) fine e))
    (scaled q u d (2 ^ j) (2 ^ low binary64) e)

le-of-pow-le : (i j : ℕ) → 2 ^ i ≤ 2 ^ j → i ≤ j
le-of-pow-le i j h = go (dec_lt j i)
  where
    go : Dec (j < i) → i ≤ j
    go (yes l) = absurd (not-le_of_lt (pow-lt l) h)
    go (no l) = omega arith

-- what the format asks of a number: few digits, a last digit that is not too low, a size that is not too great
record Held (m : ℕ) (e : ℤ) : Type 0 where
  digits : m < 2 ^ prec binary64
  depth : down e ≤ 2 ^ low binary64
  range : m * up e < 2 ^ suc (emax binary64) * down e

held : (m : ℕ) (e : ℤ) → T (fits binary64 (fin false (suc m) e)) → Held (suc m) e
unfolding fits
held m e =
    go (eqb (suc m % 2) 1) (ltb (suc m) (2 ^ prec binary64)) (leb (down e) (2 ^ low binary64)) (ltb (suc m * up e) (2 ^ suc (emax binary64) * down e))
    (ltb→lt (suc m) (2 ^ prec binary64)) (leb→le (down e) (2 ^ low binary64)) (ltb→lt (suc m * up e) (2 ^ suc (emax binary64) * down e))
  where
    go : (a b c d : Bool) → (T b → suc m < 2 ^ prec binary64) → (T c → down e ≤ 2 ^ low binary64)
        → (T d → suc m * up e < 2 ^ suc (emax binary64) * down e) → T (a && b && c && d) → Held (suc m) e
    go true true true true f g h t = record { digits = f tt; depth = g tt; range = h tt }
    go true true true false f g h t = absurd t
    go true true false d f g h t = absurd t
    go true false c d f g h t = absurd t
    go false b c d f g h t = absurd t

own-round : (x : Float) → interval_fit x ≡ true → T (fits binary64 x) → HasValue (round binary64 false (num x) (den x)) false (num x) (den x)
own-round nan h k = absurd (false≢true h)
own-round (inf s) h k = absurd (false≢true h)
own-round (fin true m e) h k = absurd (false≢true h)
own-round (fin false zero e) h k =
    round_exact binary64 false (0 * up e) (down e) 0 0 (down_pos e) (pow_pos (prec binary64)) (pow_pos (low binary64 + suc (emax binary64)))
    (ap (λ (z : ℕ). z * 2 ^ low binary64) (zero-mul (up e)) ∙ sym (zero-mul (down e)))
own-round (fin false (suc m) (pos i)) h k =
    own_at (suc m) (2 ^ i) 1 (i + low binary64) (omega arith) (held m (pos i) k).digits (held m (pos i) k).range
    (mul-one (2 ^ (i + low binary64)) ∙ pow-add 2 i (low binary64))
own-round (fin false (suc m) (negsuc i)) h k =
    let deep : suc i ≤ low binary64 = le-of-pow-le (suc i) (low binary64) (held m (negsuc i) k).depth in
    let rest : low binary64 - suc i + suc i ≡ low binary64 = omega arith in
    own_at (suc m) 1 (2 ^ suc i) (low binary64 - suc i) (pow_pos (suc i)) (held m (negsuc i) k).digits (held m (negsuc i) k).range
    (sym (pow-add 2 (low binary64 - suc i) (suc i)) ∙ ap (λ (z : ℕ). 2 ^ z) rest ∙ sym (one-mul (2 ^ low binary64)))

-- the number as it is rounded
record Own (x : Float) : Type 0 where
  own-fit : interval_fit (round binary64 false (num x) (den x)) ≡ true
  own-finite : finite (round binary64 false (num x) (den x)) ≡ true
  own_value : num (round binary64 false (num x) (den x)) * den x ≡ num x * den (round binary64 false (num x) (den x))

own : (x : Float) → interval_fit x ≡ true → T (fits binary64 x) → Own x
own x h k =
    let r = round binary64 false (num x) (den x) in
    let v : HasValue r false (num x) (den x) = own-round x h k in
    record {
      own-fit = value-fit r (num x) (den x) v;
      own-finite = value-finite r (num x) (den x) v;
      own_value = value→cross r (num x) (den x) v;
    }

less-than-sum : (a b c d : ℕ) → a * (c * d) ≤ (a * d + b * c) * c
less-than-sum a b c d =
    let left : a * (c * d) ≡ a * d * c = simp (mul_assoc, mul_comm, mul_left_comm) in
    omega (arith, left, add-mul (a * d) (b * c) c)

-- a sum is at least its first term
add-at-least : (x y : Float) → interval_fit x ≡ true → T (fits binary64 x) → interval_fit y ≡ true → finite (add binary64 x y) ≡ true
    → AtMost x (add binary64 x y)
add-at-least x y h k l f =
    let o : Own x = own x h k in
    let r = round binary64 false (num x) (den x) in
    let above : T (le r (add binary64 x y)) =
    subst (λ z. T (le r z)) (sym (add-round x y h l))
    (round_mono binary64 (num x) (den x) (num x * den y + num y * den x) (den x * den y) (den_pos x) (mul-pos (den_pos x) (den_pos y))
    (less-than-sum (num x) (num y) (den x) (den y))) in
    at-most-trans x r (add binary64 x y) (le_of_eq (sym o.own_value))
    (at-most-of-le r (add binary64 x y) o.own-fit (add_fit x y h l f) above)

cross-add : (p q r t p' q' r' t' : ℕ) → p * q' ≤ p' * q → r * t' ≤ r' * t
    → (p * t + r * q) * (q' * t') ≤ (p' * t' + r' * q') * (q * t)
cross-add p q r t p' q' r' t' h k =
    let a : p * q' * (t * t') ≤ p' * q * (t * t') = mul-le-mul_right (t * t') h in
    let b : r * t' * (q * q') ≤ r' * t * (q * q') = mul-le-mul_right (q * q') k in
    let a₁ : p * t * (q' * t') ≡ p * q' * (t * t') = simp (mul_assoc, mul_comm, mul_left_comm) in
    let a₂ : p' * t' * (q * t) ≡ p' * q * (t * t') = simp (mul_assoc, mul_comm, mul_left_comm) in
    let b₁ : r * q * (q' * t') ≡ r * t' * (q * q') = simp (mul_assoc, mul_comm, mul_left_comm) in
    let b₂ : r' * q' * (q * t) ≡ r' * t * (q * q') = simp (mul_assoc, mul_comm, mul_left_comm) in
    omega (arith, add-mul (p * t) (r * q) (q' * t'), add-mul (p' * t') (r' * q') (q * t))

-- a sum of greater numbers overflows too
add-lost-above : (x y x' y' : Float) → interval_fit x ≡ true → interval_fit y ≡ true → interval_fit x' ≡ true → interval_fit y' ≡ true
    → AtMost x x' → AtMost y y' → finite (add binary64 x y) ≡ false → finite (add binary64 x' y') ≡ false
add-lost-above x y x' y' h k h' k' l m f =
    rw (add-round x' y' h' k')
    (round-lost (num x * den y + num y * den x) (den x * den y) (num x' * den y' + num y' * den x') (den x' * den y')
    (mul-pos (den_pos x) (den_pos y)) (mul-pos (den_pos x') (den_pos y'))
    (cross-add (num x) (den x) (num y) (den y) (num x') (den x') (num y') (den y') l m)
    (sym (ap finite (add-round x y h k)) ∙ f))

-- ((d + a) + c) + b is not finite where the sum of a number up to d and one up to b is not
module _ (d a c b x y : Float) (hd : interval_fit d ≡ true) (fd : T (fits binary64 d)) (ha : interval_fit a ≡ true) (hc : interval_fit c ≡ true)
    (hb : interval_fit b ≡ true) (hx : interval_fit x ≡ true) (hy : interval_fit y ≡ true) (xd : AtMost x d) (yb : AtMost y b)
    (lost : finite (add binary64 x y) ≡ false) where
  second : finite (add binary64 d a) ≡ true → (v : Bool) → finite (add binary64 (add binary64 d a) c) ≡ v → finite (add binary64 (add binary64 (add binary64 d a) c) b) ≡ false
  second f false g = add-lost (add binary64 (add binary64 d a) c) b g
  second f true g =
      let s = add binary64 d a in
      let t = add binary64 s c in
      let hs : interval_fit s ≡ true = add_fit d a hd ha f in
      let xt : AtMost x t = at-most-trans x s t (at-most-trans x d s xd (add-at-least d a hd fd ha f)) (add-at-least s c hs (add-fits binary64 d a) hc g) in
      add-lost-above x y t b hx hy (add_fit s c hs hc g) hb xt yb lost

  pub sum-lost : finite (add binary64 (add binary64 (add binary64 d a) c) b) ≡ false
  sum-lost = go (finite (add binary64 d a)) refl
    where
      go : (v : Bool) → finite (add binary64 d a) ≡ v → finite (add binary64 (add binary64 (add binary64 d a) c) b) ≡ false
      go true f = second f (finite (add binary64 (add binary64 d a) c)) refl
      go false f = add-lost (add binary64 (add binary64 d a) c) b (add-lost (add binary64 d a) c f)

-- ---- halves and quarters

abbrev pub half : Float → Float
half d = mul binary64 d (of_bits binary64 0x3fe0000000000000)

-- d times w is finite, with the sign bit clear, and no greater than d
pub record Part (w d : Float) : Type 0 where
  pub is-fit : interval_fit (mul binary64 d w) ≡ true
  pub at_most : AtMost (mul binary64 d w) d

-- w is one n-th
module _
    (w : Float) (n : ℕ) (positive : 1 ≤ n)
    (part-round : (d : Float) → interval_fit d ≡ true → mul binary64 d w ≡ round binary64 false (num d * (1 * 1)) (den d * n))
    (d : Float) (h : interval_fit d ≡ true) (k : T (fits binary64 d))
  where
    o : Own d
    o = own d h k

    less : num d * (1 * 1) * den d ≤ num d * (den d * n)
    less =
        let more : 1 * (num d * den d) ≤ n * (num d * den d) = mul-le-mul_right (num d * den d) positive in
        rw mul-one (omega (arith, more, one-mul (num d * den d), mul_comm n (num d * den d), mul_assoc (num d) (den d) n))

    under : 0 < den d * n
    under = mul-pos (den_pos d) (omega arith)

    part-fit : Part w d
    unfolding o
    part-fit = go (finite (mul binary64 d w)) refl
      where
        go : (v : Bool) → finite (mul binary64 d w) ≡ v → Part w d
        go true f =
            let hh : interval_fit (mul binary64 d w) ≡ true = rw (part-round d h) (round-fit _ _ (sym (ap finite (part-round d h)) ∙ f)) in
            let below : T (le (mul binary64 d w) (round binary64 false (num d) (den d))) =
            subst (λ z. T (le z (round binary64 false (num d) (den d)))) (sym (part-round d h))
            (round_mono binary64 (num d * (1 * 1)) (den d * n) (num d) (den d) under (den_pos d) less) in
            record {
              is-fit = hh;
              at_most = at-most-trans (mul binary64 d w) (round binary64 false (num d) (den d)) d
                  (at-most-of-le (mul binary64 d w) (round binary64 false (num d) (den d)) hh o.own-fit below) (le_of_eq o.own_value);
            }
        go false f =
            absurd (true≢false (sym o.own-finite
            ∙ round-lost (num d * (1 * 1)) (den d * n) (num d) (den d) under (den_pos d) less (sym (ap finite (part-round d h)) ∙ f)))

half-round : (d : Float) → interval_fit d ≡ true → half d ≡ round binary64 false (num d * (1 * 1)) (den d * 2)
unfolding mul of_bits
half-round nan h = absurd (false≢true h)
half-round (inf s) h = absurd (false≢true h)
half-round (fin true m e) h = absurd (false≢true h)
half-round (fin false m e) h = refl

pub half-fit : (d : Float) → interval_fit d ≡ true → T (fits binary64 d) → Part (of_bits binary64 0x3fe0000000000000) d
half-fit = part-fit (of_bits binary64 0x3fe0000000000000) 2 (omega arith) half-round

quarter-round :
    (d : Float) → interval_fit d ≡ true → mul binary64 d (of_bits binary64 0x3fd0000000000000) ≡ round binary64 false (num d * (1 * 1)) (den d * 4)
unfolding mul of_bits
quarter-round nan h = absurd (false≢true h)
quarter-round (inf s) h = absurd (false≢true h)
quarter-round (fin true m e) h = absurd (false≢true h)
quarter-round (fin false m e) h = refl

pub quarter-fit : (d : Float) → interval_fit d ≡ true → T (fits binary64 d) → Part (of_bits binary64 0x3fd0000000000000) d
quarter-fit = part-fit (of_bits binary64 0x3fd0000000000000) 4 (omega arith) quarter-round

-- ---- positions

pub finite-parts :
    (p : Position) → finite_position p ≡ true → ((finite p.x ≡ true) × (finite p.y ≡ true)) × (finite p.z ≡ true)
finite-parts p e = go (finite p.x) refl (finite p.y) refl (finite p.z) refl
  where
    go : (a : Bool) → finite p.x ≡ a → (b : Bool) → finite p.y ≡ b → (c : Bool) → finite p.z ≡ c
        → ((finite p.x ≡ true) × (finite p.y ≡ true)) × (finite p.z ≡ true)
    go true ha true hb true hc = ((ha, hb), hc)
    go true ha true hb false hc = absurd (true≢false (sym e ∙ rw (ha, hb, hc)))
    go true ha false hb c hc = absurd (true≢false (sym e ∙ rw (ha, hb)))
    go false ha b hb c hc = absurd (true≢false (sym e ∙ rw ha))
