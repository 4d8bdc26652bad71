-- The laws of rows in a list, for every kind of element and every width. Assumes nothing.
--     length-put_row          a list keeps its length
--     get_or-put_row            the row itself stands there
--     get_or-put_row-other      every other place is as it was
--     set-put_row             an element stored in a row that was put; set-put_row-other: outside it
--     over_none, over-more   what a loop that copies has done before its first turn, and one turn more; zeroed likewise
--     zeroed-front           the first elements zeroed by themselves
use mathlib.Core.Path.{◌≡◌, refl, ◌∙◌, ap, sym}
use mathlib.Core.List.{List, [], ◌∷◌, ◌++◌}
use Prim.Native.Nat.{ℕ, zero, suc, ◌+◌, ◌*◌, ◌<◌, ◌≤◌}
use native.Mathlib.Nat.{not-suc-le-zero, le_of_suc-le-suc, add-zero, suc-mul, mul-le-mul_right}
use native.Mathlib.Decide.{dec_lt}
use mathlib.Core.Logic.{◌≢◌}
use native.Mathlib.Numerals.{add-one}
use native.Mathlib.Omega.{arith}
use lib.ListN.{length, get_or, set, take, drop, replicate, length-set, length-append, length-drop, length-replicate}
use lib.Seq.{get_or-set_same, get_or-set_other, set-set, set_comm, length-take-le}
use Rattle.tables.specs.Rows.{put_from, put_row, over, zeroed}

module _ {A : Type 0} where
  length-put_from : (vs xs : List A) (b k : ℕ) → length (put_from xs b k vs) ≡ length xs
  length-put_from [] xs b k = refl
  length-put_from (v ∷ vs) xs b k = length-put_from vs (set xs (b + k) v) b (suc k) ∙ length-set xs (b + k) v

  pub length-put_row : (vs xs : List A) (b : ℕ) → length (put_row xs b vs) ≡ length xs
  length-put_row [] xs b = refl
  length-put_row (v ∷ vs) xs b = length-put_from vs (set xs b v) b 1 ∙ length-set xs b v

  -- before the first place that is stored to, and past the last, nothing changes
  get_or-put_from-before : (vs xs : List A) (b k i : ℕ) (d : A) → i < b + k → get_or (put_from xs b k vs) i d ≡ get_or xs i d
  get_or-put_from-before [] xs b k i d h = refl
  get_or-put_from-before (v ∷ vs) xs b k i d h =
      get_or-put_from-before vs (set xs (b + k) v) b (suc k) i d (omega arith)
      ∙ get_or-set_other xs (b + k) i v d (omega arith)

  get_or-put_from-after : (vs xs : List A) (b k i : ℕ) (d : A) → b + k + length vs ≤ i → get_or (put_from xs b k vs) i d ≡ get_or xs i d
  get_or-put_from-after [] xs b k i d h = refl
  get_or-put_from-after (v ∷ vs) xs b k i d h =
      get_or-put_from-after vs (set xs (b + k) v) b (suc k) i d (omega arith)
      ∙ get_or-set_other xs (b + k) i v d (omega arith)

  get_or-put_from : (vs xs : List A) (b k j : ℕ) (d : A) → j < length vs → b + k + length vs ≤ length xs
      → get_or (put_from xs b k vs) (b + (k + j)) d ≡ get_or vs j d
  get_or-put_from [] xs b k j d h l = absurd (not-suc-le-zero h)
  get_or-put_from (v ∷ vs) xs b k zero d h l =
      get_or-put_from-before vs (set xs (b + k) v) b (suc k) (b + (k + 0)) d (omega arith)
      ∙ rw (zero-place b k) (get_or-set_same xs (b + k) v d (omega arith))
    where
      zero-place : (b k : ℕ) → b + (k + 0) ≡ b + k
      zero-place b k = omega arith
  get_or-put_from (v ∷ vs) xs b k (suc j) d h l =
      rw (next_place b k j) (get_or-put_from vs (set xs (b + k) v) b (suc k) j d (le_of_suc-le-suc h) (rw length-set (omega arith)))
    where
      next_place : (b k j : ℕ) → b + (k + suc j) ≡ b + (suc k + j)
      next_place b k j = omega arith

  -- the row itself
  pub get_or-put_row : (vs xs : List A) (b j : ℕ) (d : A) → j < length vs → b + length vs ≤ length xs
      → get_or (put_row xs b vs) (b + j) d ≡ get_or vs j d
  get_or-put_row [] xs b j d h l = absurd (not-suc-le-zero h)
  get_or-put_row (v ∷ vs) xs b zero d h l =
      get_or-put_from-before vs (set xs b v) b 1 (b + 0) d (omega arith) ∙ rw (add-zero b) (get_or-set_same xs b v d (omega arith))
  get_or-put_row (v ∷ vs) xs b (suc j) d h l =
      rw (suc-place b j) (get_or-put_from vs (set xs b v) b 1 j d (le_of_suc-le-suc h) (rw length-set (omega arith)))
    where
      suc-place : (b j : ℕ) → b + suc j ≡ b + (1 + j)
      suc-place b j = omega arith

  pub get_or-put_row-before : (vs xs : List A) (b i : ℕ) (d : A) → i < b → get_or (put_row xs b vs) i d ≡ get_or xs i d
  get_or-put_row-before [] xs b i d h = refl
  get_or-put_row-before (v ∷ vs) xs b i d h =
      get_or-put_from-before vs (set xs b v) b 1 i d (omega arith) ∙ get_or-set_other xs b i v d (omega arith)

  pub get_or-put_row-after : (vs xs : List A) (b i : ℕ) (d : A) → b + length vs ≤ i → get_or (put_row xs b vs) i d ≡ get_or xs i d
  get_or-put_row-after [] xs b i d h = refl
  get_or-put_row-after (v ∷ vs) xs b i d h =
      get_or-put_from-after vs (set xs b v) b 1 i d (omega arith) ∙ get_or-set_other xs b i v d (omega arith)

  -- every other row of the same width w
  pub get_or-put_row-other : (vs xs : List A) (w r s j : ℕ) (d : A) → length vs ≡ w → s ≢ r → j < w
      → get_or (put_row xs (r * w) vs) (s * w + j) d ≡ get_or xs (s * w + j) d
  get_or-put_row-other vs xs w r s j d e n h = go (dec_lt s r)
    where
      go : Dec (s < r) → get_or (put_row xs (r * w) vs) (s * w + j) d ≡ get_or xs (s * w + j) d
      go (yes l) =
          get_or-put_row-before vs xs (r * w) (s * w + j) d
          (let m : suc s * w ≤ r * w = mul-le-mul_right w l in omega (arith, suc-mul s w))
      go (no l) =
          get_or-put_row-after vs xs (r * w) (s * w + j) d
          (let k : suc r ≤ s = omega arith in
          let m : suc r * w ≤ s * w = mul-le-mul_right w k in
          omega (arith, suc-mul r w))

  set-put_from-other : (vs xs : List A) (b k n : ℕ) (v : A) → ((s : ℕ) → s < length vs → n ≢ b + (k + s))
      → set (put_from xs b k vs) n v ≡ put_from (set xs n v) b k vs
  set-put_from-other [] xs b k n v h = refl
  set-put_from-other (w ∷ vs) xs b k n v h =
      set-put_from-other vs (set xs (b + k) w) b (suc k) n v (λ s l e. h (suc s) (further s l) (e ∙ place s))
      ∙ ap (λ (t : List A). put_from t b (suc k) vs) (set_comm xs (b + k) n w v (λ e. h 0 (omega arith) (sym e ∙ first)))
    where
      first : b + k ≡ b + (k + 0)
      first = omega arith

      place : (s : ℕ) → b + (suc k + s) ≡ b + (k + suc s)
      place s = omega arith

      further : (s : ℕ) → s < length vs → suc s < suc (length vs)
      further s l = omega arith

  set-put_from : (vs xs : List A) (b k t : ℕ) (v : A) → t < length vs
      → set (put_from xs b k vs) (b + (k + t)) v ≡ put_from xs b k (set vs t v)
  set-put_from [] xs b k t v l = absurd (omega arith)
  set-put_from (w ∷ vs) xs b k zero v l =
      set-put_from-other vs (set xs (b + k) w) b (suc k) (b + (k + 0)) v (λ s m e. absurd (omega (arith, e)))
      ∙ ap (λ (t : List A). put_from t b (suc k) vs) (rw (first b k) (set-set xs (b + k) w v))
    where
      first : (b k : ℕ) → b + (k + 0) ≡ b + k
      first b k = omega arith
  set-put_from (w ∷ vs) xs b k (suc t) v l =
      rw (place b k t) (set-put_from vs (set xs (b + k) w) b (suc k) t v (le_of_suc-le-suc l))
    where
      place : (b k t : ℕ) → b + (k + suc t) ≡ b + (suc k + t)
      place b k t = omega arith

  -- an element stored in the row
  pub set-put_row : (vs xs : List A) (b t : ℕ) (v : A) → t < length vs → set (put_row xs b vs) (b + t) v ≡ put_row xs b (set vs t v)
  set-put_row [] xs b t v l = absurd (omega arith)
  set-put_row (w ∷ vs) xs b zero v l =
      set-put_from-other vs (set xs b w) b 1 (b + 0) v (λ s m e. absurd (omega (arith, e)))
      ∙ ap (λ (t : List A). put_from t b 1 vs) (rw (first b) (set-set xs b w v))
    where
      first : (b : ℕ) → b + 0 ≡ b
      first b = omega arith
  set-put_row (w ∷ vs) xs b (suc t) v l = rw (place b t) (set-put_from vs (set xs b w) b 1 t v (le_of_suc-le-suc l))
    where
      place : (b t : ℕ) → b + suc t ≡ b + (1 + t)
      place b t = omega arith

  -- an element stored outside it
  pub set-put_row-other : (vs xs : List A) (b n : ℕ) (v : A) → ((s : ℕ) → s < length vs → n ≢ b + s)
      → set (put_row xs b vs) n v ≡ put_row (set xs n v) b vs
  set-put_row-other [] xs b n v h = refl
  set-put_row-other (w ∷ vs) xs b n v h =
      set-put_from-other vs (set xs b w) b 1 n v (λ s l e. h (suc s) (further s l) (e ∙ place s))
      ∙ ap (λ (t : List A). put_from t b 1 vs) (set_comm xs b n w v (λ e. h 0 (omega arith) (sym e ∙ first)))
    where
      first : b ≡ b + 0
      first = omega arith

      place : (s : ℕ) → b + (1 + s) ≡ b + suc s
      place s = omega arith

      further : (s : ℕ) → s < length vs → suc s < suc (length vs)
      further s l = omega arith

  pub over_none : (new xs : List A) → over 0 new xs ≡ xs
  unfolding over
  over_none new xs = refl

  over-suc : (n : ℕ) (new xs : List A) (d : A) → n < length new → n < length xs
      → set (over n new xs) n (get_or new n d) ≡ over (suc n) new xs
  unfolding over
  over-suc n [] xs d h l = absurd (not-suc-le-zero h)
  over-suc n (y ∷ new) [] d h l = absurd (not-suc-le-zero l)
  over-suc zero (y ∷ new) (x ∷ xs) d h l = refl
  over-suc (suc n) (y ∷ new) (x ∷ xs) d h l =
      ap (λ (t : List A). y ∷ t) (over-suc n new xs d (le_of_suc-le-suc h) (le_of_suc-le-suc l))

  pub over-more : (n : ℕ) (new xs : List A) (d : A) → n < length new → n < length xs
      → set (over n new xs) n (get_or new n d) ≡ over (n + 1) new xs
  over-more n new xs d h l = rw add-one (over-suc n new xs d h l)

  pub length_over : (n : ℕ) (new xs : List A) → n ≤ length new → n ≤ length xs → length (over n new xs) ≡ length xs
  unfolding over
  length_over n new xs h l = length-append (take n new) (drop n xs) ∙ rw (length-take-le n new h, length-drop) (omega arith)

  pub zeroed-none : (z : A) (xs : List A) → zeroed 0 z xs ≡ xs
  unfolding zeroed
  zeroed-none z xs = refl

  zeroed-suc : (n : ℕ) (z : A) (xs : List A) → n < length xs → set (zeroed n z xs) n z ≡ zeroed (suc n) z xs
  unfolding zeroed
  zeroed-suc n z [] l = absurd (not-suc-le-zero l)
  zeroed-suc zero z (x ∷ xs) l = refl
  zeroed-suc (suc n) z (x ∷ xs) l = ap (λ (t : List A). z ∷ t) (zeroed-suc n z xs (le_of_suc-le-suc l))

  pub zeroed-more : (n : ℕ) (z : A) (xs : List A) → n < length xs → set (zeroed n z xs) n z ≡ zeroed (n + 1) z xs
  zeroed-more n z xs l = rw add-one (zeroed-suc n z xs l)

  -- the first n elements made z by themselves, followed by the others
  pub zeroed-front : (n : ℕ) (z : A) (xs : List A) → n ≤ length xs → zeroed n z (take n xs) ++ drop n xs ≡ zeroed n z xs
  unfolding zeroed
  zeroed-front zero z xs l = refl
  zeroed-front (suc n) z [] l = absurd (not-suc-le-zero l)
  zeroed-front (suc n) z (x ∷ xs) l = ap (λ (t : List A). z ∷ t) (zeroed-front n z xs (le_of_suc-le-suc l))

  pub length-zeroed : (n : ℕ) (z : A) (xs : List A) → n ≤ length xs → length (zeroed n z xs) ≡ length xs
  unfolding zeroed
  length-zeroed n z xs l = length-append (replicate n z) (drop n xs) ∙ rw (length-replicate n z, length-drop) (omega arith)
