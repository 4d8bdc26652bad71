-- A block of a list that is moved over that of another, behind those before it, for every kind of element. Assumes nothing.
--     over-front        the first elements copied by themselves
--     copied-block      the block copied behind those that are
--     zeroed-block      the block made z behind those that are
--     Moved             the first i elements are moved; moved_none: before the first block; moved-block: one block more; moved_all: after the last
use mathlib.Core.Path.{◌≡◌, refl, sym, ◌∙◌, ap}
use mathlib.Core.List.{List, [], ◌∷◌, ◌++◌}
use Prim.Native.Nat.{ℕ, zero, suc, ◌+◌, ◌-◌, ◌≤◌, ◌<◌}
use native.Mathlib.Omega.{arith}
use native.Mathlib.Nat.{suc-add, zero-add, not-suc-le-zero, le_of_suc-le-suc}
use lib.ListN.{length, take, drop}
use borrow.Rule.Slice.PartMut.{mid_of, put_mid}
use Rattle.tables.specs.Rows.{over, zeroed}
use Rattle.tables.proofs.Laws.{over_none, zeroed-none, zeroed-front}

module _ {A : Type 0} where
  -- the first n elements copied by themselves, followed by the others
  over-front : (n : ℕ) (new xs : List A) → n ≤ length new → n ≤ length xs → over n (take n new) (take n xs) ++ drop n xs ≡ over n new xs
  unfolding over
  over-front zero new xs h l = refl
  over-front (suc n) [] xs h l = absurd (not-suc-le-zero h)
  over-front (suc n) (y ∷ new) [] h l = absurd (not-suc-le-zero l)
  over-front (suc n) (y ∷ new) (x ∷ xs) h l = ap (λ (t : List A). y ∷ t) (over-front n new xs (le_of_suc-le-suc h) (le_of_suc-le-suc l))

module _ {A : Type 0} (z : A) where
  copied-block : (i k : ℕ) (from to : List A) → i + k ≤ length from → i + k ≤ length to
      → put_mid i k (over i from to) (over k (mid_of i k (zeroed i z from)) (mid_of i k (over i from to))) ≡ over (i + k) from to
  unfolding over zeroed
  copied-block zero k from to h l = rw (zero-add k) (over-front k from to (omega arith) (omega arith))
  copied-block (suc i) k [] to h l = absurd (omega arith)
  copied-block (suc i) k (x ∷ from) [] h l = absurd (omega arith)
  copied-block (suc i) k (x ∷ from) (y ∷ to) h l =
      rw (suc-add i k) (ap (λ (t : List A). x ∷ t) (copied-block i k from to (omega arith) (omega arith)))

  zeroed-block : (i k : ℕ) (from : List A) → i + k ≤ length from
      → put_mid i k (zeroed i z from) (zeroed k z (mid_of i k (zeroed i z from))) ≡ zeroed (i + k) z from
  unfolding zeroed
  zeroed-block zero k from h = rw (zero-add k) (zeroed-front k z from (omega arith))
  zeroed-block (suc i) k [] h = absurd (omega arith)
  zeroed-block (suc i) k (x ∷ from) h = rw (suc-add i k) (ap (λ (t : List A). z ∷ t) (zeroed-block i k from (omega arith)))

  module _ (from to : List A) (n : ℕ) where
    -- xs is what is left of the list from, ys what the list to has become
    pub record Moved (xs ys : List A) (i : ℕ) : Type 0 where
      pub within : i ≤ n
      pub left : xs ≡ zeroed i z from
      pub there : ys ≡ over i from to

    pub moved_none : Moved from to 0
    moved_none = record { within = omega arith; left = sym (zeroed-none z from); there = sym (over_none from to) }

    pub moved-block : (xs ys us vs : List A) (i e : ℕ) → n ≤ length from → n ≤ length to → Moved xs ys i → i < e → e ≤ n
        → vs ≡ over (e - i) (mid_of i (e - i) xs) (mid_of i (e - i) ys) → us ≡ zeroed (e - i) z (mid_of i (e - i) xs)
        → Moved (put_mid i (e - i) xs us) (put_mid i (e - i) ys vs) e
    moved-block xs ys us vs i e lf lt m l w copied made =
        let whole : i + (e - i) ≡ e = omega arith in
        record {
          within = w;
          left = rw (made, m.left) (zeroed-block i (e - i) from (omega arith) ∙ ap (λ (k : ℕ). zeroed k z from) whole);
          there = rw (copied, m.left, m.there) (copied-block i (e - i) from to (omega arith) (omega arith) ∙ ap (λ (k : ℕ). over k from to) whole);
        }

    pub moved_all : (xs ys : List A) (i : ℕ) → Moved xs ys i → n ≤ i → (ys ≡ over n from to) × (xs ≡ zeroed n z from)
    moved_all xs ys i m l =
        let all : i ≡ n = omega (arith, m.within) in
        (m.there ∙ ap (λ (k : ℕ). over k from to) all, m.left ∙ ap (λ (k : ℕ). zeroed k z from) all)
