-- The laws of buckets. Assumes nothing.
--     bucket-less, bucket-more    the bucket of two points as the code finds it
--     bucket_of-swap               it is the same whichever point is named first
--     bucket_of-below              it is one of the buckets
use mathlib.Core.Path.{◌≡◌, sym, ◌∙◌, subst}
use Prim.Native.Nat.{ℕ, suc, ◌+◌, ◌*◌, ◌%◌, ◌≤◌, ◌<◌}
use native.Mathlib.Nat.{mod-lt}
use native.Mathlib.Omega.{arith}
use native.Mathlib.Decide.{dec_le}
use borrow.Author.Tests.{lt-ltb, le-ltb}
use Rattle.edge_buckets.specs.Buckets.{bucket_factor, buckets, bucket_of}

-- the two ways to spread, by a test
spread-less : (p q : ℕ) → p < q → (p * bucket_factor + q) % buckets ≡ bucket_of p q
unfolding bucket_of
spread-less p q h = rw (lt-ltb p q h)

spread-more : (p q : ℕ) → q ≤ p → (q * bucket_factor + p) % buckets ≡ bucket_of p q
unfolding bucket_of
spread-more p q h = rw (le-ltb p q h)

-- the same of the two indices a and b
pub bucket-less : (p q a b : ℕ) → a ≡ p → b ≡ q → a < b
    → ((a * bucket_factor + b) % buckets ≡ bucket_of p q) × ((a * bucket_factor + b) % buckets < buckets)
bucket-less p q a b s t h = (spread-less a b h ∙ rw (s, t), mod-lt (a * bucket_factor + b) (omega arith))

pub bucket-more : (p q a b : ℕ) → a ≡ p → b ≡ q → b ≤ a
    → ((b * bucket_factor + a) % buckets ≡ bucket_of p q) × ((b * bucket_factor + a) % buckets < buckets)
bucket-more p q a b s t h = (spread-more a b h ∙ rw (s, t), mod-lt (b * bucket_factor + a) (omega arith))

pub bucket_of-swap : (p q : ℕ) → bucket_of p q ≡ bucket_of q p
bucket_of-swap p q = go (dec_le (suc p) q) (dec_le (suc q) p)
  where
    go : Dec (suc p ≤ q) → Dec (suc q ≤ p) → bucket_of p q ≡ bucket_of q p
    go (yes l) d = sym (spread-less p q l) ∙ spread-more q p (omega arith)
    go (no n) (yes l) = sym (spread-more p q (omega arith)) ∙ spread-less q p l
    go (no n) (no m) = let s : p ≡ q = omega arith in rw s

pub bucket_of-below : (p q : ℕ) → bucket_of p q < buckets
bucket_of-below p q = go (dec_le (suc p) q)
  where
    go : Dec (suc p ≤ q) → bucket_of p q < buckets
    go (yes l) = subst (λ b. b < buckets) (spread-less p q l) (mod-lt (p * bucket_factor + q) (omega arith))
    go (no n) = subst (λ b. b < buckets) (spread-more p q (omega arith)) (mod-lt (q * bucket_factor + p) (omega arith))
