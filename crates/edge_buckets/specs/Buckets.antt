-- The buckets of edges.
--     buckets, bucket_factor   how many buckets there are, and what the lesser of two points is multiplied by
--     bucket_of p q            the bucket of the edges between the points p and q
use Rattle.std.specs.Prelude.{cond, ℕ, ◌+◌, ◌*◌, ◌%◌, ltb}

abbrev pub buckets : ℕ
buckets = 16384

abbrev pub bucket_factor : ℕ
bucket_factor = 10125

-- the lesser point is spread, so that it is the same whichever is named first
unfoldable pub bucket_of : ℕ → ℕ → ℕ
bucket_of p q = cond (ltb p q) ((p * bucket_factor + q) % buckets) ((q * bucket_factor + p) % buckets)
