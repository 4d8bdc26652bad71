-- Chains of edges, by which the edge between two points is found without looking at all edges. Every edge is in the bucket that its
-- ends choose, and the edges of one bucket are chained, the newest first. A link is 0 for no edge, or an edge and 1 more. The words
-- of a list of links:
--     at b                    the link to the newest edge of the bucket b
--     at buckets + e          the link to the newest edge before e of the bucket of e
--     EndsKept                every edge has the same ends in two tables
--     link_to l                the edge of a link
--     bucket_at es e           the bucket of the edge e
--     Newest es b k l         the link l goes to the newest of the edges below k of the bucket b
--     chained_edge ch k b      the links with a new edge k of the bucket b
--     Headed, Chained         the links to the newest of k edges of each bucket, and those behind each of k edges
--     Standing                what holds of the tables of points and edges and of the links while k edges stand
--     EdgeRoom                there is a row and a link for an edge k
use Rattle.std.specs.Prelude.{◌≡◌, List, ◌≢◌, ℕ, zero, suc, ◌+◌, ◌*◌, ◌≤◌, ◌<◌, length, get_or, set, Float, Option, Some, None}
use Rattle.tables.specs.Layout.{point_width, edge_width}
use Rattle.tables.specs.Mesh.{origin, dest, edge_table}
use Rattle.edge_buckets.specs.Buckets.{buckets, bucket_of}

-- every edge has the same ends in both tables
pub record EndsKept (es new : List ℕ) : Type 0 where
  pub origins : (e : ℕ) → origin (edge_table new) e ≡ origin (edge_table es) e
  pub dests : (e : ℕ) → dest (edge_table new) e ≡ dest (edge_table es) e

abbrev pub link_to : ℕ → Option ℕ
link_to zero = None
link_to (suc e) = Some e

abbrev pub bucket_at : List ℕ → ℕ → ℕ
bucket_at es e = bucket_of (origin (edge_table es) e) (dest (edge_table es) e)

pub record Newest (es : List ℕ) (b k l : ℕ) : Type 0 where
  pub below : l ≤ k
  pub within : (e : ℕ) → l ≡ suc e → bucket_at es e ≡ b
  pub none_between : (e : ℕ) → l ≤ e → e < k → bucket_at es e ≢ b

unfoldable pub chained_edge : List ℕ → ℕ → ℕ → List ℕ
chained_edge ch k b = set (set ch (buckets + k) (get_or ch b 0)) b (k + 1)

-- the links to the newest of k edges of each bucket
abbrev pub Headed : List ℕ → List ℕ → ℕ → Type 0
Headed es ch k = (b : ℕ) → b < buckets → Newest es b k (get_or ch b 0)

-- the links behind each of k edges
abbrev pub Chained : List ℕ → List ℕ → ℕ → Type 0
Chained es ch k = (e : ℕ) → e < k → Newest es (bucket_at es e) e (get_or ch (buckets + e) 0)

pub record Standing (np : ℕ) (pts es ch : List ℕ) (k : ℕ) : Type 0 where
  pub points-fit : np * point_width ≤ length pts
  pub edges_fit : k * edge_width ≤ length es
  pub links-fit : buckets + k ≤ length ch
  pub valences : (p : ℕ) → p < np → get_or pts (p * point_width) 0 ≤ k * 2
  pub newest : Headed es ch k
  pub chained : Chained es ch k

pub record EdgeRoom (es : List ℕ) (is : List Float) (ch : List ℕ) (k : ℕ) : Type 0 where
  pub edge_row : k * edge_width + edge_width ≤ length es
  pub interval-row : k < length is
  pub links-row : buckets + k + 1 ≤ length ch
  pub few : k < 1073741824
