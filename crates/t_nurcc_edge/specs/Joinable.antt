-- What is asked and answered when two rows of the table of edges are connected.
--     joinable_rows es is i j     whether they share a face and a point
--     Linkable p                 both edges of the pair have four neighbours
use Rattle.std.specs.Prelude.{◌≡◌, Bool, List, ℕ, Float, length}
use Rattle.edge_links.specs.Joinable.{joinable}
use Rattle.edge_links.specs.declared.Pair.{Pair}
use Rattle.tables.specs.Records.{edge_at}

unfoldable pub joinable_rows : List ℕ → List Float → ℕ → ℕ → Bool
joinable_rows es is i j = joinable (edge_at es is i) (edge_at es is j)

pub record Linkable (p : Pair) : Type 0 where
  pub first-four : length p.first.connections ≡ 4
  pub other-four : length p.other.connections ≡ 4
