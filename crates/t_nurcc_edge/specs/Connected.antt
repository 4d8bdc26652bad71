-- Connecting two rows of the table of edges.
--     pair_of es is i j           the edges i and j after connecting them
--     paired es i j p            the table of edges with the pair p stored in the rows i and j, the first before the other
--     connected_rows es is i j    the table of edges after connecting them
use Rattle.std.specs.Prelude.{List, ℕ, ◌*◌, Float}
use Rattle.edge_links.specs.Connect.{connected}
use Rattle.edge_links.specs.declared.Pair.{Pair}
use Rattle.tables.specs.Layout.{edge_width}
use Rattle.tables.specs.Rows.{put_row}
use Rattle.tables.specs.Records.{edge_at, edge_words}

abbrev pub pair_of : List ℕ → List Float → ℕ → ℕ → Pair
pair_of es is i j = connected i (edge_at es is i) j (edge_at es is j)

abbrev pub paired : List ℕ → ℕ → ℕ → Pair → List ℕ
paired es i j p = put_row (put_row es (i * edge_width) (edge_words p.first)) (j * edge_width) (edge_words p.other)

unfoldable pub connected_rows : List ℕ → List Float → ℕ → ℕ → List ℕ
connected_rows es is i j = paired es i j (pair_of es is i j)
