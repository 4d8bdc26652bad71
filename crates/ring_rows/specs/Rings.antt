-- The ring of a face as the code holds it: its rows in a struct, and what stands at its places in arrays.
--     ring rows es hs gs ms ds      the ring with these rows, the perimeter es, first halves hs, second halves gs, midpoints ms, intervals ds
--     Small rows                    the rows of a ring are below the ceilings, and its places are 1 to 64
--     EdgesThere es xs n            the first n of xs are rows of the table of edges es
use Rattle.std.specs.Prelude.{List, ℕ, ◌+◌, ◌*◌, ◌≤◌, ◌<◌, length, get_or, Float}
use Rattle.tables.specs.Layout.{edge_width, longest_perimeter, point_ceiling, edge_ceiling, face_ceiling}
use Rattle.refined_meshes.specs.Ring.{Ring}
use Rattle.ring_rows.specs.declared.RingRows.{RingRows}

abbrev pub ring : RingRows → List ℕ → List ℕ → List ℕ → List ℕ → List Float → Ring
ring rows es hs gs ms ds =
    record {
      face = rows.face;
      size = rows.size;
      centre = rows.centre;
      joins_from = rows.joins;
      faces_from = rows.faces;
      edges = es;
      firsts = hs;
      seconds = gs;
      mids = ms;
      found = ds;
    }

pub record Small (rows : RingRows) : Type 0 where
  pub some-places : 0 < rows.size
  pub few-places : rows.size ≤ longest_perimeter
  pub few-points : rows.centre < point_ceiling
  pub few-edges : rows.joins + rows.size ≤ edge_ceiling
  pub face-below : rows.face < face_ceiling
  pub few-faces : rows.faces + rows.size ≤ 65537

abbrev pub EdgesThere : List ℕ → List ℕ → ℕ → Type 0
EdgesThere es xs n = (i : ℕ) → i < n → get_or xs i 0 * edge_width + edge_width ≤ length es
