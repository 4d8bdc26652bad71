-- How building ends, over the numbers np, nl and nf of points, listed points and faces.
--     concluded               the answer and the tables, by the verdict on the whole, when k edges stand in the tables m
use Rattle.std.specs.Prelude.{List, ℕ, ◌*◌, Float, Result, Ok, Err, ⊤}
use Rattle.built_meshes.specs.declared.Ground.{Ground}
use Rattle.tables.specs.Layout.{position_width}
use Rattle.tables.specs.Mesh.{Mesh}
use Rattle.tables.specs.Rows.{over}
use Rattle.tables.specs.Counted.{counts_of, zeroed_rows}
use Rattle.built_meshes.specs.Building.{BuildOutcome, build_refusal}
use Rattle.built_meshes.specs.Whole.{marked}

unfoldable pub concluded : List Float → ℕ → ℕ → ℕ → Mesh → ℕ → Result ⊤ Ground → BuildOutcome
unfolding over marked zeroed_rows
concluded cs np nl nf m k (Ok tt) =
    record {
      answer = Ok (record { points = np; edges = k; faces = nf });
      tables =
          record {
            positions = over (np * position_width) cs m.positions;
            points = marked np m.points;
            edges = m.edges;
            intervals = m.intervals;
            faces = m.faces;
          };
    }
concluded cs np nl nf m k (Err g) = build_refusal g (zeroed_rows (counts_of np nl nf) m)
