-- What the C functions that audit and find a depth answer and leave.
--     audited m c             0 if the tables m are a closed mesh with the counts c, else 30
--     Finding                 the answer of the depth finder, and the array of one edge afterwards
--     found xs r              the answer r of the depth finder, if the array of one edge was xs
use Rattle.std.specs.Prelude.{Result, cond, List, ℕ}
use Rattle.crossings.specs.declared.NoCrossing.{NoCrossing}
use Rattle.tables.specs.Mesh.{Mesh}
use Rattle.tables.specs.declared.Counts.{Counts}
use Rattle.audited_meshes.specs.Audit.{audit}
use Rattle.crossings.specs.Crossings as crossings
use Rattle.station_answers.specs.Answers.{edge_after}

abbrev pub audited : Mesh → Counts → ℕ
audited m c = cond (audit m c.points c.edges c.faces) 0 30

pub record Finding : Type 0 where
  pub answer : ℕ
  pub edge : List ℕ

abbrev pub found : List ℕ → Result ℕ NoCrossing → Finding
found xs r = record { answer = crossings.number_of r; edge = edge_after xs r }
