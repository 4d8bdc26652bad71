-- How building begins: what holds before the faces are tried, and what is answered once they were.
--     answered_from            what is answered when all faces were tried
--     Begun                   no ground up to 4 holds
--     Zeroed                  the same, and the rows that ground 4 counts are zero
use Rattle.std.specs.Prelude.{◌≡◌, true}
use Rattle.tables.specs.Mesh.{Mesh}
use Rattle.tables.specs.Counted.{rows_for, zeroed_rows}
use Rattle.built_meshes.specs.Lists.{Lists, rows_of, counts_fit, listed_fit}
use Rattle.built_meshes.specs.Building.{BuildOutcome, answered, all_faces}
use Rattle.building_tests.specs.Lent.{limits_of}
use Rattle.building_tests.specs.declared.Bounds.{Bounds}

-- what is answered of the lists l and the tables m when all faces were tried
unfoldable pub answered_from : Lists → Mesh → BuildOutcome
unfolding answered all_faces
answered_from l m = answered l m (all_faces l m)

-- no ground up to 4 holds within one of the two limits
pub record Begun (l : Lists) (m : Mesh) : Type 0 where
  pub bounds : Bounds
  pub counts : counts_fit (limits_of bounds) l ≡ true
  pub numbers : listed_fit l ≡ true
  pub rows : rows_for (rows_of l) m ≡ true

-- the tables t are such tables with the rows that ground 4 counts made zero
pub record Zeroed (l : Lists) (t : Mesh) : Type 0 where
  pub lent : Mesh
  pub begun : Begun l lent
  pub zero : t ≡ zeroed_rows (rows_of l) lent
