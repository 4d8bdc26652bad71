-- What stands once the tests of a step are passed.
--     TestsPassed ed m c order t c'    none of the grounds 30, 31 and 32 holds, and c' are the counts after the step, which is of the edition ed
use Rattle.std.specs.Prelude.{List, ◌≡◌, ℕ}
use Rattle.tables.specs.Mesh.{Mesh}
use Rattle.tables.specs.declared.Counts.{Counts}
use Rattle.refined_meshes.specs.declared.Edition.{Edition}
use Rattle.steps.specs.Step.{made, ended, step}
use Rattle.tables.specs.Counted.{first_rows}
use Rattle.steps.specs.Rows.{Room}
use Rattle.making.specs.Making.{Ready}

pub record TestsPassed (ed : Edition) (m : Mesh) (c : Counts) (order : List ℕ) (t : Mesh) (c' : Counts) : Type 0 where
  pub rows : Room c m
  pub room : Room c' m
  pub scratch : Room c' t
  pub ready : Ready (first_rows c m) c order (first_rows c' t)
  pub stepped : step ed m c order t ≡ ended m c' t (made ed (first_rows c m) c order (first_rows c' t))
