-- What a step whose scratch is left aside promises.
--     SteppedTo a m o         the answer and the tables are those of the step's outcome o, whatever becomes of scratch
use Rattle.std.specs.Prelude.{◌≡◌, Result}
use Rattle.tables.specs.Mesh.{Mesh}
use Rattle.tables.specs.declared.Counts.{Counts}
use Rattle.steps.specs.Step.{StepOutcome}
use Rattle.steps.specs.declared.StepRefusal.{StepRefusal}

pub record SteppedTo (a : Result Counts StepRefusal) (m : Mesh) (o : StepOutcome) : Type 0 where
  pub answer : a ≡ o.answer
  pub tables : m ≡ o.tables
