-- What a C function of the step answers and leaves.
--     StepTold                the answer of a step, the array of counts, the tables and the scratch tables afterwards
--     stepped xs o            the outcome o of a step, if the array of counts was xs
use Rattle.std.specs.Prelude.{List, ℕ}
use Rattle.tables.specs.Mesh.{Mesh}
use Rattle.steps.specs.Step as steps
use Rattle.station_answers.specs.Answers.{answer_of, counts_written}

pub record StepTold : Type 0 where
  pub answer : ℕ
  pub counts : List ℕ
  pub tables : Mesh
  pub scratch : Mesh

abbrev pub stepped : List ℕ → steps.StepOutcome → StepTold
stepped xs o =
    record {
      answer = answer_of (steps.step_numbers o.answer);
      counts = counts_written xs (steps.step_numbers o.answer);
      tables = o.tables;
      scratch = o.scratch;
    }
