-- What is claimed of the output.
--     StepOf s c a           the mesh of the text s is accepted with the counts c, and a is the answer of its step
--     TwoAnswers             the step of a mesh that is accepted is either made or meets 33: never 30, 31 or 32
use Rattle.std.specs.Prelude.{◌≡◌, List, ◌⊎◌, ℕ, Result, Ok, Err}
use Rattle.tables.specs.declared.Counts.{Counts}
use Rattle.building_tests.specs.declared.Bounds.TheVariants.{Refine}
use Rattle.text_meshes.specs.TextBuilding.{build_text}
use Rattle.steps.specs.Step.{refined_counts}
use Rattle.steps.specs.declared.StepRefusal.{StepRefusal}
use Rattle.steps.specs.declared.StepRefusal.TheVariants.{NotFinite}
use Rattle.refine_outputs.specs.Output.{zero_tables, numbered_step}

pub record StepOf (s : List ℕ) (c : Counts) (a : Result Counts StepRefusal) : Type 0 where
  pub built : (build_text Refine s zero_tables).answer ≡ Ok c
  pub stepped : (numbered_step c (build_text Refine s zero_tables).tables).answer ≡ a

abbrev pub TwoAnswers : Type 0
TwoAnswers = (s : List ℕ) (c : Counts) (a : Result Counts StepRefusal) → StepOf s c a → (a ≡ Ok (refined_counts c)) ⊎ (a ≡ Err NotFinite)
