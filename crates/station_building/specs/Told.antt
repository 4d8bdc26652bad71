-- What the C functions that build answer and leave: the numbers of an answer (`station_answers`), beside the tables.
--     BuildingTold            the answer of building, the array of counts and the tables afterwards
--     built xs o              the outcome o of building from lists, if the array of counts was xs
--     text_built xs o          the outcome o of building from a text
use Rattle.std.specs.Prelude.{List, ℕ}
use Rattle.tables.specs.Mesh.{Mesh}
use Rattle.built_meshes.specs.Answers.{built_numbers}
use Rattle.built_meshes.specs.Building as building
use Rattle.text_meshes.specs.TextBuilding as text
use Rattle.station_answers.specs.Answers.{answer_of, counts_written}

pub record BuildingTold : Type 0 where
  pub answer : ℕ
  pub counts : List ℕ
  pub tables : Mesh

abbrev pub told_building : List ℕ → List ℕ → Mesh → BuildingTold
told_building xs ns m = record { answer = answer_of ns; counts = counts_written xs ns; tables = m }

abbrev pub built : List ℕ → building.BuildOutcome → BuildingTold
built xs o = told_building xs (built_numbers o.answer) o.tables

abbrev pub text_built : List ℕ → text.TextOutcome → BuildingTold
text_built xs o = told_building xs (text.text_numbers o.answer) o.tables
