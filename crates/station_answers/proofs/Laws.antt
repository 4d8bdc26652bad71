-- An answer that is told by its number is told by its numbers. Assumes nothing.
use Rattle.std.specs.Prelude.{Result, Ok, Err}
use mathlib.Core.Path.{◌≡◌, refl}
use mathlib.Core.List.{List}
use Prim.Native.Nat.{ℕ}
use Rattle.tables.specs.declared.Counts.{Counts}
use Rattle.built_meshes.specs.Answers.{ground_number, built_numbers}
use Rattle.built_meshes.specs.declared.Ground.{Ground}
use Rattle.steps.specs.Step.{refusal_number, step_numbers}
use Rattle.steps.specs.declared.StepRefusal.{StepRefusal}
use Rattle.answer_numbers.specs.Numbers.{answer_number}
use Rattle.station_answers.specs.Answers.{answer_of, counts_written, counts_told}

pub built-answer : (xs : List ℕ) (a : Result Counts Ground)
    → (answer_number ground_number a ≡ answer_of (built_numbers a)) × (counts_told xs a ≡ counts_written xs (built_numbers a))
built-answer xs (Ok c) = (refl, refl)
built-answer xs (Err g) = (refl, refl)

pub stepped-answer : (xs : List ℕ) (a : Result Counts StepRefusal)
    → (answer_number refusal_number a ≡ answer_of (step_numbers a)) × (counts_told xs a ≡ counts_written xs (step_numbers a))
stepped-answer xs (Ok c) = (refl, refl)
stepped-answer xs (Err g) = (refl, refl)
