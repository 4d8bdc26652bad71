-- The law of what the C functions of the step answer. Assumes nothing.
use Rattle.std.specs.Prelude.{Result}
use mathlib.Core.Path.{◌≡◌, sym}
use mathlib.Core.List.{List}
use Prim.Native.Nat.{ℕ}
use Rattle.tables.specs.Mesh.{Mesh}
use Rattle.tables.specs.declared.Counts.{Counts}
use Rattle.refined_meshes.specs.declared.Edition.{Edition}
use Rattle.steps.specs.Step.{StepOutcome, step_numbers, step}
use Rattle.steps.specs.declared.StepRefusal.{StepRefusal}
use Rattle.station_answers.specs.Answers.{counts_in, answer_of, counts_written}
use Rattle.station_steps.specs.Told.{StepTold, stepped}

-- the outcome of the step, from the counts k as the code loaded them
pub told_of : (ed : Edition) (xs : List ℕ) {k : Counts} (m : Mesh) {m' : Mesh} (t : Mesh) {t' : Mesh} (order : List ℕ) {ys : List ℕ} {a : Result Counts StepRefusal}
    {n : ℕ} → k ≡ counts_in xs → ◌≡◌ {A = StepOutcome} (record { answer = a; tables = m'; scratch = t' }) (step ed m k order t)
    → n ≡ answer_of (step_numbers a) → ys ≡ counts_written xs (step_numbers a)
    → ◌≡◌ {A = StepTold} (record { answer = n; counts = ys; tables = m'; scratch = t' }) (stepped xs (step ed m (counts_in xs) order t))
told_of ed xs m t order p e n q = rw (sym p, sym e, n, q)
