-- The laws of what the C functions that build answer. Assumes nothing.
use mathlib.Core.Path.{◌≡◌, sym}
use mathlib.Core.List.{List}
use Prim.Native.Nat.{ℕ}
use Rattle.built_meshes.specs.declared.Ground.{Ground}
use Rattle.tables.specs.declared.Counts.{Counts}
use Rattle.std.specs.Prelude.{Result}
use Rattle.tables.specs.Mesh.{Mesh}
use Rattle.built_meshes.specs.Answers.{built_numbers}
use Rattle.built_meshes.specs.Building.{BuildOutcome}
use Rattle.text_meshes.specs.TextBuilding.{TextOutcome, text_numbers}
use Rattle.text_meshes.specs.declared.TextRefusal.{TextRefusal}
use Rattle.station_answers.specs.Answers.{answer_of, counts_written}
use Rattle.station_building.specs.Told.{BuildingTold, built, text_built}

-- the outcome of building from lists, told with the number n and the counts ys
pub built-told : (xs : List ℕ) {a : Result Counts Ground} {m : Mesh} {o : BuildOutcome} {ys : List ℕ} {n : ℕ}
    → ◌≡◌ {A = BuildOutcome} (record { answer = a; tables = m }) o → n ≡ answer_of (built_numbers a) → ys ≡ counts_written xs (built_numbers a)
    → ◌≡◌ {A = BuildingTold} (record { answer = n; counts = ys; tables = m }) (built xs o)
built-told xs e n q = rw (sym e, n, q)

-- the same of building from a text
pub text-told : (xs : List ℕ) {a : Result Counts TextRefusal} {m : Mesh} {o : TextOutcome} {ys : List ℕ} {n : ℕ}
    → ◌≡◌ {A = TextOutcome} (record { answer = a; tables = m }) o → n ≡ answer_of (text_numbers a) → ys ≡ counts_written xs (text_numbers a)
    → ◌≡◌ {A = BuildingTold} (record { answer = n; counts = ys; tables = m }) (text_built xs o)
text-told xs e n q = rw (sym e, n, q)
