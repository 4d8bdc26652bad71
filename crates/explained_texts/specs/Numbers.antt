-- What is claimed of the number that is told.
--     answer_number a        the number of an answer of building: 0, or that of the ground
--     RowsToSpare         tables have the rows that ground 4 counts for the text
--     NumberIsAnswer      the claim: the number is that of building the text in every tables with rows to spare
use Rattle.std.specs.Prelude.{◌≡◌, List, ℕ, Result, Ok, Err}
use Rattle.tables.specs.Mesh.{Mesh}
use Rattle.mesh_text.specs.Text.{TextMesh}
use Rattle.built_meshes.specs.Answers.{ground_number}
use Rattle.built_meshes.specs.Grounds.{HasFewRows}
use Rattle.building_tests.specs.declared.Bounds.{Bounds}
use Rattle.text_meshes.specs.TextBuilding.{lists_of, build_text}
use Rattle.text_meshes.specs.Claims.{StandsFor}
use Rattle.tables.specs.declared.Counts.{Counts}
use Rattle.text_meshes.specs.declared.TextRefusal.{TextRefusal}
use Rattle.text_meshes.specs.declared.TextRefusal.TheVariants.{NotText, Refused}
use Rattle.told_texts.specs.Told.{told_number}

abbrev pub answer_number : Result Counts TextRefusal → ℕ
answer_number (Ok k) = 0
answer_number (Err NotText) = 1
answer_number (Err (Refused g)) = ground_number g

abbrev pub RowsToSpare : Bounds → List ℕ → Mesh → Type 0
RowsToSpare b s m = (t : TextMesh) → StandsFor b s t → ¬ HasFewRows (lists_of t) m

abbrev pub NumberIsAnswer : Type 0
NumberIsAnswer = (b : Bounds) (s : List ℕ) (m : Mesh) → RowsToSpare b s m → told_number b s ≡ answer_number (build_text b s m).answer
