-- What is claimed of the place of a text.
--     PlaceIsFirst        the claim: where building a text refuses by a ground from 10 on, the place is that of the first check that is met
use Rattle.std.specs.Prelude.{◌≡◌, List, ℕ, ◌≤◌, length, Err}
use Rattle.tables.specs.Mesh.{Mesh}
use Rattle.mesh_text.specs.Text.{TextMesh}
use Rattle.built_meshes.specs.Answers.{ground_number}
use Rattle.built_meshes.specs.Grounds.{Where, FirstMet}
use Rattle.built_meshes.specs.declared.Ground.{Ground}
use Rattle.building_tests.specs.Lent.{limits_of}
use Rattle.building_tests.specs.declared.Bounds.{Bounds}
use Rattle.text_meshes.specs.TextBuilding.{lists_of, build_text}
use Rattle.text_meshes.specs.Claims.{StandsFor}
use Rattle.text_meshes.specs.declared.TextRefusal.TheVariants.{Refused}
use Rattle.text_places.specs.TextPlaces.{place_at_check, text_place}

abbrev pub PlaceIsFirst : Type 0
PlaceIsFirst =
    (b : Bounds) (s : List ℕ) (m : Mesh) (t : TextMesh) → StandsFor b s t → (g : Ground) → 10 ≤ ground_number g →
    (build_text b s m).answer ≡ Err (Refused g) →
    (w : Where) × FirstMet (limits_of b) (lists_of t) m w g × (text_place b s ≡ place_at_check (length t.points) w)
