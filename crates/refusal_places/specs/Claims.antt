-- What is claimed of the place.
--     SpotIsFirst         the claim: where building refuses by a ground from 10 on, the ground is met at the place, and none is met before it
--     SpotRefuses          the claim: where there is a place, building refuses by its ground in every tables with rows to spare
--     SpotInFaces         the claim: the place is one of the faces
use Rattle.std.specs.Prelude.{◌≡◌, ◌⊎◌, ℕ, ◌<◌, ◌≤◌, Err}
use Rattle.tables.specs.declared.Sizes.{Sizes}
use Rattle.tables.specs.Mesh.{Mesh, none}
use Rattle.built_meshes.specs.Lists.{Lists, faces_of}
use Rattle.built_meshes.specs.Answers.{ground_number}
use Rattle.built_meshes.specs.Building.{build}
use Rattle.built_meshes.specs.Grounds.{HasFewRows, FirstMet}
use Rattle.built_meshes.specs.declared.Ground.{Ground}
use Rattle.refusal_places.specs.declared.Spot.TheVariants.{Face, Edge}
use Rattle.refusal_places.specs.Spots.{spotted, where_of}

abbrev pub SpotIsFirst : Type 0
SpotIsFirst =
    (c : Sizes) (l : Lists) (m : Mesh) → c.faces ≤ none → (g : Ground) → 10 ≤ ground_number g → (build c l m).answer ≡ Err g →
    FirstMet c l m (where_of (spotted c l)) g

abbrev pub SpotRefuses : Type 0
SpotRefuses =
    (c : Sizes) (l : Lists) (m : Mesh) → c.faces ≤ none → ¬ HasFewRows l m → (g : Ground) (f i : ℕ) →
    (spotted c l ≡ Err (Face f g)) ⊎ (spotted c l ≡ Err (Edge f i g)) → (build c l m).answer ≡ Err g

abbrev pub SpotInFaces : Type 0
SpotInFaces =
    (c : Sizes) (l : Lists) (g : Ground) (f i : ℕ) → (spotted c l ≡ Err (Face f g)) ⊎ (spotted c l ≡ Err (Edge f i g)) → f < faces_of l
