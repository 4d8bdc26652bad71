-- Where a text is refused: the line of the face, the face and the edge.
--     nowhere               stands for no line, no face or no edge
--     place_at_check np w     the place of the check w in a text with np points: its head is line 1, then comes a line for each point and each face
--     text_place b s         the place of the first check that is met in the text s within the limits b, if it has one
--     SpotRoom              the lists agree in length and are within the general limits
--     FewFaces s            a face that the place names is within the general limits
use Rattle.std.specs.Prelude.{◌≡◌, Bool, true, false, List, [], ℕ, ◌+◌, ◌/◌, ◌≤◌, ◌<◌, Float, length, Result, Ok, Err, ⊤}
use Rattle.text_numbers.specs.Form.{Parsed, parsed, unparsed}
use Rattle.mesh_text.specs.Text.{text, TextMesh}
use Rattle.built_meshes.specs.Lists.{offset}
use Rattle.built_meshes.specs.Grounds.{Where, lists, face, edge, whole}
use Rattle.building_tests.specs.Lent.{limits_of, lists as lists_one}
use Rattle.building_tests.specs.declared.Bounds.{Bounds}
use Rattle.text_meshes.specs.TextBuilding.{is_too_long, lists_of}
use Rattle.refusal_places.specs.declared.Spot.{Spot}
use Rattle.refusal_places.specs.declared.Spot.TheVariants.{Face, Edge}
use Rattle.refusal_places.specs.Spots.{spotted, where_of}
use Rattle.text_places.specs.declared.TextPlace.{TextPlace}

abbrev pub nowhere : ℕ
nowhere = 18446744073709551615

abbrev pub place_at_check : ℕ → Where → TextPlace
place_at_check np lists = record { line = nowhere; face = nowhere; edge = nowhere }
place_at_check np (face f) = record { line = np + f + 2; face = f; edge = nowhere }
place_at_check np (edge f i) = record { line = np + f + 2; face = f; edge = i }
place_at_check np whole = record { line = nowhere; face = nowhere; edge = nowhere }

-- of a text that is of the form, or is not
unfoldable pub form_place : Bounds → Parsed TextMesh → TextPlace
unfolding spotted
form_place b (parsed t n) = place_at_check (length t.points) (where_of (spotted (limits_of b) (lists_of t)))
form_place b unparsed = place_at_check 0 lists

unfoldable pub text_place_if : Bool → Bounds → List ℕ → TextPlace
unfolding form_place text
text_place_if true b s = place_at_check 0 lists
text_place_if false b s = form_place b (text s)

unfoldable pub text_place : Bounds → List ℕ → TextPlace
unfolding text_place_if
text_place b s = text_place_if (is_too_long b (length s)) b s

pub record SpotRoom (ss fs ls : List ℕ) (is : List Float) (np : ℕ) : Type 0 where
  pub all_listed : offset (lists_one [] ss [] []) (length ss / 4) ≡ length ls
  pub firsts-fit : length fs ≡ length ss
  pub intervals-fit : length ls ≤ length is
  pub points-fit : np ≤ 4096
  pub few : length ls ≤ 16384
  pub few-faces : length ss / 4 ≤ 4096

abbrev pub FewFaces : Result ⊤ Spot → Type 0
FewFaces (Ok tt) = 0 ≤ 4096
FewFaces (Err (Face f g)) = f < 4096
FewFaces (Err (Edge f i g)) = f < 4096
