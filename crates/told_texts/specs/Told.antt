-- The number of what building answers to a text in tables with rows to spare.
--     faces_met l            the ground that is met first in lists that pass 2 and 3
--     verdict_number v       0, or the number of the ground
--     told_number b s        the number of the answer to the text s within the limits b
--     Unpaired, Pairs       the lists of mates before the faces are looked at, and after
use Rattle.std.specs.Prelude.{◌≡◌, Bool, true, false, List, [], ℕ, ◌≤◌, ◌<◌, length, get_or, Result, Ok, Err, ⊤}
use Rattle.built_meshes.specs.declared.Ground.{Ground}
use Rattle.text_numbers.specs.Form.{Parsed, parsed, unparsed}
use Rattle.mesh_text.specs.Text.{text, TextMesh}
use Rattle.built_meshes.specs.Lists.{Lists}
use Rattle.built_meshes.specs.Answers.{ground_number}
use Rattle.building_tests.specs.Lent.{limits_of, lists}
use Rattle.building_tests.specs.declared.Bounds.{Bounds}
use Rattle.text_meshes.specs.TextBuilding.{is_too_long, lists_of}
use Rattle.mended_lists.specs.Edges.{places_of, mate, follower}
use Rattle.refusal_places.specs.Spots.{first_spot}
use Rattle.whole_grounds.specs.Turning.{whole_met, verdict_if, lists_met}

unfoldable pub faces_met : Lists → Result ⊤ Ground
unfolding first_spot whole_met
faces_met l = verdict_if true true (first_spot l) (whole_met l)

abbrev pub verdict_number : Result ⊤ Ground → ℕ
verdict_number (Ok tt) = 0
verdict_number (Err g) = ground_number g

-- of a text that is of the form, or is not
unfoldable pub form_number : Bounds → Parsed TextMesh → ℕ
unfolding lists_met
form_number b (parsed t n) = verdict_number (lists_met (limits_of b) (lists_of t))
form_number b unparsed = 1

unfoldable pub told_if : Bool → Bounds → List ℕ → ℕ
unfolding form_number text
told_if true b s = 2
told_if false b s = form_number b (text s)

unfoldable pub told_number : Bounds → List ℕ → ℕ
unfolding told_if
told_number b s = told_if (is_too_long b (length s)) b s

pub record Unpaired (ls mates seconds : List ℕ) : Type 0 where
  pub mates-fit : length ls ≤ length mates
  pub seconds-fit : length ls ≤ length seconds
  pub none_yet : (k : ℕ) → k < length seconds → get_or seconds k 0 ≡ 0

pub record Pairs (ss ls mates seconds : List ℕ) : Type 0 where
  pub mates-shown : (k : ℕ) → k < length ls → get_or mates k 0 ≡ mate (places_of (lists [] ss ls [])) k
  pub seconds-shown : (k : ℕ) → k < length ls → get_or seconds k 0 ≡ follower (places_of (lists [] ss ls [])) (length ls) k
