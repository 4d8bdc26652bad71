-- Building from a text, in the order of document 01's grounds: the bytes that `refine` allows, the form, and then the building from
-- the lists that the text stands for, whose first ground is that of the counts.
--     refine_bytes             the most bytes of a text that `refine` takes
--     is_too_long b n             n bytes are over the limit of bytes, which `refine` alone has
--     lists_of t               the lists that a text stands for, of the version that its head names
--     told a                  an answer of building from lists, as one of building from a text
--     text_numbers a           the numbers of an answer: points, edges and faces, or that of the ground
--     TextOutcome             the answer, and the tables afterwards
--     build_text b s m         building from the text s in the lent tables m, within the limits b
-- Grounds 1 and 2 leave the tables as they are.
use Rattle.std.specs.Prelude.{Bool, true, false, List, [], ◌∷◌, ℕ, ltb, length, Result, Ok, Err}
use Rattle.built_meshes.specs.declared.Ground.{Ground}
use Rattle.tables.specs.declared.Counts.{Counts}
use Rattle.tables.specs.Mesh.{Mesh}
use Rattle.text_numbers.specs.Form.{Parsed, parsed, unparsed}
use Rattle.mesh_text.specs.Text.{text, TextMesh}
use Rattle.mesh_text.specs.Lists.{coordinates, lengths, firsts, listed_points, intervals}
use Rattle.built_meshes.specs.Lists.{Lists}
use Rattle.built_meshes.specs.Answers.{ground_number}
use Rattle.built_meshes.specs.Building.{build, BuildOutcome as ListsOutcome}
use Rattle.built_meshes.specs.declared.Ground.TheVariants.{OverCounts}
use Rattle.building_tests.specs.Lent.{lists_in, limits_of}
use Rattle.building_tests.specs.declared.Bounds.{Bounds}
use Rattle.building_tests.specs.declared.Bounds.TheVariants.{General, Refine}
use Rattle.text_meshes.specs.declared.TextRefusal.{TextRefusal}
use Rattle.text_meshes.specs.declared.TextRefusal.TheVariants.{NotText, Refused}

abbrev pub refine_bytes : ℕ
refine_bytes = 16384

abbrev pub is_too_long : Bounds → ℕ → Bool
is_too_long General n = false
is_too_long Refine n = ltb refine_bytes n

abbrev pub lists_of : TextMesh → Lists
lists_of t = lists_in t.version (coordinates t) (lengths t) (firsts t) (listed_points t) (intervals t)

abbrev pub told : Result Counts Ground → Result Counts TextRefusal
told (Ok k) = Ok k
told (Err g) = Err (Refused g)

abbrev pub text_numbers : Result Counts TextRefusal → List ℕ
text_numbers (Ok k) = k.points ∷ k.edges ∷ k.faces ∷ []
text_numbers (Err NotText) = 1 ∷ []
text_numbers (Err (Refused g)) = ground_number g ∷ []

pub record TextOutcome : Type 0 where
  pub answer : Result Counts TextRefusal
  pub tables : Mesh

abbrev pub told_outcome : ListsOutcome → TextOutcome
told_outcome x = record { answer = told x.answer; tables = x.tables }

-- what is answered of a text that is of the form, or is not
unfoldable pub of_form : Bounds → Mesh → Parsed TextMesh → TextOutcome
unfolding build
of_form b m (parsed t n) = told_outcome (build (limits_of b) (lists_of t) m)
of_form b m unparsed = record { answer = Err NotText; tables = m }

unfoldable pub build_text_if : Bool → Bounds → List ℕ → Mesh → TextOutcome
unfolding of_form text
build_text_if true b s m = record { answer = Err (Refused OverCounts); tables = m }
build_text_if false b s m = of_form b m (text s)

unfoldable pub build_text : Bounds → List ℕ → Mesh → TextOutcome
unfolding build_text_if
build_text b s m = build_text_if (is_too_long b (length s)) b s m
