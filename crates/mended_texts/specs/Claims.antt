-- What is claimed of the mending of a text s of any bytes (document 02, §8).
--     Says s t                the text s is of the form, and says t
--     SaysTwo s t             so it does, and it is of version 2
--     TurnedRight t c         with the faces of the choice c turned, all neighbours in t run opposite ways
--     MendedText s t c        what is left of the text s, which said t: t with the faces of the choice c turned, and of no other choice
--     SameBytes              the number of bytes stays
--     RefusalsLeave          every refusal leaves the text as it is
--     NotTextExactly        1 exactly if the text is not of the form or of version 1
--     GroundsInOrder        2, 3, 10, 11, 12, 43, 14 and 20 exactly if a text of version 2 meets the ground first
--     TwistedText            44 exactly if it meets none of these and no choice works
--     TextMended             it is mended exactly if it meets none of these and a choice works
--     ReversalRead           what is left of it then
--     Unchanged               a text that needs nothing comes back unchanged
--     Twice                   mending twice is mending once
--     ThenBuilt              building does not refuse a mended text by 14, 15 or 20
use Rattle.std.specs.Prelude.{◌≡◌, ◌↔◌, ◌⊎◌, ◌≢◌, List, ℕ, ◌<◌, length, Err}
use Rattle.tables.specs.Mesh.{Mesh}
use Rattle.text_numbers.specs.Form.{parsed, unparsed}
use Rattle.mesh_text.specs.Text.{TextMesh, text}
use Rattle.built_meshes.specs.Lists.{general_limits}
use Rattle.built_meshes.specs.Grounds.{Where}
use Rattle.built_meshes.specs.declared.Version.TheVariants.{One, Two}
use Rattle.built_meshes.specs.declared.Ground.{Ground}
use Rattle.built_meshes.specs.declared.Ground.TheVariants.{EdgeTripleFace, SameWay, MissingFace}
use Rattle.building_tests.specs.declared.Bounds.{Bounds}
use Rattle.text_meshes.specs.TextBuilding.{lists_of, build_text}
use Rattle.text_meshes.specs.declared.TextRefusal.TheVariants as Text
use Rattle.mended_lists.specs.Reversal.{Choice, reversed}
use Rattle.mended_lists.specs.Claims.{Opposite, LowestStay}
use Rattle.mended_lists.specs.Grounds.{MeetsFirst, MeetsNone}
use Rattle.mended_texts.specs.Turning.{turned_text}
use Rattle.mended_texts.specs.Mending.{mend_text}
use Rattle.mended_texts.specs.declared.TextMending.TheVariants.{Mended, NotText, Refused, Twisted}

abbrev pub Says : List ℕ → TextMesh → Type 0
Says s t = (n : ℕ) × (text s ≡ parsed t n)

abbrev pub SaysTwo : List ℕ → TextMesh → Type 0
SaysTwo s t = Says s t × (t.version ≡ Two)

abbrev pub TurnedRight : TextMesh → Choice → Type 0
TurnedRight t c = Opposite (lists_of (turned_text c t))

pub record MendedText (s : List ℕ) (t : TextMesh) (c : Choice) : Type 0 where
  pub says : SaysTwo (mend_text s).text (turned_text c t)
  pub lists : lists_of (turned_text c t) ≡ reversed c (lists_of t)
  pub opposite : TurnedRight t c
  pub lowest-stay : LowestStay (lists_of t) c
  pub only_one : (d : Choice) → TurnedRight t d → LowestStay (lists_of t) d → (f : ℕ) → f < length t.faces → d f ≡ c f

abbrev pub SameBytes : Type 0
SameBytes = (s : List ℕ) → length (mend_text s).text ≡ length s

abbrev pub RefusalsLeave : Type 0
RefusalsLeave = (s : List ℕ) → (mend_text s).answer ≢ Mended → (mend_text s).text ≡ s

abbrev pub NotTextExactly : Type 0
NotTextExactly =
    (s : List ℕ) → ((mend_text s).answer ≡ NotText) ↔ ((text s ≡ unparsed) ⊎ ((t : TextMesh) × Says s t × (t.version ≡ One)))

abbrev pub GroundsInOrder : Type 0
GroundsInOrder =
    (s : List ℕ) (g : Ground) →
    ((mend_text s).answer ≡ Refused g) ↔ ((t : TextMesh) × SaysTwo s t × ((w : Where) × MeetsFirst general_limits (lists_of t) w g))

abbrev pub TwistedText : Type 0
TwistedText =
    (s : List ℕ) →
    ((mend_text s).answer ≡ Twisted)
    ↔ ((t : TextMesh) × SaysTwo s t × MeetsNone general_limits (lists_of t) × ((c : Choice) → ¬ TurnedRight t c))

abbrev pub TextMended : Type 0
TextMended =
    (s : List ℕ) →
    ((mend_text s).answer ≡ Mended)
    ↔ ((t : TextMesh) × SaysTwo s t × MeetsNone general_limits (lists_of t) × ((c : Choice) × TurnedRight t c))

abbrev pub ReversalRead : Type 0
ReversalRead = (s : List ℕ) (t : TextMesh) → Says s t → (mend_text s).answer ≡ Mended → (c : Choice) × MendedText s t c

abbrev pub Unchanged : Type 0
Unchanged =
    (s : List ℕ) (t : TextMesh) → SaysTwo s t → MeetsNone general_limits (lists_of t) → Opposite (lists_of t) →
    ((mend_text s).answer ≡ Mended) × ((mend_text s).text ≡ s)

abbrev pub Twice : Type 0
Twice = (s : List ℕ) → mend_text (mend_text s).text ≡ mend_text s

abbrev pub ThenBuilt : Type 0
ThenBuilt =
    (s : List ℕ) → (mend_text s).answer ≡ Mended → (b : Bounds) (m : Mesh) →
    ((build_text b (mend_text s).text m).answer ≢ Err (Text.Refused EdgeTripleFace))
    × ((build_text b (mend_text s).text m).answer ≢ Err (Text.Refused SameWay))
    × ((build_text b (mend_text s).text m).answer ≢ Err (Text.Refused MissingFace))
