-- When each of the mender's grounds is met, of the lists l within the limits c (document 02, §8): 2, 3, 10, 11, 12, 43 and 14 where building
-- meets them, 20 of an edge with one face, whichever way the places run. The order is building's.
--     is_shared g             the ground g is building's and the mender's, and met alike
--     LoneEdge l            20: no other place is on the edge
--     Meets c l w g          the ground g is met at the check w
--     MeetsFirst c l w g     it is met, and none is met before it
--     FirstGround           the claim: the mender refuses by a ground exactly if it is the first that is met
--     TwistedLast           the claim: it answers 44 exactly if no ground is met and no choice works
--     ElseMended            the claim: it mends exactly if no ground is met and a choice works
--     TurnedMeetsNone      the claim: where no ground is met, none is with the faces of any choice turned
--     MendsAgain            the claim: so lists whose faces are turned by a choice that works are mended too
use Rattle.std.specs.Prelude.{◌≡◌, Bool, true, false, ◌↔◌, ℕ, Ok, Err}
use Rattle.tables.specs.declared.Sizes.{Sizes}
use Rattle.tables.specs.Mesh.{Mesh}
use Rattle.built_meshes.specs.Lists.{Lists}
use Rattle.built_meshes.specs.Places.{Runs, Between}
use Rattle.built_meshes.specs.Grounds.{Where, whole, Met, Before}
use Rattle.built_meshes.specs.declared.Ground.{Ground}
use Rattle.built_meshes.specs.declared.Ground.TheVariants.{OverCounts, UnfitNumber, FewRows, FaceSize, OutOfRange, PointTwice}
use Rattle.built_meshes.specs.declared.Ground.TheVariants.{FirstPoint, NonRectangularFace, EdgeTripleFace, SameWay, MissingFace, NoEdge, MissedEdge}
use Rattle.mended_lists.specs.declared.Unmended.TheVariants.{Refused, Twisted}
use Rattle.mended_lists.specs.Reversal.{Choice, reversed}
use Rattle.mended_lists.specs.Mending.{mending}
use Rattle.mended_lists.specs.Claims.{Works}

abbrev pub is_shared : Ground → Bool
is_shared OverCounts = true
is_shared UnfitNumber = true
is_shared FewRows = false
is_shared FaceSize = true
is_shared OutOfRange = true
is_shared PointTwice = true
is_shared FirstPoint = true
is_shared NonRectangularFace = false
is_shared EdgeTripleFace = true
is_shared SameWay = false
is_shared MissingFace = false
is_shared NoEdge = false
is_shared MissedEdge = false

pub record LoneEdge (l : Lists) : Type 0 where
  pub p : ℕ
  pub q : ℕ
  pub f : ℕ
  pub i : ℕ
  pub runs : Runs l f i p q
  pub none_other : (g j : ℕ) → Between l g j p q → (f ≡ g) × (i ≡ j)

-- no ground that is shared asks for the lent tables m
pub data Meets (c : Sizes) (l : Lists) : Where → Ground → Type 0 where
  as-built : {w : Where} {g : Ground} (m : Mesh) → is_shared g ≡ true → Met c l m w g → Meets c l w g
  lone-edge : LoneEdge l → Meets c l whole MissingFace

pub record MeetsFirst (c : Sizes) (l : Lists) (w : Where) (g : Ground) : Type 0 where
  pub met : Meets c l w g
  pub none_before : (w' : Where) (g' : Ground) → Before w' g' w g → ¬ Meets c l w' g'

abbrev pub FirstGround : Type 0
FirstGround = (c : Sizes) (l : Lists) (g : Ground) → (mending c l ≡ Err (Refused g)) ↔ ((w : Where) × MeetsFirst c l w g)

abbrev pub MeetsNone : Sizes → Lists → Type 0
MeetsNone c l = (w : Where) (g : Ground) → ¬ Meets c l w g

abbrev pub TwistedLast : Type 0
TwistedLast = (c : Sizes) (l : Lists) → (mending c l ≡ Err Twisted) ↔ (MeetsNone c l × ((t : Choice) → ¬ Works l t))

abbrev pub ElseMended : Type 0
ElseMended = (c : Sizes) (l : Lists) → (mending c l ≡ Ok tt) ↔ (MeetsNone c l × ((t : Choice) × Works l t))

abbrev pub TurnedMeetsNone : Type 0
TurnedMeetsNone = (c : Sizes) (l : Lists) (t : Choice) → MeetsNone c l → MeetsNone c (reversed t l)

abbrev pub MendsAgain : Type 0
MendsAgain = (c : Sizes) (l : Lists) (t : Choice) → MeetsNone c l → Works l t → mending c (reversed t l) ≡ Ok tt
