-- What is claimed of turned faces and of the choice of faces.
--     Fitting l             the lengths of the lists agree
--     Sound l               no place runs from a point to itself, and no three places are on one edge: 10, 12 and 14 do not hold
--     Paired l              each place shares its edge with another: 20 does not hold
--     Opposite l            neighbours run opposite ways: no two places run from one point to another
--     Works l c             so they do when the faces of the choice c are turned
--     Share l f g           faces f and g have an edge in common
--     InPart l f g          they are of one part: joined through shared edges
--     LowestStay l c        the lowest-numbered face of each part is not turned
--     TurnedBack           the claim: a face turned twice is as it was
--     IntervalsStay        the claim: each interval stays on its pair of points; it is written beside the point at which its place arrives
--     FirstsAgree          the claim: the first point of each side agrees in a turned face if it did before, so that 43 is not met
--     TwistedExactly       the claim: 44 exactly if no choice works
--     ChoiceFound          the claim: else the choice found works, and the lowest-numbered face of each part stays
--     OnlyOne              the claim: no other choice is such
--     NeedsNothing         the claim: lists whose neighbours run opposite ways come back unchanged
--     Twice                 the claim: mended lists come back unchanged
--     PassedSound          the claim: lists that pass the grounds before 44 are sound, and each place shares its edge
--     MendedExactly        the claim: past those grounds, the answer is 44 exactly if no choice works, and else the lists are mended
--     ThenBuilt            the claim: building does not meet 14, 15 or 20 in mended lists
use Rattle.std.specs.Prelude.{◌≡◌, true, false, ◌↔◌, ◌⊎◌, ℕ, ◌*◌, ◌≤◌, ◌<◌, length, Ok, Err}
use Rattle.tables.specs.declared.Sizes.{Sizes}
use Rattle.tables.specs.Mesh.{Mesh}
use Rattle.perimeters.specs.Places.{next_place}
use Rattle.built_meshes.specs.Lists.{Lists, faces_of, size, offset}
use Rattle.built_meshes.specs.Faces.{firsts_fit}
use Rattle.built_meshes.specs.declared.Version.TheVariants.{Two}
use Rattle.built_meshes.specs.Places.{beside_of, Runs, Between, Differ}
use Rattle.built_meshes.specs.Grounds.{Holds}
use Rattle.built_meshes.specs.declared.Ground.TheVariants.{EdgeTripleFace, SameWay, MissingFace}
use Rattle.mended_lists.specs.declared.Unmended.TheVariants.{Twisted}
use Rattle.mended_lists.specs.Reversal.{Choice, reversed}
use Rattle.mended_lists.specs.Parts.{faces_turned, twisted}
use Rattle.mended_lists.specs.Mending.{mending}

pub record Fitting (l : Lists) : Type 0 where
  pub sides : length l.sides ≡ faces_of l * 4
  pub firsts : length l.firsts ≡ faces_of l * 4
  pub listed : length l.listed ≡ offset l (faces_of l)
  pub intervals : length l.intervals ≡ offset l (faces_of l)

pub record Sound (l : Lists) : Type 0 where
  pub no_loop : (f i p : ℕ) → ¬ Runs l f i p p
  pub at_most_two :
      (f i g j h k p q : ℕ) → Between l f i p q → Between l g j p q → Between l h k p q → Differ f i g j → Differ f i h k → Differ g j h k → ⊥

abbrev pub Paired : Lists → Type 0
Paired l = (f i p q : ℕ) → Runs l f i p q → (g : ℕ) × (j : ℕ) × Differ f i g j × Between l g j p q

abbrev pub Opposite : Lists → Type 0
Opposite l = (f i g j p q : ℕ) → Runs l f i p q → Runs l g j p q → (f ≡ g) × (i ≡ j)

abbrev pub Works : Lists → Choice → Type 0
Works l c = Opposite (reversed c l)

pub record Share (l : Lists) (f g : ℕ) : Type 0 where
  pub i : ℕ
  pub j : ℕ
  pub p : ℕ
  pub q : ℕ
  pub one : Between l f i p q
  pub other : Between l g j p q

pub data InPart (l : Lists) (f : ℕ) : ℕ → Type 0 where
  itself : InPart l f f
  beside : {g h : ℕ} → InPart l f g → Share l g h → InPart l f h

abbrev pub LowestStay : Lists → Choice → Type 0
LowestStay l c = (f : ℕ) → f < faces_of l → ((g : ℕ) → InPart l f g → f ≤ g) → c f ≡ false

abbrev pub TurnedBack : Type 0
TurnedBack = (c : Choice) (l : Lists) → Fitting l → reversed c (reversed c l) ≡ l

abbrev pub IntervalsStay : Type 0
IntervalsStay =
    (c : Choice) (l : Lists) (f i p q : ℕ) → Runs l f i p q →
    (j : ℕ) × Between (reversed c l) f j p q
    × (beside_of (reversed c l) f (next_place (size (reversed c l) f) j) ≡ beside_of l f (next_place (size l f) i))

abbrev pub FirstsAgree : Type 0
FirstsAgree =
    (c : Choice) (l : Lists) (f : ℕ) → f < faces_of l → 0 < size l f → firsts_fit Two l f (offset l f) ≡ true →
    firsts_fit Two (reversed c l) f (offset (reversed c l) f) ≡ true

abbrev pub TwistedExactly : Type 0
TwistedExactly = (l : Lists) → Sound l → (twisted l ≡ true) ↔ ((c : Choice) → ¬ Works l c)

abbrev pub ChoiceFound : Type 0
ChoiceFound = (l : Lists) → Sound l → twisted l ≡ false → Works l (faces_turned l) × LowestStay l (faces_turned l)

abbrev pub OnlyOne : Type 0
OnlyOne = (l : Lists) (c : Choice) → Sound l → Works l c → LowestStay l c → (f : ℕ) → f < faces_of l → c f ≡ faces_turned l f

abbrev pub NeedsNothing : Type 0
NeedsNothing = (l : Lists) → Fitting l → Sound l → Opposite l → (twisted l ≡ false) × (reversed (faces_turned l) l ≡ l)

abbrev pub Twice : Type 0
Twice =
    (l : Lists) → Sound l → twisted l ≡ false →
    (twisted (reversed (faces_turned l) l) ≡ false) × (reversed (faces_turned (reversed (faces_turned l) l)) (reversed (faces_turned l) l) ≡ reversed (faces_turned l) l)

abbrev pub ThenBuilt : Type 0
ThenBuilt =
    (l : Lists) → Sound l → Paired l → twisted l ≡ false → (c : Sizes) (m : Mesh) →
    ¬ Holds c (reversed (faces_turned l) l) m EdgeTripleFace × ¬ Holds c (reversed (faces_turned l) l) m SameWay
    × ¬ Holds c (reversed (faces_turned l) l) m MissingFace

abbrev pub PassedSound : Type 0
PassedSound = (c : Sizes) (l : Lists) → (mending c l ≡ Ok tt) ⊎ (mending c l ≡ Err Twisted) → Sound l × Paired l

abbrev pub MendedExactly : Type 0
MendedExactly =
    (c : Sizes) (l : Lists) → (mending c l ≡ Ok tt) ⊎ (mending c l ≡ Err Twisted) →
    ((mending c l ≡ Err Twisted) ↔ ((t : Choice) → ¬ Works l t)) × ((mending c l ≡ Ok tt) ↔ Works l (faces_turned l))
