-- The places of the lists: place i of face f is the edge from its point i to its point i + 1, round to the start.
--     point_of l f i           the point at which the place begins
--     next_of l f i            the point at which it ends
--     beside_of l f i          the interval written beside that point
--     IsPlace l f i           face f has a place i
--     Runs l f i p q          place i of face f runs from p to q
--     Between l f i p q       it joins p and q, in either direction
--     Differ f i g j          the places are two
--     Earlier f i g j         the first place comes before the second one: faces in number order, then places
use Rattle.std.specs.Prelude.{◌≡◌, ◌⊎◌, ℕ, ◌+◌, ◌<◌, get_or, Float}
use Rattle.std.specs.Float.{nan}
use Rattle.perimeters.specs.Places.{next_place}
use Rattle.built_meshes.specs.Lists.{Lists, faces_of, size, offset}
use Rattle.built_meshes.specs.Faces.{listed_at}

abbrev pub point_of : Lists → ℕ → ℕ → ℕ
point_of l f i = listed_at l (offset l f) i

abbrev pub next_of : Lists → ℕ → ℕ → ℕ
next_of l f i = point_of l f (next_place (size l f) i)

abbrev pub beside_of : Lists → ℕ → ℕ → Float
beside_of l f i = get_or l.intervals (offset l f + i) nan

abbrev pub IsPlace : Lists → ℕ → ℕ → Type 0
IsPlace l f i = (f < faces_of l) × (i < size l f)

pub record Runs (l : Lists) (f i p q : ℕ) : Type 0 where
  pub is-place : IsPlace l f i
  pub begins : point_of l f i ≡ p
  pub ends : next_of l f i ≡ q

abbrev pub Differ : ℕ → ℕ → ℕ → ℕ → Type 0
Differ f i g j = ¬ ((f ≡ g) × (i ≡ j))

abbrev pub Between : Lists → ℕ → ℕ → ℕ → ℕ → Type 0
Between l f i p q = Runs l f i p q ⊎ Runs l f i q p

abbrev pub Earlier : ℕ → ℕ → ℕ → ℕ → Type 0
Earlier f i g j = (f < g) ⊎ ((f ≡ g) × (i < j))
