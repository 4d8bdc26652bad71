-- The faces of lists as a text says them (document 01, "Mesh text"), and what the writing of their lines needs.
--     listed_pair_at l i           the listed point i of all, with the bits of the interval beside it
--     listed_from l a n       n listed points from a on
--     side_at l p a n         the side of the first point p and n listed points from a on
--     side_in l f k           side k of face f
--     face_in l f             the four sides of face f
--     faces_in l              the faces in number order
--     FiniteIntervals is           every interval is finite
--     PrintingRoom ss fs ls is f a   face f, whose listed points stand from a on, is in the lists
--     PrintingRooms ss fs ls is  the lists agree in length, are within the limits, and every interval is finite
use Rattle.std.specs.Prelude.{◌≡◌, true, List, [], ℕ, ◌+◌, ◌*◌, ◌/◌, ◌≤◌, ◌<◌, length, get_or, Float}
use Rattle.std.specs.Float.{nan}
use Rattle.std.specs.Float.Ieee.Scale.{finite}
use Rattle.mesh_lines.specs.Grammar.{Listed, Side}
use Rattle.built_meshes.specs.Lists.{Lists, faces_of, side_length, size, offset}
use Rattle.built_meshes.specs.Faces.{side_from, first_at}
use Rattle.building_tests.specs.Lent.{lists}
use Rattle.listings.specs.Handing.{up_to, bits_of}

abbrev pub listed_pair_at : Lists → ℕ → Listed
listed_pair_at l i = record { point = get_or l.listed i 0; interval = bits_of (get_or l.intervals i nan) }

abbrev pub listed_from : Lists → ℕ → ℕ → List Listed
listed_from l a n = up_to n (λ i. listed_pair_at l (a + i))

abbrev pub side_at : Lists → ℕ → ℕ → ℕ → Side
side_at l p a n = record { first = p; listed = listed_from l a n }

abbrev pub side_in : Lists → ℕ → ℕ → Side
side_in l f k = side_at l (first_at l f k) (side_from l f (offset l f) k) (side_length l f k)

abbrev pub face_in : Lists → ℕ → List Side
face_in l f = up_to 4 (side_in l f)

abbrev pub faces_in : Lists → List (List Side)
faces_in l = up_to (faces_of l) (face_in l)

abbrev pub FiniteIntervals : List Float → Type 0
FiniteIntervals is = (i : ℕ) → i < length is → finite (get_or is i nan) ≡ true

pub record PrintingRoom (ss fs ls : List ℕ) (is : List Float) (f a : ℕ) : Type 0 where
  pub sides-fit : f * 4 + 4 ≤ length ss
  pub firsts-fit : f * 4 + 4 ≤ length fs
  pub at-is : a ≡ offset (lists [] ss [] []) f
  pub listed-fit : a + size (lists [] ss [] []) f ≤ length ls
  pub intervals-fit : length is ≡ length ls
  pub all-finite : FiniteIntervals is

pub record PrintingRooms (ss fs ls : List ℕ) (is : List Float) : Type 0 where
  pub all_listed : offset (lists [] ss [] []) (length ss / 4) ≡ length ls
  pub firsts-fit : length fs ≡ length ss
  pub intervals-fit : length is ≡ length ls
  pub few : length ls ≤ 16384
  pub few-faces : length ss / 4 ≤ 4096
  pub all-finite : FiniteIntervals is
