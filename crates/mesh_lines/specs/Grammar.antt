-- The lines of mesh texts 1 and 2 (document 01, "Mesh text"; document 02, §4), as forms on the bytes s of a text.
--     point_form listed_form side_form face_form s  the parts of the lines
--     flat f l                       the lists of l's elements joined
--     points_in intervals_in ps        the numbers of listed points
--     side_first side_count side_points side_intervals p    the first point of a side, how many points it lists, and the numbers that it lists
use Rattle.std.specs.Prelude.{List, [], ◌∷◌, ◌++◌, map, ℕ, length, Float}
use Rattle.text_numbers.specs.Form.{bytes, Form, ◌>>=◌, ◌>>◌, pure, times, literal, many}
use Rattle.text_numbers.specs.Numbers.{bits, decimal, float}

-- a point number and the bits of its interval
pub record Listed : Type 0 where
  pub point : ℕ
  pub interval : ℕ

-- its first point, and its listed points
pub record Side : Type 0 where
  pub first : ℕ
  pub listed : List Listed

module _ (s : List ℕ) where
  unfoldable pub coordinate_form : Form ℕ
  coordinate_form = literal s (bytes " ") >> bits s

  -- after `[point`
  unfoldable pub point_form : Form (List ℕ)
  point_form = do
    xyz ← times 3 coordinate_form
    literal s (bytes "]\n")
    pure xyz

  -- after ` [`
  unfoldable pub listed_form : Form Listed
  listed_form = do
    p ← decimal s
    literal s (bytes " ")
    d ← bits s
    literal s (bytes "]")
    pure (record { point = p; interval = d })

  unfoldable pub side_form : Form Side
  side_form = do
    literal s (bytes " [")
    p ← decimal s
    ps ← many s (bytes " [") listed_form (length s)
    literal s (bytes "]")
    pure (record { first = p; listed = ps })

  -- after `[face`
  unfoldable pub face_form : Form (List Side)
  face_form = do
    sides ← times 4 side_form
    literal s (bytes "]\n")
    pure sides

unfoldable pub flat : {A B : Type 0} → (A → List B) → List A → List B
flat f [] = []
flat f (a ∷ l) = f a ++ flat f l

abbrev pub points_in : List Listed → List ℕ
points_in ps = map (λ (p : Listed). p.point) ps

abbrev pub intervals_in : List Listed → List Float
intervals_in ps = map (λ (p : Listed). float p.interval) ps

abbrev pub side_first : Side → ℕ
side_first p = p.first

abbrev pub side_count : Side → ℕ
side_count p = length p.listed

abbrev pub side_points : Side → List ℕ
side_points p = points_in p.listed

abbrev pub side_intervals : Side → List Float
side_intervals p = intervals_in p.listed
