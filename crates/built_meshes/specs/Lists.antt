-- What is handed to building, and its grounds 2 and 3.
--     Lists                   the version; coordinates, 3 a point; side lengths, 4 a face; first points, one a side, which version 1
--                             does not look at; listed points; the interval beside each
--     general_limits, refine_limits  the most points, faces and listed points of building, and of the program refine
--     points_of, faces_of       how many points and faces the lists give
--     rows_of l                the rows that ground 4 counts: for the points, the faces, and for as many edges as points are listed
--     side_length l f k        the length of side k of face f, from 0
--     size l f                the number of listed points of all four sides of face f
--     offset l f              where the listed points of face f begin: the sides are joined in their order
--     firsts_counted           there are as many first points as sides, in version 2
--     counts_fit               within the limits, and the lengths of the lists agree: else ground 2
--     listed_fit               all numbers finite, intervals with sign bit clear: else ground 3
-- A listed point past the end of its list reads as 0, a number as a NaN.
use Rattle.std.specs.Prelude.{Bool, true, ◌&&◌, List, ℕ, ◌+◌, ◌*◌, ◌/◌, ◌%◌, eqb, leb, length, get_or, Float}
use Rattle.std.specs.Float.{nan}
use Rattle.std.specs.Float.Ieee.Scale.{finite}
use Rattle.tables.specs.Layout.{position_width}
use Rattle.tables.specs.declared.Counts.{Counts}
use Rattle.tables.specs.declared.Sizes.{Sizes}
use Rattle.closed_meshes.specs.Renumbering.{sum_to}
use Rattle.audited_meshes.specs.Folds.{every}
use Rattle.audited_meshes.specs.Audit.{interval_fit}
use Rattle.built_meshes.specs.declared.Version.{Version}
use Rattle.built_meshes.specs.declared.Version.TheVariants.{One, Two}

pub record Lists : Type 0 where
  pub version : Version
  pub coordinates : List Float
  pub sides : List ℕ
  pub firsts : List ℕ
  pub listed : List ℕ
  pub intervals : List Float

abbrev pub general_limits : Sizes
general_limits = record { points = 4096; faces = 4096; listed = 16384 }

abbrev pub refine_limits : Sizes
refine_limits = record { points = 64; faces = 64; listed = 256 }

abbrev pub points_of : Lists → ℕ
points_of l = length l.coordinates / position_width

abbrev pub faces_of : Lists → ℕ
faces_of l = length l.sides / 4

abbrev pub rows_of : Lists → Counts
rows_of l = record { points = points_of l; edges = length l.listed; faces = faces_of l }

abbrev pub side_length : Lists → ℕ → ℕ → ℕ
side_length l f k = get_or l.sides (f * 4 + k) 0

abbrev pub size : Lists → ℕ → ℕ
size l f = side_length l f 0 + side_length l f 1 + side_length l f 2 + side_length l f 3

unfoldable pub offset : Lists → ℕ → ℕ
unfolding sum_to
offset l f = sum_to f (λ k. size l k)

abbrev pub firsts_counted : Version → Lists → Bool
firsts_counted One l = true
firsts_counted Two l = eqb (length l.firsts) (length l.sides)

unfoldable pub counts_fit : Sizes → Lists → Bool
unfolding sum_to
counts_fit c l =
    leb (points_of l) c.points && leb (faces_of l) c.faces && leb (length l.listed) c.listed
    && eqb (length l.coordinates % position_width) 0 && eqb (length l.sides % 4) 0
    && eqb (length l.listed) (length l.intervals)
    && eqb (sum_to (length l.sides) (λ k. get_or l.sides k 0)) (length l.listed) && firsts_counted l.version l

unfoldable pub listed_fit : Lists → Bool
unfolding every
listed_fit l =
    every (length l.coordinates) (λ k. finite (get_or l.coordinates k nan))
    && every (length l.intervals) (λ k. interval_fit (get_or l.intervals k nan))
