-- Building computed: pieces of which two grounds hold (the first in document 01's order is
-- answered), and the tables afterwards, word for word.
use mathlib.Core.Path.{◌≡◌, refl}
use mathlib.Core.Bool.{Bool, true, false, ◌&&◌}
use mathlib.Core.List.{List, [], ◌∷◌, ◌++◌}
use Prim.Native.Nat.{ℕ, zero, suc, ◌*◌}
use lib.Dec.{eqb}
use lib.ListN.{length, replicate}
use lib.Ieee.{Float, nan, inf, of_bits, neg, add, sub, le, lt, binary64}
use Rattle.std.specs.Prelude.{Ok, Err}
use Rattle.edge_links.specs.Connect.{links_of}
use Rattle.tables.specs.Mesh.{Mesh, none}
use Rattle.built_meshes.specs.Lists.{Lists, general_limits, refine_limits, points_of, faces_of}
use Rattle.tables.specs.declared.Sizes.{Sizes}
use Rattle.built_meshes.specs.Answers.{built_numbers}
use Rattle.built_meshes.specs.Building.{build}
use Rattle.building_claims.specs.Pieces.{unit, two, nought, back_to_back}
use Rattle.built_meshes.specs.declared.Version.TheVariants.{One}
use Rattle.built_meshes.specs.declared.Ground.TheVariants.{SameWay}

-- ---- pieces

-- tables with just the rows that the lists need, all words 7
abbrev pub just_enough : Lists → Mesh
just_enough l =
    record {
      positions = replicate (points_of l * 3) two;
      points = replicate (points_of l * 3) 7;
      edges = replicate (length l.listed * 8) 7;
      intervals = replicate (length l.listed) two;
      faces = replicate (faces_of l * 5) 7;
    }

pub record Piece : Type 0 where
  pub limits : Sizes
  pub lists : Lists
  pub tables : Mesh
  pub answer : List ℕ

abbrev pub piece : Lists → List ℕ → Piece
piece l ns = record { limits = general_limits; lists = l; tables = just_enough l; answer = ns }

abbrev pub same_numbers : List ℕ → List ℕ → Bool
same_numbers [] [] = true
same_numbers [] (n ∷ ns) = false
same_numbers (k ∷ ks) [] = false
same_numbers (k ∷ ks) (n ∷ ns) = eqb k n && same_numbers ks ns

unfoldable pub as_expected : Piece → Bool
unfolding build
as_expected x = same_numbers (built_numbers (build x.limits x.lists x.tables).answer) x.answer

abbrev pub all_of : List Piece → Bool
unfolding as_expected
all_of [] = true
all_of (x ∷ xs) = as_expected x && all_of xs

-- ---- the order of the grounds

abbrev minus_nought : Float
minus_nought = of_bits binary64 0x8000000000000000

abbrev times : {A : Type 0} → ℕ → List A → List A
times zero xs = []
times (suc k) xs = xs ++ times k xs

-- k triangles of n points, with side sums 1, 1, 2, 0
abbrev triangles : ℕ → ℕ → List ℕ → Lists
triangles n k ps =
    record {
      version = One;
      coordinates = replicate (n * 3) nought;
      sides = times k (1 ∷ 1 ∷ 1 ∷ 0 ∷ []);
      firsts = [];
      listed = ps;
      intervals = times k (unit ∷ unit ∷ two ∷ []);
    }

abbrev with_intervals : Lists → List Float → Lists
with_intervals l ts =
    record { version = l.version; coordinates = l.coordinates; sides = l.sides; firsts = l.firsts; listed = l.listed; intervals = ts }

abbrev with_coordinates : Lists → List Float → Lists
with_coordinates l xs =
    record { version = l.version; coordinates = xs; sides = l.sides; firsts = l.firsts; listed = l.listed; intervals = l.intervals }

-- n points and no face
abbrev points : ℕ → Lists
points n = triangles n 0 []

abbrev piece_in : Sizes → Lists → Mesh → List ℕ → Piece
piece_in c l m ns = record { limits = c; lists = l; tables = m; answer = ns }

abbrev no_tables : Mesh
no_tables = just_enough (points 0)

abbrev both_sides : List ℕ
both_sides = 0 ∷ 1 ∷ 2 ∷ 2 ∷ 1 ∷ 0 ∷ []

abbrev orders : List Piece
orders =
    -- 2 before 3: a coordinate too few, and it is no number
    piece (with_coordinates (points 0) (nan ∷ [])) (2 ∷ [])
    -- within and over the limits
    ∷ piece_in refine_limits (points 64) (just_enough (points 64)) (21 ∷ [])
    ∷ piece_in refine_limits (points 65) (just_enough (points 65)) (2 ∷ [])
    -- 3 before 4: -0 as an interval, and no rows
    ∷ piece_in general_limits (with_intervals (triangles 3 2 both_sides) (minus_nought ∷ times 5 (unit ∷ []))) no_tables (3 ∷ [])
    -- an infinite coordinate; -0 as a coordinate
    ∷ piece (with_coordinates (triangles 3 2 both_sides) (inf false ∷ replicate 8 nought)) (3 ∷ [])
    ∷ piece (with_coordinates (triangles 3 2 both_sides) (minus_nought ∷ replicate 8 nought)) (3 ∷ 3 ∷ 2 ∷ [])
    -- 4 before 10
    ∷ piece_in general_limits (back_to_back 2 (1 ∷ 0 ∷ 1 ∷ 0 ∷ []) (unit ∷ unit ∷ [])) no_tables (4 ∷ [])
    -- 10 before 11: two points, both out of range
    ∷ piece (record { version = One; coordinates = []; sides = 1 ∷ 0 ∷ 1 ∷ 0 ∷ []; firsts = []; listed = 7 ∷ 7 ∷ []; intervals = unit ∷ unit ∷ [] }) (10 ∷ [])
    -- 11 before 12
    ∷ piece (triangles 3 1 (0 ∷ 3 ∷ 3 ∷ [])) (11 ∷ [])
    -- 12 before 13
    ∷ piece (with_intervals (triangles 3 1 (0 ∷ 1 ∷ 0 ∷ [])) (two ∷ unit ∷ two ∷ [])) (12 ∷ [])
    -- 13 before 14
    ∷ piece (with_intervals (triangles 3 3 (both_sides ++ (0 ∷ 1 ∷ 2 ∷ []))) (unit ∷ unit ∷ two ∷ unit ∷ unit ∷ two ∷ two ∷ unit ∷ two ∷ [])) (13 ∷ [])
    -- 14 before 15: the third face runs as the first
    ∷ piece (triangles 3 3 (both_sides ++ (0 ∷ 1 ∷ 2 ∷ []))) (14 ∷ [])
    -- 15 of a face before 11 of the next one
    ∷ piece (triangles 3 3 (0 ∷ 1 ∷ 2 ∷ 0 ∷ 1 ∷ 2 ∷ 9 ∷ 9 ∷ 9 ∷ [])) (15 ∷ [])
    -- 20 before 21: one triangle and a point besides
    ∷ piece (triangles 4 1 (0 ∷ 1 ∷ 2 ∷ [])) (20 ∷ [])
    -- 21 before 22: two pairs of triangles that share point 0, and a point besides; and with no such point
    ∷ piece (triangles 6 4 (both_sides ++ (0 ∷ 3 ∷ 4 ∷ 4 ∷ 3 ∷ 0 ∷ []))) (21 ∷ [])
    ∷ piece (triangles 5 4 (both_sides ++ (0 ∷ 3 ∷ 4 ∷ 4 ∷ 3 ∷ 0 ∷ []))) (22 ∷ [])
    ∷ []

orders-as-expected : all_of orders ≡ true
unfolding as_expected of_bits neg add sub le lt links_of
orders-as-expected = refl

-- ---- the tables afterwards

-- tables with one row more of each kind than two triangles need
abbrev roomy : Mesh
roomy =
    record {
      positions = replicate 12 two;
      points = replicate 12 7;
      edges = replicate 56 7;
      intervals = replicate 7 two;
      faces = replicate 15 7;
    }

two-triangles :
    build general_limits (triangles 3 2 both_sides) roomy
    ≡ record {
      answer = Ok (record { points = 3; edges = 3; faces = 2 });
      tables =
          record {
            positions = replicate 9 nought ++ replicate 3 two;
            points = 2 ∷ 2 ∷ 1 ∷ 2 ∷ 1 ∷ 1 ∷ 2 ∷ 2 ∷ 1 ∷ 7 ∷ 7 ∷ 7 ∷ [];
            edges = (0 ∷ 1 ∷ 0 ∷ 1 ∷ 2 ∷ 1 ∷ 1 ∷ 2 ∷ []) ++ (1 ∷ 2 ∷ 0 ∷ 1 ∷ 0 ∷ 2 ∷ 2 ∷ 0 ∷ [])
                ++ (2 ∷ 0 ∷ 0 ∷ 1 ∷ 1 ∷ 0 ∷ 0 ∷ 1 ∷ []) ++ replicate 24 0 ++ replicate 8 7;
            intervals = unit ∷ unit ∷ two ∷ nought ∷ nought ∷ nought ∷ two ∷ [];
            faces = (0 ∷ none ∷ none ∷ none ∷ none ∷ []) ++ (1 ∷ none ∷ none ∷ none ∷ none ∷ []) ++ replicate 5 7;
          };
    }
unfolding build of_bits neg add sub le lt links_of
two-triangles = refl

same_way :
    build general_limits (triangles 3 2 (0 ∷ 1 ∷ 2 ∷ 0 ∷ 1 ∷ 2 ∷ [])) roomy
    ≡ record {
      answer = Err SameWay;
      tables =
          record {
            positions = replicate 9 nought ++ replicate 3 two;
            points = replicate 9 0 ++ replicate 3 7;
            edges = replicate 48 0 ++ replicate 8 7;
            intervals = replicate 6 nought ++ replicate 1 two;
            faces = replicate 10 0 ++ replicate 5 7;
          };
    }
unfolding build of_bits neg add sub le lt links_of
same_way = refl
