-- Building computed on more pieces: a pyramid with distinct coordinates, a point of valence 4 and intervals that differ between the two
-- faces of an edge, word for word; 14 and 15 in one face; side sums that rounding decides.
use mathlib.Core.Path.{◌≡◌, refl}
use mathlib.Core.Bool.{true}
use mathlib.Core.List.{List, [], ◌∷◌, ◌++◌}
use Prim.Native.Nat.{ℕ, zero, suc, ◌+◌}
use lib.ListN.{replicate}
use lib.Ieee.{Float, of_bits, neg, add, sub, le, lt, binary64}
use Rattle.std.specs.Prelude.{Ok}
use Rattle.edge_links.specs.Connect.{links_of}
use Rattle.tables.specs.Mesh.{none}
use Rattle.built_meshes.specs.Lists.{Lists, general_limits}
use Rattle.built_meshes.specs.Building.{build}
use Rattle.building_claims.specs.Pieces.{unit, two, nought, back_to_back}
use Rattle.building_claims.proofs.Cases.{just_enough, Piece, piece, as_expected, all_of}
use Rattle.built_meshes.specs.declared.Version.TheVariants.{One}

-- n numbers, no two alike
abbrev numbers : ℕ → List Float
numbers zero = []
numbers (suc n) = of_bits binary64 (0x3ff0000000000000 + n) ∷ numbers n

-- Four triangles about point 4, with side sums 1, 1, 2, 0, and a square with other intervals below them.
abbrev pyramid : Lists
pyramid =
    record {
      version = One;
      coordinates = numbers 15;
      sides = 1 ∷ 1 ∷ 1 ∷ 0 ∷ 1 ∷ 1 ∷ 1 ∷ 0 ∷ 1 ∷ 1 ∷ 1 ∷ 0 ∷ 1 ∷ 1 ∷ 1 ∷ 0 ∷ 1 ∷ 1 ∷ 1 ∷ 1 ∷ [];
      firsts = [];
      listed = 0 ∷ 1 ∷ 4 ∷ 1 ∷ 2 ∷ 4 ∷ 2 ∷ 3 ∷ 4 ∷ 3 ∷ 0 ∷ 4 ∷ 3 ∷ 2 ∷ 1 ∷ 0 ∷ [];
      intervals = unit ∷ unit ∷ two ∷ unit ∷ unit ∷ two ∷ unit ∷ unit ∷ two ∷ unit ∷ unit ∷ two ∷ two ∷ two ∷ two ∷ two ∷ [];
    }

pyramid-built :
    build general_limits pyramid (just_enough pyramid)
    ≡ record {
      answer = Ok (record { points = 5; edges = 8; faces = 5 });
      tables =
          record {
            positions = numbers 15;
            points = 3 ∷ 7 ∷ 1 ∷ 3 ∷ 3 ∷ 1 ∷ 3 ∷ 5 ∷ 1 ∷ 3 ∷ 7 ∷ 1 ∷ 4 ∷ 6 ∷ 0 ∷ [];
            edges =
                (0 ∷ 1 ∷ 0 ∷ 4 ∷ 2 ∷ 1 ∷ 3 ∷ 7 ∷ []) ++ (1 ∷ 4 ∷ 0 ∷ 1 ∷ 0 ∷ 2 ∷ 4 ∷ 3 ∷ []) ++ (4 ∷ 0 ∷ 0 ∷ 3 ∷ 1 ∷ 0 ∷ 7 ∷ 6 ∷ [])
                ++ (1 ∷ 2 ∷ 1 ∷ 4 ∷ 1 ∷ 4 ∷ 5 ∷ 0 ∷ []) ++ (2 ∷ 4 ∷ 1 ∷ 2 ∷ 3 ∷ 1 ∷ 6 ∷ 5 ∷ []) ++ (2 ∷ 3 ∷ 2 ∷ 4 ∷ 4 ∷ 6 ∷ 7 ∷ 3 ∷ [])
                ++ (3 ∷ 4 ∷ 2 ∷ 3 ∷ 5 ∷ 4 ∷ 2 ∷ 7 ∷ []) ++ (3 ∷ 0 ∷ 3 ∷ 4 ∷ 6 ∷ 2 ∷ 0 ∷ 5 ∷ []) ++ replicate 64 0;
            intervals = unit ∷ unit ∷ two ∷ unit ∷ unit ∷ unit ∷ unit ∷ unit ∷ replicate 8 nought;
            faces =
                (0 ∷ replicate 4 none) ++ (3 ∷ replicate 4 none) ++ (5 ∷ replicate 4 none) ++ (7 ∷ replicate 4 none) ++ (5 ∷ replicate 4 none);
          };
    }
unfolding build of_bits neg add sub le lt links_of
pyramid-built = refl

-- ---- the order of the grounds, and rounding

-- triangles of four points, with side sums 1, 1, 2, 0
abbrev triangles : List ℕ → Lists
triangles ps =
    record {
      version = One;
      coordinates = numbers 12;
      sides = 1 ∷ 1 ∷ 1 ∷ 0 ∷ 1 ∷ 1 ∷ 1 ∷ 0 ∷ 1 ∷ 1 ∷ 1 ∷ 0 ∷ [];
      firsts = [];
      listed = ps;
      intervals = unit ∷ unit ∷ two ∷ unit ∷ unit ∷ two ∷ unit ∷ unit ∷ two ∷ [];
    }

-- two quadrilaterals back to back, with one interval a side
abbrev quadrilaterals : Float → Float → Float → Float → Lists
quadrilaterals a b c d = back_to_back 4 (1 ∷ 1 ∷ 1 ∷ 1 ∷ []) (a ∷ b ∷ c ∷ d ∷ [])

-- 1e17, 0.5 and 0.25
abbrev large : Float
large = of_bits binary64 0x4376345785d8a000

abbrev half : Float
half = of_bits binary64 0x3fe0000000000000

abbrev quarter : Float
quarter = of_bits binary64 0x3fd0000000000000

abbrev decided : List Piece
decided =
    -- the edge 1 2 has two faces: a third face that begins at 0 1 meets 15 there first, one that begins at 1 2 meets 14
    piece (triangles (0 ∷ 1 ∷ 2 ∷ 2 ∷ 1 ∷ 3 ∷ 0 ∷ 1 ∷ 2 ∷ [])) (15 ∷ [])
    ∷ piece (triangles (0 ∷ 1 ∷ 2 ∷ 2 ∷ 1 ∷ 3 ∷ 1 ∷ 2 ∷ 0 ∷ [])) (14 ∷ [])
    -- (s0 - s2) + s1 - s3: large sides go out against each other before the others are added
    ∷ piece (quadrilaterals large unit large unit) (4 ∷ 4 ∷ 2 ∷ [])
    ∷ piece (quadrilaterals large half large quarter) (13 ∷ [])
    ∷ []

decided-as-expected : all_of decided ≡ true
unfolding as_expected of_bits neg add sub le lt links_of
decided-as-expected = refl
