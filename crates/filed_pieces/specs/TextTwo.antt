-- Pieces of document 02, §4: lists of both versions, and the numbers that building must answer.
--     FiledLists             lists, and the answer
--     answer_to l             what building answers to the lists l
--     text_two                their list
--     AsFiled2               every one is answered so
--     TurnedIntervals        the intervals of two triangles in version 2 and in version 1, edge by edge
use Rattle.std.specs.Prelude.{◌≡◌, List, [], ◌∷◌, ◌++◌, map, ℕ, replicate, Float}
use Rattle.std.specs.Float.Ieee.{of_bits}
use Rattle.std.specs.Float.{binary64}
use Rattle.built_meshes.specs.Lists.{Lists, general_limits, rows_of}
use Rattle.built_meshes.specs.Answers.{built_numbers}
use Rattle.built_meshes.specs.Building.{build}
use Rattle.building_claims.specs.Pieces.{unit, two, nought, tiny, back_to_back, with_firsts}
use Rattle.built_meshes.specs.declared.Version.TheVariants.{One, Two}
use Rattle.filed_pieces.specs.Pieces.{used}

pub record FiledLists : Type 0 where
  pub lists : Lists
  pub answer : List ℕ

unfoldable pub answer_to : Lists → List ℕ
unfolding build
answer_to l = built_numbers (build general_limits l (used (rows_of l))).answer

abbrev pub filed : Lists → List ℕ → FiledLists
filed l ns = record { lists = l; answer = ns }

-- 0.25, 0.5, 1.5 and 1e17
abbrev pub one_quarter : Float
one_quarter = of_bits binary64 0x3fd0000000000000

abbrev pub one_half : Float
one_half = of_bits binary64 0x3fe0000000000000

abbrev pub three_halves : Float
three_halves = of_bits binary64 0x3ff8000000000000

abbrev pub large : Float
large = of_bits binary64 0x4376345785d8a000

-- two quadrilaterals back to back, with one interval a side; and in version 2
abbrev pub quadrilaterals : Float → Float → Float → Float → Lists
quadrilaterals a b c d = back_to_back 4 (1 ∷ 1 ∷ 1 ∷ 1 ∷ []) (a ∷ b ∷ c ∷ d ∷ [])

abbrev pub quadrilaterals2 : Float → Float → Float → Float → Lists
quadrilaterals2 a b c d = with_firsts (3 ∷ 0 ∷ 1 ∷ 2 ∷ 0 ∷ 3 ∷ 2 ∷ 1 ∷ []) (quadrilaterals a b c d)

-- two triangles back to back, whose second and fourth sides are empty
abbrev pub empty_sided : Float → Float → Float → Lists
empty_sided a b c = back_to_back 3 (2 ∷ 0 ∷ 1 ∷ 0 ∷ []) (a ∷ b ∷ c ∷ [])

-- one triangle with a point twice, in version 2 with first points that are no points
abbrev pub point_twice : Lists
point_twice =
    record {
      version = Two;
      coordinates = replicate 9 unit;
      sides = 1 ∷ 1 ∷ 1 ∷ 0 ∷ [];
      firsts = 9 ∷ 9 ∷ 9 ∷ 9 ∷ [];
      listed = 0 ∷ 1 ∷ 0 ∷ [];
      intervals = unit ∷ unit ∷ two ∷ [];
    }

-- the lists l with first points, in version 1
abbrev pub with_firsts1 : List ℕ → Lists → Lists
with_firsts1 fs l = record { version = One; coordinates = l.coordinates; sides = l.sides; firsts = fs; listed = l.listed; intervals = l.intervals }

unfoldable pub text_two : List FiledLists
text_two =
    -- sums 1, 2, 2, 1 pass version 1 and meet 13 in version 2
    filed (quadrilaterals unit two two unit) (4 ∷ 4 ∷ 2 ∷ [])
    ∷ filed (quadrilaterals2 unit two two unit) (13 ∷ [])
    -- t, t, 0, 0 the other way round
    ∷ filed (quadrilaterals tiny tiny nought nought) (13 ∷ [])
    ∷ filed (quadrilaterals2 tiny tiny nought nought) (4 ∷ 4 ∷ 2 ∷ [])
    -- 0.5, 1e17, 0.25, 1e17: 0.25 is lost beside 1e17 in version 1
    ∷ filed (quadrilaterals one_half large one_quarter large) (4 ∷ 4 ∷ 2 ∷ [])
    ∷ filed (quadrilaterals2 one_half large one_quarter large) (13 ∷ [])
    -- two triangles with sums 2, 0, 2, 0 pass
    ∷ filed (with_firsts (2 ∷ 1 ∷ 1 ∷ 2 ∷ 0 ∷ 1 ∷ 1 ∷ 0 ∷ []) (empty_sided unit unit two)) (3 ∷ 3 ∷ 2 ∷ [])
    -- the first point of an empty side disagrees; of the first side; of the last face's last side
    ∷ filed (with_firsts (2 ∷ 2 ∷ 1 ∷ 2 ∷ 0 ∷ 1 ∷ 1 ∷ 0 ∷ []) (empty_sided unit unit two)) (43 ∷ [])
    ∷ filed (with_firsts (0 ∷ 1 ∷ 1 ∷ 2 ∷ 0 ∷ 1 ∷ 1 ∷ 0 ∷ []) (empty_sided unit unit two)) (43 ∷ [])
    ∷ filed (with_firsts (2 ∷ 1 ∷ 1 ∷ 2 ∷ 0 ∷ 1 ∷ 1 ∷ 1 ∷ []) (empty_sided unit unit two)) (43 ∷ [])
    -- a first point out of range is 43, not 11
    ∷ filed (with_firsts (9 ∷ 0 ∷ 1 ∷ 2 ∷ 0 ∷ 3 ∷ 2 ∷ 1 ∷ []) (quadrilaterals unit unit unit unit)) (43 ∷ [])
    -- 12 before 43, 43 before 13
    ∷ filed point_twice (12 ∷ [])
    ∷ filed (with_firsts (9 ∷ 0 ∷ 1 ∷ 2 ∷ 0 ∷ 3 ∷ 2 ∷ 1 ∷ []) (quadrilaterals unit two two unit)) (43 ∷ [])
    -- another number of first points than of sides is 2; version 1 does not look at them
    ∷ filed (with_firsts (3 ∷ 0 ∷ 1 ∷ 2 ∷ 0 ∷ 3 ∷ 2 ∷ []) (quadrilaterals unit unit unit unit)) (2 ∷ [])
    ∷ filed (with_firsts [] (quadrilaterals unit unit unit unit)) (2 ∷ [])
    ∷ filed (with_firsts1 (9 ∷ []) (quadrilaterals unit unit unit unit)) (4 ∷ 4 ∷ 2 ∷ [])
    ∷ []

abbrev pub AsFiled2 : Type 0
AsFiled2 = map (λ x. answer_to x.lists) text_two ≡ map (λ x. x.answer) text_two

-- the intervals that a build leaves in the rows that ground 4 counts
unfoldable pub intervals_left : Lists → List Float
unfolding build
intervals_left l = (build general_limits l (used (rows_of l))).tables.intervals

pub record TurnedIntervals : Type 0 where
  pub version-1 : intervals_left (empty_sided one_half three_halves two) ≡ one_half ∷ three_halves ∷ two ∷ replicate 3 nought
  pub version-2 :
      intervals_left (with_firsts (2 ∷ 1 ∷ 1 ∷ 2 ∷ 0 ∷ 1 ∷ 1 ∷ 0 ∷ []) (empty_sided one_half three_halves two)) ≡ three_halves ∷ two ∷ one_half ∷ replicate 3 nought
