-- When each ground is met, of the lists l within the limits c and of the lent tables m: document 01's table "Refused if" and document 02, §4, by the place
-- of the check. A place is an edge of a face as the lists give it, so 14, 15, 20, 21 and 22 speak of the lists alone.
--     IsOverCounts .. HasMissedEdge     the conditions of the grounds of the lists and of the whole
--     LastBefore, SumsApart        those of 43 and 13
--     Turns, Chain                   about a point: the place that runs back the one before; a chain of such places
--     Where                          where a check stands: the lists, a face, an edge of a face, the whole
--     Met c l m w g                  the ground g is met at the check w
--     Before w g w' g'               the documents' order: faces in number order, 10, 11, 12, 43, 13 per face, then its edges in turn
--     FirstMet c l m w g            it is met, and none is met before it
--     Holds c l m g                  the ground g is met somewhere
use Rattle.std.specs.Prelude.{◌≡◌, false, ◌⊎◌, ◌≢◌, List, [], ◌∷◌, ℕ, suc, ◌%◌, ◌<◌, ◌≤◌, length, get_or, Float}
use Rattle.std.specs.Float.{nan, binary64}
use Rattle.std.specs.Float.Ieee.{add, sub}
use Rattle.std.specs.Float.Ieee.Scale.{finite}
use Rattle.perimeters.specs.Places.{prev_place}
use Rattle.positions.specs.Position.{small}
use Rattle.tables.specs.Layout.{position_width, longest_perimeter}
use Rattle.tables.specs.Mesh.{Mesh, point_rows, edge_rows, face_rows}
use Rattle.closed_meshes.specs.Renumbering.{sum_to}
use Rattle.audited_meshes.specs.Audit.{interval_fit}
use Rattle.built_meshes.specs.Lists.{Lists, points_of, faces_of, size, offset}
use Rattle.tables.specs.declared.Sizes.{Sizes}
use Rattle.built_meshes.specs.Faces.{side_from, first_at, sum_of_side}
use Rattle.built_meshes.specs.Places.{point_of, IsPlace, Runs, Between, Differ, Earlier}
use Rattle.built_meshes.specs.declared.Version.{Version}
use Rattle.built_meshes.specs.declared.Version.TheVariants.{One, Two}
use Rattle.built_meshes.specs.declared.Ground.{Ground}
use Rattle.built_meshes.specs.declared.Ground.TheVariants.{OverCounts, UnfitNumber, FewRows, FaceSize, OutOfRange, PointTwice}
use Rattle.built_meshes.specs.declared.Ground.TheVariants.{FirstPoint, NonRectangularFace, EdgeTripleFace, SameWay, MissingFace, NoEdge, MissedEdge}

-- 2: over the limits, or list lengths disagree
pub data IsOverCounts (c : Sizes) (l : Lists) : Type 0 where
  many-points : c.points < points_of l → IsOverCounts c l
  many-faces : c.faces < faces_of l → IsOverCounts c l
  many-listed : c.listed < length l.listed → IsOverCounts c l
  point-cut : length l.coordinates % position_width ≢ 0 → IsOverCounts c l
  face-cut : length l.sides % 4 ≢ 0 → IsOverCounts c l
  unlike : length l.listed ≢ length l.intervals → IsOverCounts c l
  sum-unlike : sum_to (length l.sides) (λ k. get_or l.sides k 0) ≢ length l.listed → IsOverCounts c l
  firsts-unlike : l.version ≡ Two → length l.firsts ≢ length l.sides → IsOverCounts c l

-- 3: not finite, or an interval's sign bit set
pub data HasUnfitNumber (l : Lists) : Type 0 where
  coordinate-unfit : (k : ℕ) → k < length l.coordinates → finite (get_or l.coordinates k nan) ≡ false → HasUnfitNumber l
  interval-unfit : (k : ℕ) → k < length l.intervals → interval_fit (get_or l.intervals k nan) ≡ false → HasUnfitNumber l

-- 4: fewer rows than points, faces, or listed points for edges
pub data HasFewRows (l : Lists) (m : Mesh) : Type 0 where
  few-points : point_rows m < points_of l → HasFewRows l m
  few-faces : face_rows m < faces_of l → HasFewRows l m
  few-edges : edge_rows m < length l.listed → HasFewRows l m

-- place j of face f is the one listed last before its side k, going round: over empty sides the nearest one back
abbrev pub LastBefore : Lists → ℕ → ℕ → ℕ → Type 0
LastBefore l f k j = (suc j ≡ side_from l f 0 k) ⊎ ((side_from l f 0 k ≡ 0) × (suc j ≡ size l f))

-- 13: of the side sums
pub data SumsApart (s0 s1 s2 s3 : Float) : Version → Type 0 where
  together : small (sub binary64 (add binary64 (sub binary64 s0 s2) s1) s3) ≡ false → SumsApart s0 s1 s2 s3 One
  first-pair : small (sub binary64 s0 s2) ≡ false → SumsApart s0 s1 s2 s3 Two
  second-pair : small (sub binary64 s1 s3) ≡ false → SumsApart s0 s1 s2 s3 Two

-- 20: an edge with one face: no place runs back
pub record HasMissingFace (l : Lists) : Type 0 where
  pub p : ℕ
  pub q : ℕ
  pub f : ℕ
  pub i : ℕ
  pub runs : Runs l f i p q
  pub none-back : (g j : ℕ) → ¬ Runs l g j q p

-- 21: a point with no edge: no place begins there
pub record HasNoEdge (l : Lists) : Type 0 where
  pub point : ℕ
  pub is-point : point < points_of l
  pub none-begins : (f i : ℕ) → IsPlace l f i → point_of l f i ≢ point

-- place j of face g begins where place i of face f begins, and runs back the place before it
abbrev pub Turns : Lists → ℕ → ℕ → ℕ → ℕ → Type 0
Turns l f i g j = Runs l g j (point_of l f i) (point_of l f (prev_place (size l f) i))

pub data Chain (l : Lists) (f i : ℕ) : ℕ → ℕ → Type 0 where
  here : Chain l f i f i
  further : {g j h k : ℕ} → Chain l f i g j → Turns l g j h k → Chain l f i h k

-- 22: a point walk misses an edge: two places begin at the point, and no chain joins them
pub record HasMissedEdge (l : Lists) : Type 0 where
  pub f : ℕ
  pub i : ℕ
  pub g : ℕ
  pub j : ℕ
  pub first-place : IsPlace l f i
  pub second-place : IsPlace l g j
  pub same_point : point_of l g j ≡ point_of l f i
  pub apart : ¬ Chain l f i g j

pub data Where : Type 0 where
  lists : Where
  face : ℕ → Where
  edge : ℕ → ℕ → Where
  whole : Where

pub data Met (c : Sizes) (l : Lists) (m : Mesh) : Where → Ground → Type 0 where
  over-counts : IsOverCounts c l → Met c l m lists OverCounts
  unfit-number : HasUnfitNumber l → Met c l m lists UnfitNumber
  few-rows : HasFewRows l m → Met c l m lists FewRows
  -- 10: n below 3 or over 64
  face-size : (f : ℕ) → f < faces_of l → (size l f < 3) ⊎ (longest_perimeter < size l f) → Met c l m (face f) FaceSize
  -- 11: point number out of range
  out_of_range : (f i : ℕ) → IsPlace l f i → points_of l ≤ point_of l f i → Met c l m (face f) OutOfRange
  -- 12: a point twice
  point-twice : (f i j : ℕ) → IsPlace l f i → j < i → point_of l f i ≡ point_of l f j → Met c l m (face f) PointTwice
  -- 43: a side's first point disagrees
  first-point : (f k j : ℕ) → l.version ≡ Two → f < faces_of l → k < 4 → LastBefore l f k j → first_at l f k ≢ point_of l f j → Met c l m (face f) FirstPoint
  -- 13: side sums s0-s2+s1-s3 not small; in version 2 s0-s2 or s1-s3
  non-rectangular :
      (f : ℕ) → f < faces_of l →
      SumsApart (sum_of_side l f (offset l f) 0) (sum_of_side l f (offset l f) 1) (sum_of_side l f (offset l f) 2) (sum_of_side l f (offset l f) 3) l.version →
      Met c l m (face f) NonRectangularFace
  -- 14: has two faces already: two earlier places join its points
  triple-face :
      (f i g j h k p q : ℕ) → Runs l f i p q → Between l g j p q → Between l h k p q → Earlier g j f i → Earlier h k f i → Differ g j h k →
      Met c l m (edge f i) EdgeTripleFace
  -- 15: second face runs the same way: so does an earlier place
  same_way : (f i g j p q : ℕ) → Runs l f i p q → Runs l g j p q → Earlier g j f i → Met c l m (edge f i) SameWay
  missing-face : HasMissingFace l → Met c l m whole MissingFace
  no_edge : HasNoEdge l → Met c l m whole NoEdge
  missed-edge : HasMissedEdge l → Met c l m whole MissedEdge

-- lists of numbers, the first ones first
abbrev pub Less : List ℕ → List ℕ → Type 0
Less [] ns = ⊥
Less (k ∷ ks) [] = ⊥
Less (k ∷ ks) (n ∷ ns) = (k < n) ⊎ ((k ≡ n) × Less ks ns)

-- the turn of a ground among the checks at one place: 43 comes after 12 and before 13, and 10 to 12 make room for it
abbrev pub rank : Ground → ℕ
rank OverCounts = 2
rank UnfitNumber = 3
rank FewRows = 4
rank FaceSize = 9
rank OutOfRange = 10
rank PointTwice = 11
rank FirstPoint = 12
rank NonRectangularFace = 13
rank EdgeTripleFace = 14
rank SameWay = 15
rank MissingFace = 20
rank NoEdge = 21
rank MissedEdge = 22

abbrev pub turn_of : Where → Ground → List ℕ
turn_of lists g = 0 ∷ rank g ∷ []
turn_of (face f) g = 1 ∷ f ∷ 0 ∷ rank g ∷ []
turn_of (edge f i) g = 1 ∷ f ∷ suc i ∷ rank g ∷ []
turn_of whole g = 2 ∷ rank g ∷ []

abbrev pub Before : Where → Ground → Where → Ground → Type 0
Before w g w' g' = Less (turn_of w g) (turn_of w' g')

pub record FirstMet (c : Sizes) (l : Lists) (m : Mesh) (w : Where) (g : Ground) : Type 0 where
  pub met : Met c l m w g
  pub none_before : (w' : Where) (g' : Ground) → Before w' g' w g → ¬ Met c l m w' g'

abbrev pub Holds : Sizes → Lists → Mesh → Ground → Type 0
Holds c l m g = (w : Where) × Met c l m w g
