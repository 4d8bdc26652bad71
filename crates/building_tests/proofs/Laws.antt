-- The loops of building's tests. Assumes nothing.
--     sum-none, sum_more, side_sum-none, side_sum-more   sums likewise
--     size-read, sums-read                    the size and the side sums of a face from its sides
--     last-first, last_more   the last of b places before one, going round
--     fits_read               whether the first point of a side fits, as the code reads it
--     faces-few               the limits allow at most 4,096 faces
--     firsts_same             the count of the first points, of lists that agree in them and in the sides
--     size-some               a size that passes is not 0
--     verdict-is              the verdict on a face by its five tests
--     from_more, from-below                   where the points of a side begin, and that they begin within the face
use mathlib.Core.Path.{◌≡◌, refl, ap}
use mathlib.Core.Bool.{Bool, true, not, cond}
use mathlib.Core.List.{List, []}
use Prim.Native.Nat.{ℕ, zero, suc, ◌+◌, ◌-◌, ◌*◌, ◌≤◌, ◌<◌}
use mathlib.Core.Logic.{◌≢◌}
use native.Mathlib.Nat.{add-zero}
use native.Mathlib.Numerals.{add-one}
use native.Mathlib.Omega.{arith}
use lib.Ieee.{Float, nan, add, of_bits, binary64}
use lib.Dec.{eqb}
use lib.ListN.{get_or}
use Rattle.built_meshes.specs.declared.Ground.{Ground}
use Rattle.std.specs.Prelude.{Result, Ok, Err, ⊤}
use Rattle.closed_meshes.specs.Renumbering.{sum_to}
use Rattle.audited_meshes.proofs.Tests.{and_is, leb-is}
use Rattle.built_meshes.specs.Lists.{size, firsts_counted}
use Rattle.built_meshes.specs.Faces.{size_fit, listed_in_range, no_point_twice, side_from, last_before, first_fit, firsts_fit, side_sum, sums_agree, sums_fit, face_verdict}
use Rattle.built_meshes.specs.declared.Version.{Version}
use Rattle.built_meshes.specs.declared.Version.TheVariants.{One, Two}
use Rattle.built_meshes.specs.declared.Ground.TheVariants.{FaceSize, OutOfRange, PointTwice, FirstPoint, NonRectangularFace}
use Rattle.building_tests.specs.Lent.{lists, lists_in, limits_of}
use Rattle.building_tests.specs.declared.Bounds.{Bounds}
use Rattle.building_tests.specs.declared.Bounds.TheVariants.{General, Refine}
use Rattle.tables.specs.declared.Sizes.{Sizes}

pub sum-none : (g : ℕ → ℕ) → sum_to 0 g ≡ 0
unfolding sum_to
sum-none g = refl

pub sum_more : (k : ℕ) (g : ℕ → ℕ) → sum_to (k + 1) g ≡ sum_to k g + g k
unfolding sum_to
sum_more k g = rw (add-one k)

pub side_sum-none : (is : List Float) (a : ℕ) → side_sum is a 0 ≡ of_bits binary64 0
unfolding side_sum
side_sum-none is a = refl

pub side_sum-more : (is : List Float) (a k : ℕ) → side_sum is a (k + 1) ≡ add binary64 (side_sum is a k) (get_or is (a + k) nan)
unfolding side_sum
side_sum-more is a k = rw (add-one k)

-- the four sides as the code reads them
module _ (ss : List ℕ) (f : ℕ) {a b c d : ℕ} (ea : a ≡ get_or ss (f * 4) 0) (eb : b ≡ get_or ss (f * 4 + 1) 0)
    (ec : c ≡ get_or ss (f * 4 + 2) 0) (ed : d ≡ get_or ss (f * 4 + 3) 0) where
  pub size-read : a + b + c + d ≡ size (lists [] ss [] []) f
  size-read = rw (ea, eb, ec, ed, add-zero (f * 4))

  -- whether the sums agree that the code takes
  pub sums-read : (w : Version) (is : List Float) (at : ℕ) {s t u v : Float} → s ≡ side_sum is at a → t ≡ side_sum is (at + a) b
      → u ≡ side_sum is (at + a + b) c → v ≡ side_sum is (at + a + b + c) d
      → sums_agree w s t u v ≡ sums_fit w (lists [] ss [] is) f at
  unfolding sums_fit
  sums-read w is at es et eu ev = rw (es, et, eu, ev, ea, eb, ec, ed, add-zero (f * 4))

-- where the points of the sides begin
pub from_more : (ss fs ls : List ℕ) (f k : ℕ) (v : Version) → side_from (lists_in v [] ss fs ls []) f 0 (k + 1) ≡ side_from (lists_in v [] ss fs ls []) f 0 k + get_or ss (f * 4 + k) 0
from_more ss fs ls f k v = rw (add-one k)

from-size : (ss fs ls : List ℕ) (f k : ℕ) (v : Version) → k < 4 → side_from (lists_in v [] ss fs ls []) f 0 k ≤ size (lists [] ss [] []) f
from-size ss fs ls f zero v h = omega arith
from-size ss fs ls f (suc zero) v h = omega arith
from-size ss fs ls f (suc (suc zero)) v h = omega arith
from-size ss fs ls f (suc (suc (suc zero))) v h = omega arith
from-size ss fs ls f (suc (suc (suc (suc k)))) v h = absurd (omega arith)

pub from-below : (ss fs ls : List ℕ) (f k : ℕ) {b n : ℕ} → n ≡ size (lists [] ss [] []) f → b ≡ side_from (lists_in Two [] ss fs ls []) f 0 k → k < 4 → b ≤ n
from-below ss fs ls f k e eb h = rw (e, eb) (from-size ss fs ls f k Two h)

-- the last of b places before one, going round
pub last-first : (n b : ℕ) → b ≡ 0 → n - 1 ≡ last_before n b
last-first n b e = rw e

pub last_more : (n b : ℕ) → b ≢ 0 → b - 1 ≡ last_before n b
last_more n zero h = absurd (h refl)
last_more n (suc b) h = omega arith

-- whether the first point of side k of face f fits, as the code reads it where b points are listed before the side
abbrev pub fits : List ℕ → List ℕ → List ℕ → ℕ → ℕ → ℕ → Bool
fits ss fs ls f a k = first_fit (lists_in Two [] ss fs ls []) f a k

pub fits_read : (ss fs ls : List ℕ) (f a n k b : ℕ) {r : Bool} → n ≡ size (lists [] ss [] []) f → b ≡ side_from (lists_in Two [] ss fs ls []) f 0 k →
    r ≡ eqb (get_or fs (f * 4 + k) 0) (get_or ls (a + last_before n b) 0) → r ≡ fits ss fs ls f a k
fits_read ss fs ls f a n k b e eb er = rw (eb, e) at er

pub faces-few : (b : Bounds) (s : Sizes) → s ≡ limits_of b → s.faces ≤ 4096
faces-few General s e = let h : s.faces ≡ 4096 = ap (λ (c : Sizes). c.faces) e in omega arith
faces-few Refine s e = let h : s.faces ≡ 64 = ap (λ (c : Sizes). c.faces) e in omega arith

-- whether there are as many first points as sides does not ask for the other lists
pub firsts_same : (v : Version) (cs : List Float) (ss fs ls : List ℕ) (is : List Float) →
    firsts_counted v (lists_in v [] ss fs [] []) ≡ firsts_counted v (lists_in v cs ss fs ls is)
firsts_same One cs ss fs ls is = refl
firsts_same Two cs ss fs ls is = refl

-- a size that passes is not 0
pub size-some : (n : ℕ) → size_fit n ≡ true → 0 < n
size-some n h = let z = ((and_is (leb-is 3 n) (leb-is n 64)).0 h).0 in omega arith

-- the verdict by the five tests
abbrev pub verdict_by : Bool → Bool → Bool → Bool → Bool → Result ⊤ Ground
verdict_by size points new firsts sums =
    cond (not size) (Err FaceSize)
    (cond (not points) (Err OutOfRange) (cond (not new) (Err PointTwice)
    (cond (not firsts) (Err FirstPoint) (cond (not sums) (Err NonRectangularFace) (Ok tt)))))

pub verdict-is : (v : Version) (cs : List Float) (ss fs ls : List ℕ) (is : List Float) (np f a n : ℕ) → n ≡ size (lists [] ss [] []) f
    → face_verdict (lists_in v cs ss fs ls is) np f a
    ≡ verdict_by (size_fit n) (listed_in_range (lists [] [] ls []) np a n) (no_point_twice (lists [] [] ls []) a n)
    (firsts_fit v (lists_in v [] ss fs ls []) f a) (sums_fit v (lists [] ss [] is) f a)
unfolding face_verdict listed_in_range no_point_twice firsts_fit sums_fit
verdict-is One cs ss fs ls is np f a n e = rw e
verdict-is Two cs ss fs ls is np f a n e = rw e
