-- The tests of one face: grounds 10 to 13 and 43. The listed points of face f stand from the place a on.
--     listed_at l a i          the listed point i of the face whose points stand from a on
--     size_fit n               3 to 64 points: else ground 10
--     listed_in_range           all listed points are point numbers: else 11
--     no_point_twice            no point is listed twice: else 12
--     side_sum is a k          the sum of the k intervals from place a on, from +0 in listed order
--     side_from l f a k        the place from which the points of side k are listed
--     last_before n b          of n places going round, the one before which b places stand, and that is the last of these
--     first_fit                the first point of side k is the point listed last before it, going round
--     firsts_fit               so is every side's, in version 2: else 43
--     sums_agree v s0 s1 s2 s3 s0 - s2 + s1 - s3 is small in version 1; s0 - s2 and s1 - s3 are in version 2
--     sums_fit                 the sums of the four sides agree: else 13
--     face_verdict             the first of these grounds that holds of face f
use Rattle.std.specs.Prelude.{Bool, true, not, ◌&&◌, cond, List, ℕ, zero, suc, ◌+◌, ◌-◌, ◌*◌, eqb, ltb, leb, get_or, Float, Result, Ok, Err, ⊤}
use Rattle.built_meshes.specs.declared.Ground.{Ground}
use Rattle.std.specs.Float.{nan, binary64}
use Rattle.std.specs.Float.Ieee.{add, sub, of_bits}
use Rattle.positions.specs.Position.{small}
use Rattle.tables.specs.Layout.{longest_perimeter}
use Rattle.audited_meshes.specs.Folds.{every}
use Rattle.built_meshes.specs.Lists.{Lists, side_length, size}
use Rattle.built_meshes.specs.declared.Version.{Version}
use Rattle.built_meshes.specs.declared.Version.TheVariants.{One, Two}
use Rattle.built_meshes.specs.declared.Ground.TheVariants.{FaceSize, OutOfRange, PointTwice, FirstPoint, NonRectangularFace}

abbrev pub listed_at : Lists → ℕ → ℕ → ℕ
listed_at l a i = get_or l.listed (a + i) 0

abbrev pub size_fit : ℕ → Bool
size_fit n = leb 3 n && leb n longest_perimeter

unfoldable pub listed_in_range : Lists → ℕ → ℕ → ℕ → Bool
unfolding every
listed_in_range l np a n = every n (λ i. ltb (listed_at l a i) np)

unfoldable pub no_point_twice : Lists → ℕ → ℕ → Bool
unfolding every
no_point_twice l a n = every n (λ i. every i (λ j. not (eqb (listed_at l a i) (listed_at l a j))))

unfoldable pub side_sum : List Float → ℕ → ℕ → Float
side_sum is a zero = of_bits binary64 0
side_sum is a (suc k) = add binary64 (side_sum is a k) (get_or is (a + k) nan)

-- ---- the places where the versions differ

abbrev pub side_from : Lists → ℕ → ℕ → ℕ → ℕ
side_from l f a zero = a
side_from l f a (suc k) = side_from l f a k + side_length l f k

abbrev pub last_before : ℕ → ℕ → ℕ
last_before n zero = n - 1
last_before n (suc b) = b

abbrev pub first_at : Lists → ℕ → ℕ → ℕ
first_at l f k = get_or l.firsts (f * 4 + k) 0

-- an empty side's first point too: over empty sides it is the nearest listed point back
abbrev pub first_fit : Lists → ℕ → ℕ → ℕ → Bool
first_fit l f a k = eqb (first_at l f k) (listed_at l a (last_before (size l f) (side_from l f 0 k)))

unfoldable pub firsts_fit : Version → Lists → ℕ → ℕ → Bool
unfolding every
firsts_fit One l f a = true
firsts_fit Two l f a = every 4 (λ k. first_fit l f a k)

-- each operation rounded once
abbrev pub sums_agree : Version → Float → Float → Float → Float → Bool
sums_agree One s0 s1 s2 s3 = small (sub binary64 (add binary64 (sub binary64 s0 s2) s1) s3)
sums_agree Two s0 s1 s2 s3 = small (sub binary64 s0 s2) && small (sub binary64 s1 s3)

abbrev pub sum_of_side : Lists → ℕ → ℕ → ℕ → Float
sum_of_side l f a k = side_sum l.intervals (side_from l f a k) (side_length l f k)

unfoldable pub sums_fit : Version → Lists → ℕ → ℕ → Bool
unfolding side_sum
sums_fit v l f a = sums_agree v (sum_of_side l f a 0) (sum_of_side l f a 1) (sum_of_side l f a 2) (sum_of_side l f a 3)

-- ---- the verdict

unfoldable pub face_verdict : Lists → ℕ → ℕ → ℕ → Result ⊤ Ground
unfolding listed_in_range no_point_twice firsts_fit sums_fit
face_verdict l np f a =
    cond (not (size_fit (size l f))) (Err FaceSize)
    (cond (not (listed_in_range l np a (size l f))) (Err OutOfRange)
    (cond (not (no_point_twice l a (size l f))) (Err PointTwice)
    (cond (not (firsts_fit l.version l f a)) (Err FirstPoint)
    (cond (not (sums_fit l.version l f a)) (Err NonRectangularFace) (Ok tt)))))
