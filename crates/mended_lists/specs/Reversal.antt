-- Faces turned round: the sides in opposite order, each side backwards, each interval staying on its pair of points. Of a face with the
-- listed points q0 .. q(n-1), the intervals d0 .. d(n-1) beside them and the side lengths s0 .. s3:
--     turned_point n i       which listed point comes i-th: q(n-2) .. q0, q(n-1)
--     turned_interval n i    which interval: d(n-1) .. d0
--     turned_side k          which side length: s3 .. s0
--     turned_first k         which first point: 0, 3, 2, 1
--     Choice                which faces are turned
--     reversed c l          the lists l with the faces of the choice c turned
use Rattle.std.specs.Prelude.{Bool, cond, ℕ, suc, ◌-◌, eqb}
use Rattle.built_meshes.specs.Lists.{Lists, faces_of, side_length, size, offset}
use Rattle.built_meshes.specs.Faces.{first_at}
use Rattle.built_meshes.specs.Places.{point_of, beside_of}
use Rattle.mended_lists.specs.InTurn.{in_turn}

abbrev pub turned_point : ℕ → ℕ → ℕ
turned_point n i = cond (eqb (suc i) n) i (n - 2 - i)

abbrev pub turned_interval : ℕ → ℕ → ℕ
turned_interval n i = n - 1 - i

abbrev pub turned_side : ℕ → ℕ
turned_side k = 3 - k

abbrev pub turned_first : ℕ → ℕ
turned_first k = cond (eqb k 0) 0 (4 - k)

abbrev pub Choice : Type 0
Choice = ℕ → Bool

unfoldable pub reversed : Choice → Lists → Lists
unfolding in_turn offset
reversed c l =
    record {
      version = l.version;
      coordinates = l.coordinates;
      sides = in_turn (faces_of l) (λ f. 4) (λ f k. side_length l f (cond (c f) (turned_side k) k));
      firsts = in_turn (faces_of l) (λ f. 4) (λ f k. first_at l f (cond (c f) (turned_first k) k));
      listed = in_turn (faces_of l) (λ f. size l f) (λ f i. point_of l f (cond (c f) (turned_point (size l f) i) i));
      intervals = in_turn (faces_of l) (λ f. size l f) (λ f i. beside_of l f (cond (c f) (turned_interval (size l f) i) i));
    }
