-- The places of all faces, in their order: place i of face f is the edge from its point i to its point i + 1, round to the start.
--     FacePlace             a place: its face, and the points that it runs from and to
--     listed_place l f i         place i of face f
--     places_of l            all places, faces in number order
--     place_at ps k          place k of the places ps
--     same_way a b           both places run from one point
--     same_edge a b          both places join the same two points, in either direction
--     latest test n         1 more than the last number below n that passes the test, or 0
--     mate ps k             1 more than the last place before place k that is on its edge, or 0
--     third ps k            two places before place k are on its edge: ground 14
--     follower ps n k       1 more than the last of n places whose mate is place k, or 0
--     lone ps k             no other place is on its edge: ground 20
use Rattle.std.specs.Prelude.{Bool, false, not, cond, ◌&&◌, ◌||◌, List, ℕ, zero, suc, eqb, length, get_or}
use Rattle.built_meshes.specs.Lists.{Lists, faces_of, size, offset}
use Rattle.built_meshes.specs.Places.{point_of, next_of}
use Rattle.mended_lists.specs.InTurn.{in_turn}

pub record FacePlace : Type 0 where
  pub face : ℕ
  pub from : ℕ
  pub to : ℕ

abbrev pub listed_place : Lists → ℕ → ℕ → FacePlace
listed_place l f i = record { face = f; from = point_of l f i; to = next_of l f i }

unfoldable pub places_of : Lists → List FacePlace
unfolding in_turn offset
places_of l = in_turn (faces_of l) (λ f. size l f) (λ f i. listed_place l f i)

abbrev pub place_at : List FacePlace → ℕ → FacePlace
place_at ps k = get_or ps k (record { face = 0; from = 0; to = 0 })

abbrev pub same_way : FacePlace → FacePlace → Bool
same_way a b = eqb a.from b.from

abbrev pub same_edge : FacePlace → FacePlace → Bool
same_edge a b = eqb a.from b.from && eqb a.to b.to || eqb a.from b.to && eqb a.to b.from

unfoldable pub latest : (ℕ → Bool) → ℕ → ℕ
latest test zero = 0
latest test (suc n) = cond (test n) (suc n) (latest test n)

unfoldable pub mate : List FacePlace → ℕ → ℕ
mate ps k = latest (λ j. same_edge (place_at ps j) (place_at ps k)) k

-- the last place before place k on its edge has one before it as well
abbrev pub has_mate : List FacePlace → ℕ → Bool
has_mate ps zero = false
has_mate ps (suc j) = not (eqb (mate ps j) 0)

unfoldable pub third : List FacePlace → ℕ → Bool
third ps k = has_mate ps (mate ps k)

unfoldable pub follower : List FacePlace → ℕ → ℕ → ℕ
follower ps n k = latest (λ i. eqb (mate ps i) (suc k)) n

unfoldable pub lone : List FacePlace → ℕ → Bool
lone ps k = eqb (mate ps k) 0 && eqb (follower ps (length ps) k) 0
