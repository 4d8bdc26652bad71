-- The first ground that is met in the faces of lists, face by face, with its place.
--     then_spot s t          s, or t where nothing is met before
--     runs_with_mate          the last place before on its edge runs the same way
--     edge_spot ps f a i     14, then 15, at place i of face f, whose places stand from a on
--     edges_spot ps f a n    the first among its n places
--     face_spot l ps f       10, 11, 12, 43, 13 of face f, then the grounds of its edges
--     faces_spot l ps k      the first among the first k faces
--     first_spot l           the first among all faces
--     spotted c l           that of lists within the limits c: none where 2 or 3 is met
--     where_of s             the check that it stands for: nothing in the faces leaves the whole
use Rattle.std.specs.Prelude.{Bool, true, false, List, ℕ, zero, suc, ◌+◌, Result, Ok, Err, ⊤}
use Rattle.built_meshes.specs.declared.Ground.{Ground}
use Rattle.tables.specs.declared.Sizes.{Sizes}
use Rattle.built_meshes.specs.Lists.{Lists, points_of, faces_of, size, offset, counts_fit, listed_fit}
use Rattle.built_meshes.specs.Faces.{face_verdict}
use Rattle.built_meshes.specs.Grounds.{Where, face, edge, whole}
use Rattle.built_meshes.specs.declared.Ground.TheVariants.{EdgeTripleFace, SameWay}
use Rattle.mended_lists.specs.Edges.{FacePlace, places_of, place_at, same_way, mate, third}
use Rattle.refusal_places.specs.declared.Spot.{Spot}
use Rattle.refusal_places.specs.declared.Spot.TheVariants.{Face, Edge}

abbrev pub then_spot : Result ⊤ Spot → Result ⊤ Spot → Result ⊤ Spot
then_spot (Ok tt) s = s
then_spot (Err x) s = Err x

-- m is the link to the mate of place k
abbrev pub runs_with : List FacePlace → ℕ → ℕ → Bool
runs_with ps zero k = false
runs_with ps (suc j) k = same_way (place_at ps j) (place_at ps k)

unfoldable pub runs_with_mate : List FacePlace → ℕ → Bool
unfolding mate
runs_with_mate ps k = runs_with ps (mate ps k) k

-- the place is the third on its edge, or runs the same way as the one before
abbrev pub spot_at : ℕ → ℕ → Bool → Bool → Result ⊤ Spot
spot_at f i true same = Err (Edge f i EdgeTripleFace)
spot_at f i false true = Err (Edge f i SameWay)
spot_at f i false false = Ok tt

unfoldable pub edge_spot : List FacePlace → ℕ → ℕ → ℕ → Result ⊤ Spot
unfolding third runs_with_mate
edge_spot ps f a i = spot_at f i (third ps (a + i)) (runs_with_mate ps (a + i))

unfoldable pub edges_spot : List FacePlace → ℕ → ℕ → ℕ → Result ⊤ Spot
unfolding edge_spot
edges_spot ps f a zero = Ok tt
edges_spot ps f a (suc i) = then_spot (edges_spot ps f a i) (edge_spot ps f a i)

abbrev pub verdict_spot : ℕ → Result ⊤ Ground → Result ⊤ Spot
verdict_spot f (Ok tt) = Ok tt
verdict_spot f (Err g) = Err (Face f g)

unfoldable pub face_spot : Lists → List FacePlace → ℕ → Result ⊤ Spot
unfolding face_verdict edges_spot offset
face_spot l ps f = then_spot (verdict_spot f (face_verdict l (points_of l) f (offset l f))) (edges_spot ps f (offset l f) (size l f))

unfoldable pub faces_spot : Lists → List FacePlace → ℕ → Result ⊤ Spot
unfolding face_spot
faces_spot l ps zero = Ok tt
faces_spot l ps (suc k) = then_spot (faces_spot l ps k) (face_spot l ps k)

unfoldable pub first_spot : Lists → Result ⊤ Spot
unfolding faces_spot places_of
first_spot l = faces_spot l (places_of l) (faces_of l)

-- the counts and the numbers of the lists are fit
abbrev pub spot_if : Bool → Bool → Result ⊤ Spot → Result ⊤ Spot
spot_if false numbers s = Ok tt
spot_if true false s = Ok tt
spot_if true true s = s

unfoldable pub spotted : Sizes → Lists → Result ⊤ Spot
unfolding counts_fit listed_fit first_spot
spotted c l = spot_if (counts_fit c l) (listed_fit l) (first_spot l)

abbrev pub where_of : Result ⊤ Spot → Where
where_of (Ok tt) = whole
where_of (Err (Face f g)) = face f
where_of (Err (Edge f i g)) = edge f i
