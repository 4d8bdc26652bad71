-- The mender's answer to lists, with its grounds in order.
--     forgiven v            a face's first ground, but for 13, which is not the mender's
--     face_mends l ps f      the first ground of face f: 10, 11, 12, 43, then 14 for its edges
--     faces_mend l ps k      that of the first k faces, face by face
--     whole_mends            that of the whole: 20 for all edges, then 44
--     mending c l           the answer to the lists l within the limits c: 2, 3, those of the faces and those of the whole
--     mending_number r       the number of an answer: 0, or that of the ground
use Rattle.std.specs.Prelude.{Bool, true, false, not, cond, List, ℕ, zero, suc, ◌+◌, eqb, length, Result, Ok, Err, ⊤}
use Rattle.built_meshes.specs.declared.Ground.{Ground}
use Rattle.tables.specs.declared.Sizes.{Sizes}
use Rattle.audited_meshes.specs.Folds.{every}
use Rattle.built_meshes.specs.Lists.{Lists, points_of, faces_of, size, offset, counts_fit, listed_fit}
use Rattle.built_meshes.specs.Faces.{face_verdict}
use Rattle.built_meshes.specs.Answers.{ground_number}
use Rattle.built_meshes.specs.declared.Ground.TheVariants.{OverCounts, UnfitNumber, NonRectangularFace, EdgeTripleFace, MissingFace}
use Rattle.mended_lists.specs.declared.Unmended.{Unmended}
use Rattle.mended_lists.specs.declared.Unmended.TheVariants.{Refused, Twisted}
use Rattle.mended_lists.specs.Edges.{FacePlace, places_of, third, lone}
use Rattle.mended_lists.specs.Parts.{twisted}

abbrev pub forgiven : Result ⊤ Ground → Result ⊤ Ground
forgiven (Ok tt) = Ok tt
forgiven (Err g) = cond (eqb (ground_number g) (ground_number NonRectangularFace)) (Ok tt) (Err g)

-- no place of face f is the third on its edge
unfoldable pub edges_mend : List FacePlace → ℕ → ℕ → Bool
unfolding every third
edges_mend ps a n = every n (λ i. not (third ps (a + i)))

abbrev pub then_edges : Result ⊤ Ground → Bool → Result ⊤ Ground
then_edges (Err g) edges = Err g
then_edges (Ok tt) true = Ok tt
then_edges (Ok tt) false = Err EdgeTripleFace

unfoldable pub face_mends : Lists → List FacePlace → ℕ → Result ⊤ Ground
unfolding face_verdict edges_mend offset
face_mends l ps f = then_edges (forgiven (face_verdict l (points_of l) f (offset l f))) (edges_mend ps (offset l f) (size l f))

abbrev pub then_face : Result ⊤ Ground → Result ⊤ Ground → Result ⊤ Ground
then_face (Err g) v = Err g
then_face (Ok tt) v = v

unfoldable pub faces_mend : Lists → List FacePlace → ℕ → Result ⊤ Ground
unfolding face_mends
faces_mend l ps zero = Ok tt
faces_mend l ps (suc k) = then_face (faces_mend l ps k) (face_mends l ps k)

-- the faces, whether each edge has two, whether no choice works
abbrev pub whole_mends : Result ⊤ Ground → Bool → Bool → Result ⊤ Unmended
whole_mends (Err g) shared twist = Err (Refused g)
whole_mends (Ok tt) false twist = Err (Refused MissingFace)
whole_mends (Ok tt) true true = Err Twisted
whole_mends (Ok tt) true false = Ok tt

unfoldable pub edges_shared : List FacePlace → Bool
unfolding every lone
edges_shared ps = every (length ps) (λ k. not (lone ps k))

unfoldable pub mending_if : Bool → Bool → Lists → Result ⊤ Unmended
unfolding faces_mend edges_shared places_of twisted
mending_if false numbers l = Err (Refused OverCounts)
mending_if true false l = Err (Refused UnfitNumber)
mending_if true true l = whole_mends (faces_mend l (places_of l) (faces_of l)) (edges_shared (places_of l)) (twisted l)

unfoldable pub mending : Sizes → Lists → Result ⊤ Unmended
unfolding mending_if counts_fit listed_fit
mending c l = mending_if (counts_fit c l) (listed_fit l) l

abbrev pub mending_number : Result ⊤ Unmended → ℕ
mending_number (Ok tt) = 0
mending_number (Err (Refused g)) = ground_number g
mending_number (Err Twisted) = 44
