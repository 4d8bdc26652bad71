-- The whole of lists told by the places of all faces, where nothing is met in the faces.
--     partner ps k          the other place on the edge of place k: its mate, or the place whose mate it is
--     nexts_of l             behind each place the number of the place after it in its face, going round
--     turn_from l k          about the point at which place k begins: the place after its partner
--     start_at ps p          1 more than the last place that begins at point p, or 0: then 21 is met
--     comes step n k s      at most n steps from k lead to s
--     points_begun l         a place begins at each point
--     turns_come l           about each point, turning from each place that begins there leads to the last one
--     whole_met l            the first of the grounds 20, 21 and 22 that is met
--     lists_met c l          the first ground that is met in the lists l within the limits c, but for 4
use Rattle.std.specs.Prelude.{Bool, true, false, not, cond, List, ℕ, zero, suc, ◌+◌, ◌-◌, eqb, length, get_or, Result, Ok, Err, ⊤}
use Rattle.built_meshes.specs.declared.Ground.{Ground}
use Rattle.perimeters.specs.Places.{next_place}
use Rattle.audited_meshes.specs.Folds.{every}
use Rattle.tables.specs.declared.Sizes.{Sizes}
use Rattle.built_meshes.specs.Lists.{Lists, points_of, faces_of, size, offset, counts_fit, listed_fit}
use Rattle.built_meshes.specs.declared.Ground.TheVariants.{OverCounts, UnfitNumber, MissingFace, NoEdge, MissedEdge}
use Rattle.mended_lists.specs.InTurn.{in_turn}
use Rattle.mended_lists.specs.Edges.{FacePlace, places_of, place_at, latest, mate, follower}
use Rattle.mended_lists.specs.Mending.{edges_shared}
use Rattle.refusal_places.specs.Spots.{first_spot}
use Rattle.refusal_places.specs.declared.Spot.{Spot}
use Rattle.refusal_places.specs.declared.Spot.TheVariants.{Face, Edge}

-- by the links to the mate and to the follower
abbrev pub linked_to : ℕ → ℕ → ℕ
linked_to zero zero = 0
linked_to zero (suc j) = j
linked_to (suc j) second = j

unfoldable pub partner : List FacePlace → ℕ → ℕ
unfolding mate follower
partner ps k = linked_to (mate ps k) (follower ps (length ps) k)

unfoldable pub nexts_of : Lists → List ℕ
unfolding in_turn offset
nexts_of l = in_turn (faces_of l) (λ f. size l f) (λ f i. offset l f + next_place (size l f) i)

unfoldable pub turn_from : Lists → ℕ → ℕ
unfolding nexts_of partner places_of
turn_from l k = get_or (nexts_of l) (partner (places_of l) k) 0

unfoldable pub start_at : List FacePlace → ℕ → ℕ
unfolding latest
start_at ps p = latest (λ k. eqb (place_at ps k).from p) (length ps)

unfoldable pub comes : (ℕ → ℕ) → ℕ → ℕ → ℕ → Bool
comes step zero k s = eqb k s
comes step (suc n) k s = cond (eqb k s) true (comes step n (step k) s)

unfoldable pub points_begun : Lists → Bool
unfolding every start_at places_of
points_begun l = every (points_of l) (λ p. not (eqb (start_at (places_of l) p) 0))

-- from place k to the last one that begins at its point
abbrev pub comes_back : Lists → ℕ → Bool
unfolding comes turn_from start_at places_of
comes_back l k = comes (turn_from l) (length (places_of l)) k (start_at (places_of l) (place_at (places_of l) k).from - 1)

unfoldable pub turns_come : Lists → Bool
unfolding every places_of comes turn_from start_at
turns_come l = every (length (places_of l)) (λ k. comes_back l k)

-- whether each edge has two faces, each point a place and all turns come together
abbrev pub whole_verdict_if : Bool → Bool → Bool → Result ⊤ Ground
whole_verdict_if false begun come = Err MissingFace
whole_verdict_if true false come = Err NoEdge
whole_verdict_if true true false = Err MissedEdge
whole_verdict_if true true true = Ok tt

unfoldable pub whole_met : Lists → Result ⊤ Ground
unfolding edges_shared places_of points_begun turns_come
whole_met l = whole_verdict_if (edges_shared (places_of l)) (points_begun l) (turns_come l)

-- the counts, the numbers, the faces, the whole
abbrev pub verdict_if : Bool → Bool → Result ⊤ Spot → Result ⊤ Ground → Result ⊤ Ground
verdict_if false numbers s v = Err OverCounts
verdict_if true false s v = Err UnfitNumber
verdict_if true true (Err (Face f g)) v = Err g
verdict_if true true (Err (Edge f i g)) v = Err g
verdict_if true true (Ok tt) v = v

unfoldable pub lists_met : Sizes → Lists → Result ⊤ Ground
unfolding counts_fit listed_fit first_spot whole_met
lists_met c l = verdict_if (counts_fit c l) (listed_fit l) (first_spot l) (whole_met l)
