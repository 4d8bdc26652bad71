-- What is met at the places of a face, told by lists of the points that places run from and to.
--     runs_with_at ls m k       place k begins at the same point as the one that the link m leads to
--     edge_spot_at, edges_spot_at what is met at place i of face f, whose places stand from a on; the first among n places
--     FoundIf               the lists after k places, if nothing is met
use Rattle.std.specs.Prelude.{◌≡◌, Bool, false, List, ℕ, zero, suc, ◌+◌, eqb, get_or, Result, Ok, ⊤}
use Rattle.shared_edges.specs.Chains.{mate_at, third_at, PlacesEntered}
use Rattle.refusal_places.specs.Spots.{then_spot, spot_at}
use Rattle.refusal_places.specs.declared.Spot.{Spot}

abbrev pub runs_with_at : List ℕ → ℕ → ℕ → Bool
runs_with_at ls zero k = false
runs_with_at ls (suc j) k = eqb (get_or ls j 0) (get_or ls k 0)

abbrev pub edge_spot_at : List ℕ → List ℕ → ℕ → ℕ → ℕ → Result ⊤ Spot
edge_spot_at ls ts f a i = spot_at f i (third_at ls ts (a + i)) (runs_with_at ls (mate_at ls ts (a + i)) (a + i))

unfoldable pub edges_spot_at : List ℕ → List ℕ → ℕ → ℕ → ℕ → Result ⊤ Spot
edges_spot_at ls ts f a zero = Ok tt
edges_spot_at ls ts f a (suc i) = then_spot (edges_spot_at ls ts f a i) (edge_spot_at ls ts f a i)

abbrev pub FoundIf : List ℕ → List ℕ → List ℕ → List ℕ → List ℕ → List ℕ → ℕ → Result ⊤ Spot → Type 0
FoundIf ls ts heads links mates seconds k r = r ≡ Ok tt → PlacesEntered ls ts heads links mates seconds k
