-- Edges that cross, computed: on a tetrahedron with a depth between its points, at one, above and below all; zeros of both signs;
-- the smallest number. The finder's answers, computed on it, and on a mesh of two parts with a depth between them: 41. A mesh whose
-- points are all joined through edges.
use mathlib.Core.Path.{◌≡◌, refl, sym, ◌∙◌}
use mathlib.Core.Bool.{Bool, true, false}
use mathlib.Core.List.{List, [], ◌∷◌, map}
use mathlib.Core.Logic.{inl, inr}
use Prim.Native.Nat.{ℕ, zero, suc, ◌<◌}
use native.Mathlib.Omega.{arith}
use lib.IntN.{pos, negsuc}
use lib.ListN.{replicate}
use lib.Ieee.{Float, nan, inf, fin, le}
use Rattle.std.specs.Prelude.{Ok, Err}
use Rattle.crossings.specs.declared.NoCrossing.TheVariants.{NotFiniteDepth, NotClosed, Nowhere}
use Rattle.tables.specs.Mesh.{Mesh, none}
use Rattle.tables.specs.declared.Counts.{Counts}
use Rattle.audited_meshes.specs.Audit.{audit}
use Rattle.mesh_cases.proofs.Meshes.{unit, two_triangles, with_positions}
use Rattle.crossings.specs.Crossings.{crosses, first_from, find}
use Rattle.crossings.specs.Claims.{AllJoined, there, along}
use Rattle.crossings.proofs.Theorem.{joined-found}

-- the depths 0, -0, 1, 2, 3, and the smallest above 0
abbrev d0 : Float
d0 = fin false 0 (pos 0)

abbrev -d0 : Float
-d0 = fin true 0 (pos 0)

abbrev d2 : Float
d2 = fin false 1 (pos 1)

abbrev d3 : Float
d3 = fin false 3 (pos 0)

abbrev smallest : Float
smallest = fin false 1 (negsuc 1073)

-- positions at these depths, with x and y 1
abbrev at_depths : List Float → List Float
at_depths [] = []
at_depths (d ∷ ds) = unit ∷ unit ∷ d ∷ at_depths ds

abbrev crossed : Mesh → Float → List ℕ → List Bool
crossed m d es = map (crosses m d) es

-- edges from 0 to 1, 1 to 2, 2 to 0, 0 to 3, 3 to 1, 3 to 2
abbrev tetrahedron : List Float → Mesh
tetrahedron ds = with_positions (at_depths ds)

abbrev six : List ℕ
six = 0 ∷ 1 ∷ 2 ∷ 3 ∷ 4 ∷ 5 ∷ []

between-points : crossed (tetrahedron (d0 ∷ unit ∷ d2 ∷ d3 ∷ [])) (fin false 3 (negsuc 0)) six ≡ (false ∷ true ∷ true ∷ true ∷ true ∷ false ∷ [])
unfolding le
between-points = refl

at-a-point : crossed (tetrahedron (d0 ∷ unit ∷ d2 ∷ d3 ∷ [])) unit six ≡ (true ∷ true ∷ true ∷ true ∷ true ∷ false ∷ [])
unfolding le
at-a-point = refl

above-all : crossed (tetrahedron (d0 ∷ unit ∷ d2 ∷ d3 ∷ [])) (fin false 1 (pos 2)) six ≡ replicate 6 false
unfolding le
above-all = refl

below_all : crossed (tetrahedron (d0 ∷ unit ∷ d2 ∷ d3 ∷ [])) (fin true 1 (negsuc 1073)) six ≡ replicate 6 false
unfolding le
below_all = refl

-- -0 is 0, and both ends at the depth cross
zeros-of-both-signs : crossed (tetrahedron (d0 ∷ -d0 ∷ d0 ∷ unit ∷ [])) -d0 six ≡ replicate 6 true
unfolding le
zeros-of-both-signs = refl

-- the product of two such differences is 0, but neither end is at or below 0
smallest-above : crossed (tetrahedron (replicate 4 smallest)) d0 six ≡ replicate 6 false
unfolding le
smallest-above = refl

-- two pairs of triangles back to back, at the depths 0 and 2: 6 points, 6 edges, 4 faces
abbrev two_parts : Mesh
two_parts = record {
  positions = at_depths (d0 ∷ d0 ∷ d0 ∷ d2 ∷ d2 ∷ d2 ∷ []);
  points = 2 ∷ 2 ∷ 1 ∷ 2 ∷ 1 ∷ 1 ∷ 2 ∷ 2 ∷ 1 ∷ 2 ∷ 5 ∷ 1 ∷ 2 ∷ 4 ∷ 1 ∷ 2 ∷ 5 ∷ 1 ∷ [];
  edges = 0 ∷ 1 ∷ 0 ∷ 1 ∷ 2 ∷ 1 ∷ 1 ∷ 2 ∷ 1 ∷ 2 ∷ 0 ∷ 1 ∷ 0 ∷ 2 ∷ 2 ∷ 0 ∷ 2 ∷ 0 ∷ 0 ∷ 1 ∷ 1 ∷ 0 ∷ 0 ∷ 1 ∷ 3 ∷ 4 ∷ 2
      ∷ 3 ∷ 5 ∷ 4 ∷ 4 ∷ 5 ∷ 4 ∷ 5 ∷ 2 ∷ 3 ∷ 3 ∷ 5 ∷ 5 ∷ 3 ∷ 5 ∷ 3 ∷ 2 ∷ 3 ∷ 4 ∷ 3 ∷ 3 ∷ 4 ∷ [];
  intervals = replicate 6 unit;
  faces = 0 ∷ 0 ∷ 1 ∷ 2 ∷ none ∷ 2 ∷ 0 ∷ 2 ∷ 1 ∷ none ∷ 3 ∷ 3 ∷ 4 ∷ 5 ∷ none ∷ 5 ∷ 3 ∷ 5 ∷ 4 ∷ none ∷ [];
}

abbrev counted : ℕ → ℕ → ℕ → Counts
counted np ne nf = record { points = np; edges = ne; faces = nf }

-- the lowest-numbered of the edges 1, 2, 3 and 4, which all cross
lowest-found : find (tetrahedron (d0 ∷ unit ∷ d2 ∷ d3 ∷ [])) (counted 4 6 4) (fin false 3 (negsuc 0)) ≡ Ok 1
unfolding audit le first_from
lowest-found = refl

-- both parts are found at their depths, and nothing between them, though the mesh passes the audit
upper-part : find two_parts (counted 6 6 4) d2 ≡ Ok 3
unfolding audit le first_from
upper-part = refl

between-two-parts : (audit two_parts 6 6 4 ≡ true) × (find two_parts (counted 6 6 4) unit ≡ Err Nowhere)
unfolding audit le first_from
between-two-parts = (refl, refl)

-- so its points are not all joined through edges
two-parts-not-joined : AllJoined two_parts (counted 6 6 4) → ⊥
unfolding le
two-parts-not-joined joined =
    let (passes, nowhere) = between-two-parts in
    let (e, found) = joined-found two_parts (counted 6 6 4) unit (refl, passes) joined 0 3 (omega arith) (omega arith) refl refl in
    differ e (sym found ∙ nowhere)
  where
    differ : (e : ℕ) → Ok e ≡ Err Nowhere → ⊥
    differ e h = let z : ◌≡◌ {A = ℕ} 0 1 = cc in omega arith

not-below-3 : {A : Type 0} (k : ℕ) → suc (suc (suc k)) < 3 → A
not-below-3 k l = absurd (never l)
  where
    never : suc (suc (suc k)) < 3 → ⊥
    never l = omega arith

-- the points of two triangles back to back are all joined
triangles-joined : AllJoined two_triangles (counted 3 3 2)
triangles-joined zero zero l k = there
triangles-joined zero (suc zero) l k = along 1 0 (omega arith) (inl (refl, refl)) there
triangles-joined zero (suc (suc zero)) l k = along 2 2 (omega arith) (inr (refl, refl)) there
triangles-joined zero (suc (suc (suc q))) l k = not-below-3 q k
triangles-joined (suc zero) zero l k = along 0 0 (omega arith) (inr (refl, refl)) there
triangles-joined (suc zero) (suc zero) l k = there
triangles-joined (suc zero) (suc (suc zero)) l k = along 2 1 (omega arith) (inl (refl, refl)) there
triangles-joined (suc zero) (suc (suc (suc q))) l k = not-below-3 q k
triangles-joined (suc (suc zero)) zero l k = along 0 2 (omega arith) (inl (refl, refl)) there
triangles-joined (suc (suc zero)) (suc zero) l k = along 1 1 (omega arith) (inr (refl, refl)) there
triangles-joined (suc (suc zero)) (suc (suc zero)) l k = there
triangles-joined (suc (suc zero)) (suc (suc (suc q))) l k = not-below-3 q k
triangles-joined (suc (suc (suc p))) q l k = not-below-3 p l

-- one face fewer than the edges name; a depth that is not finite comes first
not-closed : find two_parts (counted 6 6 3) unit ≡ Err NotClosed
unfolding audit le first_from
not-closed = refl

infinite-first : find two_parts (counted 6 6 3) (inf true) ≡ Err NotFiniteDepth
unfolding audit le first_from
infinite-first = refl

no-number-first : find two_parts (counted 6 6 3) nan ≡ Err NotFiniteDepth
unfolding audit le first_from
no-number-first = refl

-- no mesh at all
empty-nowhere : find two_parts (counted 0 0 0) d0 ≡ Err Nowhere
unfolding audit le first_from
empty-nowhere = refl
