-- One place of a perimeter, as the code answers it.
--     EnteredPlace            the tables when a place is entered, how many edges they hold, and the place's edge
--     entry_place m r          the place that an entry made, or its ground, with the tables as they stand then
--     entering m x            the same of the definition's answer x, from the tables m
--     edges_after r k          how many edges there are after an entry, if there were k
--     EnteredBy, FilledBy     what entering a place promises, and at an edge that exists
use Rattle.std.specs.Prelude.{◌≡◌, List, ℕ, eqb, Float, Result, Ok, Err}
use Rattle.tables.specs.Mesh.{Mesh, none, origin, right_face}
use Rattle.built_meshes.specs.Perimeters.{Progress, on, stopped}
use Rattle.built_meshes.specs.Edges.{Entered, at, refused, entered_at, entered, with_edges}
use Rattle.edge_search.specs.Chains.{EndsKept}
use Rattle.built_meshes.specs.declared.Ground.{Ground}
use Rattle.edge_search.specs.declared.PlaceEdge.{PlaceEdge}

pub record EnteredPlace : Type 0 where
  pub mesh : Mesh
  pub edges : ℕ
  pub edge : ℕ

abbrev pub entry_place : Mesh → Result PlaceEdge Ground → Progress EnteredPlace
entry_place m (Ok x) = on (record { mesh = m; edges = x.edges; edge = x.edge })
entry_place m (Err g) = stopped g m

abbrev pub entering : Mesh → Entered → Progress EnteredPlace
entering m (at n k e) = on (record { mesh = n; edges = k; edge = e })
entering m (refused g) = stopped g m

-- how many edges there are after an entry, if there were k
abbrev pub edges_after : Result PlaceEdge Ground → ℕ → ℕ
edges_after (Ok x) k = x.edges
edges_after (Err g) k = k

-- an entry r of the place of face f from p to q, with the interval v, turns the tables m into n
abbrev pub EnteredBy : Result PlaceEdge Ground → Mesh → Mesh → ℕ → ℕ → ℕ → ℕ → Float → Type 0
EnteredBy r m n k f p q v = entry_place n r ≡ entering m (entered m k f p q v)

-- the same of an entry at the edge e, which touches the table of edges alone
pub record FilledBy (es : List ℕ) (k f e p : ℕ) (r : Result PlaceEdge Ground) (new : List ℕ) : Type 0 where
  pub filled : (m : Mesh) → m.edges ≡ es → entry_place (with_edges m new) r ≡ entering m (entered_at m k f e (eqb (right_face m e) none) (eqb (origin m e) p))
  pub ends : EndsKept es new
  pub count : edges_after r k ≡ k
