-- Connecting two edges, as the Rust's `connect` does it.
--     agreeing              the eight agreeing pairs of states: the Rust's comment table
--     links_of f v           the links that a face state and a vertex state set, if they do not mismatch
--     vertex_state e o       the first vertex state that holds of two edges; 4 where they share no point
--     with_links i j ls p    the pair of edges, of rows i and j, with the links set
--     served b f v i j p    the same for one face state, if b says that it holds
--     connected i e j o     both edges after all face states were served, in the Rust's order
-- Face states: 0 left of both, 1 right of both, 2 left of the first and right of the other, 3 the other way round.
-- Vertex states: 0 origin of the first and destination of the other, 1 the other way round, 2 origin of both,
-- 3 destination of both.
use Rattle.std.specs.Prelude.{Option, Some, None, Bool, true, false, ◌&&◌, cond, List, [], ◌∷◌, ℕ, eqb}
use Rattle.t_spline.specs.Edge.{with_connection, same_face}
use Rattle.t_spline.specs.declared.TnurccEdge.{TnurccEdge}
use Rattle.edge_ends.specs.declared.TnurccConnection.{TnurccConnection}
use Rattle.edge_ends.specs.declared.TnurccConnection.TheVariants.{LeftCw, LeftAcw, RightCw, RightAcw}
use Rattle.edge_links.specs.declared.Pair.{Pair}

pub record Agreement : Type 0 where
  pub face : ℕ
  pub vertex : ℕ
  pub own : TnurccConnection
  pub other : TnurccConnection

abbrev pub agreement : ℕ → ℕ → TnurccConnection → TnurccConnection → Agreement
agreement f v c d = record { face = f; vertex = v; own = c; other = d }

abbrev pub agreeing : List Agreement
agreeing =
    agreement 0 0 LeftCw LeftAcw
    ∷ agreement 0 1 LeftAcw LeftCw
    ∷ agreement 1 0 RightAcw RightCw
    ∷ agreement 1 1 RightCw RightAcw
    ∷ agreement 2 2 LeftCw RightAcw
    ∷ agreement 2 3 LeftAcw RightCw
    ∷ agreement 3 2 RightAcw LeftCw
    ∷ agreement 3 3 RightCw LeftAcw
    ∷ []

abbrev pub links_in : List Agreement → ℕ → ℕ → Option (TnurccConnection × TnurccConnection)
links_in [] f v = None
links_in (a ∷ rest) f v = cond (eqb a.face f && eqb a.vertex v) (Some (a.own, a.other)) (links_in rest f v)

unfoldable pub links_of : ℕ → ℕ → Option (TnurccConnection × TnurccConnection)
links_of f v = links_in agreeing f v

abbrev pub vertex_state : TnurccEdge → TnurccEdge → ℕ
vertex_state e o =
    cond (eqb e.origin o.dest) 0
    (cond (eqb e.dest o.origin) 1
    (cond (eqb e.origin o.origin) 2
    (cond (eqb e.dest o.dest) 3 4)))

abbrev pub with_links : ℕ → ℕ → Option (TnurccConnection × TnurccConnection) → Pair → Pair
with_links i j (Some (c, d)) p = record { first = with_connection p.first j c; other = with_connection p.other i d }
with_links i j None p = p

abbrev pub served : Bool → ℕ → ℕ → ℕ → ℕ → Pair → Pair
served true f v i j p = with_links i j (links_of f v) p
served false f v i j p = p

abbrev pub connected : ℕ → TnurccEdge → ℕ → TnurccEdge → Pair
connected i e j o =
    served (same_face e.face_right o.face_right) 1 (vertex_state e o) i j
    (served (same_face e.face_right o.face_left) 3 (vertex_state e o) i j
    (served (same_face e.face_left o.face_right) 2 (vertex_state e o) i j
    (served (same_face e.face_left o.face_left) 0 (vertex_state e o) i j
    (record { first = e; other = o }))))
