-- One edge in the tables, and one place entered: face f has a place from p to q. Grounds 14 and 15.
--     edge_between m k p q     the first edge below k that joins the points p and q, in either direction
--     new_edge m k f p q v     the tables with a new edge k from p to q, with face f on its left and the interval v
--     with_right_face m e f     the tables with face f on the right of edge e
--     Entered, entered        a place entered: the tables, how many edges they hold and the place's edge; or a ground
--     joined m e o            the tables with the edges e and o connected
-- An edge that exists keeps its interval. Under building the none mark on the right of an edge says that there is no face yet. The
-- Rust looks for all edges of a face before it makes one; that is the same, since no point is listed twice in a face.
use Rattle.std.specs.Prelude.{Bool, true, false, ◌&&◌, ◌||◌, List, [], ◌∷◌, ℕ, zero, suc, ◌+◌, ◌*◌, eqb, get_or, set, Float, Option, Some, None}
use Rattle.t_spline.specs.declared.TnurccEdge.{TnurccEdge}
use Rattle.tables.specs.Layout.{point_width, start_word, edge_width, right_face_word}
use Rattle.tables.specs.Mesh.{Mesh, none, origin, dest, right_face, mesh_of}
use Rattle.tables.specs.Rows.{put_row}
use Rattle.tables.specs.Records.{edge_words}
use Rattle.t_nurcc_edge.specs.Connected.{connected_rows}
use Rattle.built_meshes.specs.declared.Ground.{Ground}
use Rattle.built_meshes.specs.declared.Ground.TheVariants.{EdgeTripleFace, SameWay}

-- ---- an edge

abbrev pub joins : Mesh → ℕ → ℕ → ℕ → Bool
joins m p q e = eqb (origin m e) p && eqb (dest m e) q || eqb (origin m e) q && eqb (dest m e) p

-- what is found among one edge more
abbrev pub or_last : Option ℕ → Bool → ℕ → Option ℕ
or_last (Some e) here k = Some e
or_last None true k = Some k
or_last None false k = None

unfoldable pub edge_between : Mesh → ℕ → ℕ → ℕ → Option ℕ
edge_between m zero p q = None
edge_between m (suc k) p q = or_last (edge_between m k p q) (joins m p q k) k

-- a new edge: its neighbours are all itself, and there is no face on its right
abbrev pub lone_edge : ℕ → ℕ → ℕ → ℕ → Float → TnurccEdge
lone_edge k f p q v =
    record {
      connections = k ∷ k ∷ k ∷ k ∷ [];
      face_left = f;
      face_right = none;
      origin = p;
      dest = q;
      knot_interval = v;
    }

-- point p with one edge more, which becomes its start edge
abbrev pub touched : List ℕ → ℕ → ℕ → List ℕ
touched ws p e = set (set ws (p * point_width) (get_or ws (p * point_width) 0 + 1)) (p * point_width + start_word) e

unfoldable pub new_edge : Mesh → ℕ → ℕ → ℕ → ℕ → Float → Mesh
new_edge m k f p q v =
    mesh_of m.positions (touched (touched m.points p k) q k) (put_row m.edges (k * edge_width) (edge_words (lone_edge k f p q v)))
    (set m.intervals k v) m.faces

abbrev pub with_edges : Mesh → List ℕ → Mesh
with_edges m es = mesh_of m.positions m.points es m.intervals m.faces

unfoldable pub with_right_face : Mesh → ℕ → ℕ → Mesh
with_right_face m e f = with_edges m (set m.edges (e * edge_width + right_face_word) f)

-- ---- a place

pub data Entered : Type 0 where
  at : Mesh → ℕ → ℕ → Entered
  refused : Ground → Entered

-- face f at the edge e that joins the points: `alone` says that there is no face on its right, `same` that it runs from the
-- place's first point too
unfoldable pub entered_at : Mesh → ℕ → ℕ → ℕ → Bool → Bool → Entered
unfolding with_right_face
entered_at m k f e false same = refused EdgeTripleFace
entered_at m k f e true true = refused SameWay
entered_at m k f e true false = at (with_right_face m e f) k e

unfoldable pub entered_if : Mesh → ℕ → ℕ → ℕ → ℕ → Float → Option ℕ → Entered
unfolding entered_at new_edge
entered_if m k f p q v (Some e) = entered_at m k f e (eqb (right_face m e) none) (eqb (origin m e) p)
entered_if m k f p q v None = at (new_edge m k f p q v) (suc k) k

-- face f has a place from p to q with the interval v; the tables hold k edges
unfoldable pub entered : Mesh → ℕ → ℕ → ℕ → ℕ → Float → Entered
unfolding edge_between entered_if
entered m k f p q v = entered_if m k f p q v (edge_between m k p q)

unfoldable pub joined : Mesh → ℕ → ℕ → Mesh
unfolding connected_rows
joined m e o = with_edges m (connected_rows m.edges m.intervals e o)
