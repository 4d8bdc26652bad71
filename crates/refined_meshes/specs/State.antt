-- The scratch tables while faces are visited: their rows, and how many rows of each kind are taken. Positions are no part of it: no
-- visit reads or writes them, and they are put into their rows later.
--     State                    the four tables and the rows taken so far
--     state_of ps es is fs p e f   the four tables with p points, e edges and f faces taken
--     with_positions ps s       the five tables, with ps for positions
--     edge_of s e               the edge in row e
--     put_edge e r s            the edge r stored in row e
--     put_point p v e k s       valence v, start edge e and mark k stored in the row of point p
--     put_start p e s           the start edge e stored in the row of point p
--     put_face f e .. s         the start edge e and the four corners stored in the row of face f
--     copied m np ne nf t      the rows of the mesh m copied into the tables t: what the visits begin with
use Rattle.std.specs.Prelude.{List, [], ◌∷◌, ℕ, ◌+◌, ◌*◌, set, Float}
use Rattle.t_spline.specs.declared.TnurccEdge.{TnurccEdge}
use Rattle.tables.specs.Layout.{point_width, start_word, edge_width, face_width}
use Rattle.tables.specs.Mesh.{Mesh, mesh_of}
use Rattle.tables.specs.Rows.{put_row, over}
use Rattle.tables.specs.Records.{edge_at, edge_words}

pub record State : Type 0 where
  pub points : List ℕ
  pub edges : List ℕ
  pub intervals : List Float
  pub faces : List ℕ
  pub points_taken : ℕ
  pub edges_taken : ℕ
  pub faces_taken : ℕ

abbrev pub state_of : List ℕ → List ℕ → List Float → List ℕ → ℕ → ℕ → ℕ → State
state_of ps es is fs p e f =
    record { points = ps; edges = es; intervals = is; faces = fs; points_taken = p; edges_taken = e; faces_taken = f }

abbrev pub with_positions : List Float → State → Mesh
with_positions ps s = mesh_of ps s.points s.edges s.intervals s.faces

abbrev pub edge_of : State → ℕ → TnurccEdge
edge_of s e = edge_at s.edges s.intervals e

unfoldable pub put_edge : ℕ → TnurccEdge → State → State
put_edge e r s =
    state_of s.points (put_row s.edges (e * edge_width) (edge_words r)) (set s.intervals e r.knot_interval) s.faces
    s.points_taken s.edges_taken s.faces_taken

unfoldable pub put_point : ℕ → ℕ → ℕ → ℕ → State → State
put_point p v e k s =
    state_of (put_row s.points (p * point_width) (v ∷ e ∷ k ∷ [])) s.edges s.intervals s.faces s.points_taken s.edges_taken s.faces_taken

unfoldable pub put_start : ℕ → ℕ → State → State
put_start p e s =
    state_of (set s.points (p * point_width + start_word) e) s.edges s.intervals s.faces s.points_taken s.edges_taken s.faces_taken

unfoldable pub put_face : ℕ → ℕ → ℕ → ℕ → ℕ → ℕ → State → State
put_face f e c0 c1 c2 c3 s =
    state_of s.points s.edges s.intervals (put_row s.faces (f * face_width) (e ∷ c0 ∷ c1 ∷ c2 ∷ c3 ∷ []))
    s.points_taken s.edges_taken s.faces_taken

-- further rows taken
abbrev pub take_rows : ℕ → ℕ → ℕ → State → State
take_rows p e f s =
    state_of s.points s.edges s.intervals s.faces (s.points_taken + p) (s.edges_taken + e) (s.faces_taken + f)

unfoldable pub copied : Mesh → ℕ → ℕ → ℕ → Mesh → State
copied m np ne nf t =
    state_of (over (np * point_width) m.points t.points) (over (ne * edge_width) m.edges t.edges) (over ne m.intervals t.intervals)
    (over (nf * face_width) m.faces t.faces) np ne nf
