-- What a visit writes about a face once its perimeter is split: the joining edges, the new faces, the halves' fields on the side of this face,
-- and the face point. "Edges join each midpoint to the face point. The first new face takes the old row" (document 01).
-- Places of a perimeter are numbered from 0; h1 i and h2 i are the halves of the edge at place i at its first and its second
-- point, seen along the walk about the face.
--     on_left m f e                      the face f is on the left of the edge e
--     Ring                              the face, the rows taken for it, and what stands at the places of its perimeter
--     join_row r i, face_row r i          the row of the joining edge to the midpoint of place i; of the new face at its first point
--     first_half_of second_half_of old new f e      h1 and h2 of the edge e along the face f, found from the row that keeps the origin half: old is the
--                                       mesh's table of edges, new the scratch table
--     with_side b f a c e                the edge e with the face f and the neighbours a and c, anticlockwise and clockwise, on its left or right
--     put_join put_first put_second put_new_face r i s      what is written at place i
--     put_face_point r s                  the row of the face point
use Rattle.std.specs.Prelude.{Bool, true, false, cond, List, [], ◌∷◌, ℕ, ◌+◌, ◌-◌, eqb, get_or, Float}
use Rattle.std.specs.Float.{nan, binary64}
use Rattle.std.specs.Float.Ieee.{add}
use Rattle.t_spline.specs.declared.TnurccEdge.{TnurccEdge}
use Rattle.perimeters.specs.Places.{next_place, prev_place}
use Rattle.tables.specs.Mesh.{Mesh, left_face, edge_table, left_acw, right_cw}
use Rattle.audited_meshes.specs.Walks.{first_point}
use Rattle.refined_meshes.specs.State.{State, edge_of, put_edge, put_point, put_face}

abbrev pub on_left : Mesh → ℕ → ℕ → Bool
on_left m f e = eqb (left_face m e) f

pub record Ring : Type 0 where
  -- the face, the number of its edges, the row of its face point, its first row of joining edges and its first appended row of faces
  pub face : ℕ
  pub size : ℕ
  pub centre : ℕ
  pub joins_from : ℕ
  pub faces_from : ℕ
  -- by place: the edge of the perimeter, h1, h2, the midpoint, and the interval as found on arriving at the face
  pub edges : List ℕ
  pub firsts : List ℕ
  pub seconds : List ℕ
  pub mids : List ℕ
  pub found : List Float

abbrev pub join_row : Ring → ℕ → ℕ
join_row r i = r.joins_from + i

abbrev pub face_row : Ring → ℕ → ℕ
face_row r i = cond (eqb i 0) r.face (r.faces_from + (i - 1))

-- Of an edge with the face on its left the origin half comes first on the perimeter, and its LeftAcw is the other half; with the
-- face on its right it comes second, and its RightCw is the other half.
abbrev pub first_half_of : List ℕ → List ℕ → ℕ → ℕ → ℕ
first_half_of old new f e = cond (on_left (edge_table old) f e) e (right_cw (edge_table new) e)

abbrev pub second_half_of : List ℕ → List ℕ → ℕ → ℕ → ℕ
second_half_of old new f e = cond (on_left (edge_table old) f e) (left_acw (edge_table new) e) e

abbrev pub with_side : Bool → ℕ → ℕ → ℕ → TnurccEdge → TnurccEdge
with_side true f a c e =
    record {
      connections = c ∷ a ∷ get_or e.connections 2 0 ∷ get_or e.connections 3 0 ∷ [];
      face_left = f;
      face_right = e.face_right;
      origin = e.origin;
      dest = e.dest;
      knot_interval = e.knot_interval;
    }
with_side false f a c e =
    record {
      connections = get_or e.connections 0 0 ∷ get_or e.connections 1 0 ∷ c ∷ a ∷ [];
      face_left = e.face_left;
      face_right = f;
      origin = e.origin;
      dest = e.dest;
      knot_interval = e.knot_interval;
    }

abbrev pub put_side : Bool → ℕ → ℕ → ℕ → ℕ → State → State
put_side b e f a c s = put_edge e (with_side b f a c (edge_of s e)) s

-- The joining interval is the next plus the previous perimeter interval as found on arriving.
unfoldable pub put_join : Ring → ℕ → State → State
put_join r i s =
    let next = next_place r.size i in
    let prev = prev_place r.size i in
    put_edge (join_row r i)
    (record {
      connections = join_row r next ∷ get_or r.seconds i 0 ∷ get_or r.firsts i 0 ∷ join_row r prev ∷ [];
      face_left = face_row r next;
      face_right = face_row r i;
      origin = r.centre;
      dest = get_or r.mids i 0;
      knot_interval = add binary64 (get_or r.found next nan) (get_or r.found prev nan);
    })
    s

unfoldable pub put_first : Mesh → Ring → ℕ → State → State
put_first m r i s =
    put_side (on_left m r.face (get_or r.edges i 0)) (get_or r.firsts i 0) (face_row r i) (join_row r i)
    (get_or r.seconds (prev_place r.size i) 0) s

unfoldable pub put_second : Mesh → Ring → ℕ → State → State
put_second m r i s =
    let next = next_place r.size i in
    put_side (on_left m r.face (get_or r.edges i 0)) (get_or r.seconds i 0) (face_row r next) (get_or r.firsts next 0)
    (join_row r i) s

-- The corners of the new face at place i: the face point, the midpoint before, the old point, the midpoint after.
unfoldable pub put_new_face : Mesh → Ring → ℕ → State → State
put_new_face m r i s =
    put_face (face_row r i) (get_or r.firsts i 0) r.centre (get_or r.mids (prev_place r.size i) 0)
    (first_point m r.face (get_or r.edges i 0)) (get_or r.mids i 0) s

-- Its start edge is the last joining edge.
unfoldable pub put_face_point : Ring → State → State
put_face_point r s = put_point r.centre r.size (join_row r (r.size - 1)) 0 s
