-- The neighbours and the faces of an edge, as the Rust's methods give them.
--     none, same_face           the mark for no row, and both are faces, and the same one: which `edge_ends` has
--     connection_of e c         the neighbour c of e
--     with_connection e n c     e with n as its neighbour c
--     common_face e o           the face of e that o has too: the left one is looked at first, the none mark for none
use Rattle.std.specs.Prelude.{cond, ℕ, get_or, set}
pub use Rattle.edge_ends.specs.Faces.{none, same_face}
use Rattle.edge_ends.specs.Connection.{index_of}
use Rattle.edge_ends.specs.declared.TnurccConnection.{TnurccConnection}
use Rattle.t_spline.specs.declared.TnurccEdge.{TnurccEdge}

abbrev pub connection_of : TnurccEdge → TnurccConnection → ℕ
connection_of e c = get_or e.connections (index_of c) 0

abbrev pub with_connection : TnurccEdge → ℕ → TnurccConnection → TnurccEdge
with_connection e n c =
    record {
      connections = set e.connections (index_of c) n;
      face_left = e.face_left;
      face_right = e.face_right;
      origin = e.origin;
      dest = e.dest;
      knot_interval = e.knot_interval;
    }

abbrev pub common_face : TnurccEdge → TnurccEdge → ℕ
common_face e o =
    cond (same_face e.face_left o.face_left) e.face_left
    (cond (same_face e.face_left o.face_right) e.face_left
    (cond (same_face e.face_right o.face_left) e.face_right
    (cond (same_face e.face_right o.face_right) e.face_right none)))
