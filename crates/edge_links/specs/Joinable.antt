-- Whether two edges can be connected, as the Rust's `connect` answers.
--     share_face e o         some face state holds of the two
--     joinable e o          they share a face and a point: a mismatched state makes no link and counts too
use Rattle.std.specs.Prelude.{Bool, true, false, cond, ltb}
use Rattle.t_spline.specs.Edge.{same_face}
use Rattle.t_spline.specs.declared.TnurccEdge.{TnurccEdge}
use Rattle.edge_links.specs.Connect.{vertex_state}

abbrev pub share_face : TnurccEdge → TnurccEdge → Bool
share_face e o =
    cond (same_face e.face_left o.face_left) true
    (cond (same_face e.face_left o.face_right) true
    (cond (same_face e.face_right o.face_left) true (same_face e.face_right o.face_right)))

abbrev pub joinable : TnurccEdge → TnurccEdge → Bool
joinable e o = cond (share_face e o) (ltb (vertex_state e o) 4) false
