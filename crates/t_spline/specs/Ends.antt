-- What stands at the ends and the sides of an edge, and its neighbours about them, as the Rust's methods give them.
--     point_at_end e end         the point at that end
--     face_from_side e side      the face on that side
--     end_of e p                the end at which e has the point p, if it has it: the origin is looked at first
--     side_of e f               the side on which e has the face f, if it has it: the left side is looked at first
--     acw_from_point e p         the next edge anticlockwise about p, the none mark where p is no end of e; and so on
--     common_point e o          the point of e that o has too: the origin is looked at first, the none mark for none
use Rattle.std.specs.Prelude.{cond, Option, Some, None, ℕ, eqb}
use Rattle.edge_ends.specs.Ends.{acw_at_end, cw_at_end, acw_on_side, cw_on_side}
use Rattle.edge_ends.specs.declared.TnurccConnection.{TnurccConnection}
use Rattle.edge_ends.specs.declared.TnurccVertexEnd.{TnurccVertexEnd}
use Rattle.edge_ends.specs.declared.TnurccVertexEnd.TheVariants.{Origin, Dest}
use Rattle.edge_ends.specs.declared.TnurccFaceSide.{TnurccFaceSide}
use Rattle.edge_ends.specs.declared.TnurccFaceSide.TheVariants.{Left, Right}
use Rattle.t_spline.specs.Edge.{none, connection_of}
use Rattle.t_spline.specs.declared.TnurccEdge.{TnurccEdge}

abbrev pub point_at_end : TnurccEdge → TnurccVertexEnd → ℕ
point_at_end e Origin = e.origin
point_at_end e Dest = e.dest

abbrev pub face_from_side : TnurccEdge → TnurccFaceSide → ℕ
face_from_side e Left = e.face_left
face_from_side e Right = e.face_right

abbrev pub end_of : TnurccEdge → ℕ → Option TnurccVertexEnd
end_of e p = cond (eqb e.origin p) (Some Origin) (cond (eqb e.dest p) (Some Dest) None)

abbrev pub side_of : TnurccEdge → ℕ → Option TnurccFaceSide
side_of e f = cond (eqb e.face_left f) (Some Left) (cond (eqb e.face_right f) (Some Right) None)

abbrev pub neighbour_if : TnurccEdge → (TnurccVertexEnd → TnurccConnection) → Option TnurccVertexEnd → ℕ
neighbour_if e choice (Some end) = connection_of e (choice end)
neighbour_if e choice None = none

abbrev pub acw_from_point : TnurccEdge → ℕ → ℕ
acw_from_point e p = neighbour_if e acw_at_end (end_of e p)

abbrev pub cw_from_point : TnurccEdge → ℕ → ℕ
cw_from_point e p = neighbour_if e cw_at_end (end_of e p)

abbrev pub beside_if : TnurccEdge → (TnurccFaceSide → TnurccConnection) → Option TnurccFaceSide → ℕ
beside_if e choice (Some side) = connection_of e (choice side)
beside_if e choice None = none

abbrev pub acw_from_face : TnurccEdge → ℕ → ℕ
acw_from_face e f = beside_if e acw_on_side (side_of e f)

abbrev pub cw_from_face : TnurccEdge → ℕ → ℕ
cw_from_face e f = beside_if e cw_on_side (side_of e f)

abbrev pub common_point : TnurccEdge → TnurccEdge → ℕ
common_point e o =
    cond (eqb e.origin o.origin) e.origin
    (cond (eqb e.origin o.dest) e.origin
    (cond (eqb e.dest o.origin) e.dest
    (cond (eqb e.dest o.dest) e.dest none)))
