-- The ends and the sides of an edge, and which of its neighbours are next about them, as the Rust's methods give them.
--     acw_at_end end             which neighbour is next anticlockwise about the point at that end; cw_at_end: clockwise
--     other_end end             the other end
--     acw_on_side side           which neighbour is next anticlockwise about the face on that side; cw_on_side: clockwise
--     first_end side            the end at which a walk anticlockwise about the face on that side comes to the edge
use Rattle.edge_ends.specs.declared.TnurccConnection.{TnurccConnection}
use Rattle.edge_ends.specs.declared.TnurccConnection.TheVariants.{LeftCw, LeftAcw, RightCw, RightAcw}
use Rattle.edge_ends.specs.declared.TnurccVertexEnd.{TnurccVertexEnd}
use Rattle.edge_ends.specs.declared.TnurccVertexEnd.TheVariants.{Origin, Dest}
use Rattle.edge_ends.specs.declared.TnurccFaceSide.{TnurccFaceSide}
use Rattle.edge_ends.specs.declared.TnurccFaceSide.TheVariants.{Left, Right}

abbrev pub acw_at_end : TnurccVertexEnd → TnurccConnection
acw_at_end Origin = LeftCw
acw_at_end Dest = RightCw

abbrev pub cw_at_end : TnurccVertexEnd → TnurccConnection
cw_at_end Origin = RightAcw
cw_at_end Dest = LeftAcw

abbrev pub other_end : TnurccVertexEnd → TnurccVertexEnd
other_end Origin = Dest
other_end Dest = Origin

abbrev pub acw_on_side : TnurccFaceSide → TnurccConnection
acw_on_side Left = LeftAcw
acw_on_side Right = RightAcw

abbrev pub cw_on_side : TnurccFaceSide → TnurccConnection
cw_on_side Left = LeftCw
cw_on_side Right = RightCw

abbrev pub first_end : TnurccFaceSide → TnurccVertexEnd
first_end Left = Origin
first_end Right = Dest
