-- edge_point meets its contract: the shares and the two face points are those of the definition.
use Rattle.position_rules.proofs.Fits.{neighbours-fit}
use Rattle.edge_points.proofs.edge_point.Goals as goal

pub load_face_point-left-requires : goal.load_face_point-left-requires
load_face_point-left-requires c =
    rw (c.index.ensures, c.load_edge-edge.ensures) (record { face_width_in_bounds = c.requires.left-row; position_width_in_bounds = c.requires.left-place })

pub load_face_point-right-requires : goal.load_face_point-right-requires
load_face_point-right-requires c =
    rw (c.index-2.ensures, c.load_edge-edge.ensures) (record { face_width_in_bounds = c.requires.right-row; position_width_in_bounds = c.requires.right-place })

pub shares-requires : goal.shares-requires
shares-requires c =
    rw c.load_edge-edge.ensures (neighbours-fit _ _ _ c.requires.edge-fits)

pub returns : goal.returns
returns c =
    rw (
      c.blend.ensures,
      c.shares.ensures,
      c.load_face_point-left.ensures,
      c.load_face_point-right.ensures,
      c.index.ensures,
      c.index-2.ensures,
      c.load_edge-edge.ensures,
    )
