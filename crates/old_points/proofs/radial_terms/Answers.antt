-- radial_terms meets its contract: the two terms are those of the definition.
use Rattle.old_points.proofs.radial_terms.Goals as goal

pub load_face_point-requires : goal.load_face_point-requires
load_face_point-requires c =
    rw c.face_between-f.ensures (record { face_width_in_bounds = c.requires.face-row; position_width_in_bounds = c.requires.face-place })

pub returns : goal.returns
returns c =
    rw (
      c.with_term.ensures,
      c.with_term-edge_term.ensures,
      c.load_edge_point.ensures,
      c.edge_weight.ensures,
      c.load_face_point.ensures,
      c.face_between-f.ensures,
    )
