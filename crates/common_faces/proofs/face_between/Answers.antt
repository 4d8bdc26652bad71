-- face_between meets its contract: the likely face is the common one if it is a face of the next edge, else common_face answers.
use mathlib.Core.Path.{◌∙◌}
use Rattle.position_rules.proofs.Fits.{row-there}
use Rattle.common_faces.proofs.Sides.{likely-common}
use Rattle.common_faces.proofs.face_between.Goals as goal

pub likely_face-f-requires : goal.likely_face-f-requires
likely_face-f-requires c =
    record { edge_width_in_bounds = row-there _ _ _ c.requires.edge_fits; edge_width_in_bounds_2 = row-there _ _ _ c.requires.edge_fits_2 }

pub borders-requires : goal.borders-requires
borders-requires c =
    row-there _ _ _ c.requires.edge_fits_2

pub returns-then-borders : goal.returns-then-borders
returns-then-borders c =
    c.index.ensures
    ∙ likely-common c.args.edges.now c.args.intervals.now c.args.r c.args.next _ _
    c.likely_face-f.ensures c.borders.ensures c.if-borders.true

pub returns : goal.returns
returns c =
    rw (
      c.index-2.ensures,
      c.common_face.ensures,
      c.load_edge.ensures,
      c.load_edge-2.ensures,
    )
