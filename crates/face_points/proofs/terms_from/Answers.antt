-- terms_from meets its contract: two steps anticlockwise are one step from the edge before.
use Rattle.face_points.proofs.terms_from.Goals as goal

pub a1-a-requires : goal.a1-a-requires
a1-a-requires c =
    rw c.index-2.ensures c.requires.edge_fits

pub c2-c-requires : goal.c2-c-requires
c2-c-requires c =
    rw c.index-e.ensures c.requires.edge_fits_2

pub returns : goal.returns
returns c =
    rw (
      c.a1-a.ensures,
      c.c2-c.ensures,
      c.index-e.ensures,
      c.index.ensures,
      c.index-2.ensures,
      c.index-3.ensures,
      c.requires.i_value,
    )
