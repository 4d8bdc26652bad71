-- terms_to meets its contract: two steps clockwise are one step from the edge after.
use Rattle.face_points.proofs.terms_to.Goals as goal

pub a2-a-requires : goal.a2-a-requires
a2-a-requires c =
    rw c.index-e.ensures c.requires.edge_fits

pub c1-c-requires : goal.c1-c-requires
c1-c-requires c =
    rw c.index-3.ensures c.requires.edge_fits_2

pub returns : goal.returns
returns c =
    rw (
      c.a2-a.ensures,
      c.c1-c.ensures,
      c.index-e.ensures,
      c.index.ensures,
      c.index-2.ensures,
      c.index-3.ensures,
      c.requires.i_value,
    )
