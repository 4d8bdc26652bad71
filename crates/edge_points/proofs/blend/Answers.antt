-- blend meets its contract: the operations are those of the definition.
use Rattle.edge_points.proofs.blend.Goals as goal

pub returns : goal.returns
returns c =
    rw (
      c.plus-2.ensures,
      c.plus.ensures,
      c.times.ensures,
      c.times-2.ensures,
      c.times-3.ensures,
    )
