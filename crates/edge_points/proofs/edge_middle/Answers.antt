-- edge_middle meets its contract: both ends with their weights.
use Rattle.position_rules.specs.EdgePoint.{edge_middle}
use Rattle.edge_points.proofs.edge_middle.Goals as goal

pub returns : goal.returns
unfolding edge_middle
returns c =
    rw (
      c.middle.ensures,
      c.three_terms-wo.ensures,
      c.three_terms-wt.ensures,
      c.load_position-from.ensures,
      c.load_position-to.ensures,
    )
