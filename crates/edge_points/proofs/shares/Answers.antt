-- shares meets its contract: the sums and quotients are those of the definition.
use Rattle.position_rules.specs.EdgePoint.{shares}
use Rattle.edge_points.proofs.shares.Goals as goal

pub returns : goal.returns
unfolding shares
returns c =
    rw (
      c.share.ensures,
      c.share-2.ensures,
      c.neighbour-left_cw.ensures,
      c.neighbour-left_acw.ensures,
      c.neighbour-right_cw.ensures,
      c.neighbour-right_acw.ensures,
    )
