-- split_edge meets its contract: the halves are stored, then the midpoint and the start edge of the old destination.
use Rattle.splitting.proofs.Splitting.{edge-split}
use Rattle.splitting.proofs.split_edge.Goals as goal

pub returns : goal.returns
returns c =
    edge-split _ _ _ _ _ _ _ _ c.args.taken c.put_halves-d.ensures.value c.put_halves-d.ensures.edges_after
    c.put_halves-d.ensures.intervals_after c.put_ends.ensures
