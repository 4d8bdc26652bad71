-- settle_joins meets its contract: both sides are settled one after the other.
use Rattle.settling.proofs.Laws.{side-fit-length, both-settled}
use Rattle.settling.proofs.settle_joins.Goals as goal

pub settle_side-requires-2 : goal.settle_side-requires-2
settle_side-requires-2 c =
    side-fit-length c.settle_side.auto.newintervals c.requires.right

pub returns : goal.returns
returns c =
    both-settled c.args.edges.now c.args.intervals.now c.args.ne c.args.newedges.now c.args.newintervals.now _ _
    c.settle_side.ensures c.settle_side-2.ensures
