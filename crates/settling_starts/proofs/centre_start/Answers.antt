-- centre_start meets its contract: by the side of the start edge that the face is on.
use Rattle.settling_starts.proofs.Laws.{centre-left, centre-right}
use Rattle.settling_starts.proofs.centre_start.Goals as goal

pub returns-then-left-f : goal.returns-then-left-f
returns-then-left-f c =
    centre-left c.args.edges.now c.args.faces.now c.args.newedges.now c.args.f c.index-e.result
    c.index-left.result c.index-e.ensures c.index-left.ensures c.if-left-f.true

pub returns-else-left-f : goal.returns-else-left-f
returns-else-left-f c =
    centre-right c.args.edges.now c.args.faces.now c.args.newedges.now c.args.f c.index-e.result
    c.index-left.result c.index-e.ensures c.index-left.ensures c.if-left-f.false
