-- old_start meets its contract: by whether the point is the far end of its old start edge.
use Rattle.settling_starts.proofs.Laws.{start-split, start-kept}
use Rattle.settling_starts.proofs.old_start.Goals as goal

pub new_half-requires : goal.new_half-requires
new_half-requires c =
    rw c.index-e.ensures c.requires.half

pub returns-then-far-p : goal.returns-then-far-p
returns-then-far-p c =
    start-split c.args.points.now c.args.edges.now c.args.newedges.now c.args.p c.index-e.result
    c.index-far.result c.index-e.ensures c.index-far.ensures c.if-far-p.true
    c.new_half.result c.new_half.ensures

pub returns-else-far-p : goal.returns-else-far-p
returns-else-far-p c =
    start-kept c.args.points.now c.args.edges.now c.args.newedges.now c.args.p c.index-e.result
    c.index-far.result c.index-e.ensures c.index-far.ensures c.if-far-p.false
