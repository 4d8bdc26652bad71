-- put_places meets its contract. The invariant: the three arrays are filled up to i.
use Rattle.ring_places.proofs.Filling.{filled-start, filled-place}
use Rattle.ring_places.proofs.put_places.Goals as goal

pub loop-i-init : goal.loop-i-init
loop-i-init c =
    filled-start c.args.edges.now c.args.newedges.now c.args.perimeter.now c.args.f c.args.n c.args.firsts.now c.args.seconds.now
    c.args.mids.now

pub loop-i-preserved : goal.loop-i-preserved
loop-i-preserved c =
    filled-place c.args.edges.now c.args.newedges.now c.args.perimeter.now c.args.f c.args.n c.args.firsts.now c.args.seconds.now
    c.args.mids.now _ _ _ _ c.loop-i.invariant _ _ _ _
    c.loop-i-test.true
    c.index-row.ensures c.on_left-left.ensures
    c.first_half.ensures c.second_half.ensures
