-- mark_points meets its contract. The invariant: the points before p are marked.
use lib.ListN.{length-set}
use native.Mathlib.Omega.{arith}
use mathlib.Core.Path.{refl, sym}
use Rattle.listed_points.proofs.Laws.{whole}
use Rattle.building_whole.proofs.Laws.{marked-none, marked_more}
use Rattle.building_whole.proofs.whole.mark_points.Goals as goal

pub loop-p-init : goal.loop-p-init
loop-p-init c = (
  refl,
  sym (marked-none c.args.points.now),
)

pub loop-p-preserved : goal.loop-p-preserved
loop-p-preserved c = (
  rw length-set c.loop-p.invariant.0,
  marked_more c.loop-p.p c.args.points.now c.loop-p.points
      c.mark_of.result c.loop-p.invariant.1 c.mark_of.ensures,
)

pub shape_of-points : goal.shape_of-points
shape_of-points c =
    c.loop-p.invariant.0

pub returns : goal.returns
returns c =
    rw (whole c.loop-p.p c.args.np c.loop-p.auto.p-end c.loop-p-test.false)
    at c.loop-p.invariant.1
