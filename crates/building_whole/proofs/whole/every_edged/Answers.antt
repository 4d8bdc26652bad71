-- every_edged meets its contract. The invariant: the points before p have an edge.
use borrow.Author.Tests.{eq-eqb, ne_eqb}
use Rattle.built_meshes.specs.Whole.{every_edged}
use lib.ListN.{get_or}
use lib.Dec.{eqb}
use native.Mathlib.Omega.{arith}
use Prim.Native.Nat.{◌*◌}
use mathlib.Core.Bool.{not}
use mathlib.Core.Path.{sym, ap}
use Rattle.audited_meshes.proofs.Folds.{every-none, every_more, every-stop}
use Rattle.listed_points.proofs.Laws.{whole}
use Rattle.building_whole.proofs.whole.every_edged.Goals as goal

pub loop-p-init : goal.loop-p-init
loop-p-init c =
    every-none (λ i. not (eqb (get_or c.args.points.now (i * 3) 0) 0))

pub returns-then-points-p-eq0 : goal.returns-then-points-p-eq0
unfolding every_edged
returns-then-points-p-eq0 c =
    sym (every-stop c.args.np c.loop-p.p
    (λ i. not (eqb (get_or c.args.points.now (i * 3) 0) 0)) c.loop-p-test.true
    (ap not (eq-eqb _ _ c.if-points-p-eq0.true)))

pub loop-p-preserved : goal.loop-p-preserved
loop-p-preserved c =
    every_more c.loop-p.p
    (λ i. not (eqb (get_or c.args.points.now (i * 3) 0) 0))
    c.loop-p.invariant (ap not (ne_eqb _ _ c.if-points-p-eq0.false))

pub returns : goal.returns
unfolding every_edged
returns c =
    sym (rw (whole c.loop-p.p c.args.np c.loop-p.auto.p-end c.loop-p-test.false) at
    c.loop-p.invariant)
