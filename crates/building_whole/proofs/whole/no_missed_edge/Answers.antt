-- no_missed_edge meets its contract. The invariant: no walk about a point before p misses an edge.
use Rattle.built_meshes.specs.Whole.{no_missed_edge}
use native.Mathlib.Omega.{arith}
use mathlib.Core.Path.{◌∙◌, sym}
use Rattle.audited_meshes.proofs.Folds.{every-none, every_more, every-stop}
use Rattle.listed_points.proofs.Laws.{whole}
use Rattle.building_whole.proofs.whole.no_missed_edge.Invariants.{passes}
use Rattle.building_whole.proofs.whole.no_missed_edge.Goals as goal

pub loop-p-init : goal.loop-p-init
loop-p-init c =
    every-none (passes c.args.points.now c.args.edges.now c.args.ne)

pub returns-then-not-walk_passes_all : goal.returns-then-not-walk_passes_all
unfolding no_missed_edge
returns-then-not-walk_passes_all c =
    sym (every-stop c.args.np c.loop-p.p
    (passes c.args.points.now c.args.edges.now c.args.ne) c.loop-p-test.true
    (sym c.walk_passes_all.ensures ∙ c.if-not-walk_passes_all.true))

pub loop-p-preserved : goal.loop-p-preserved
loop-p-preserved c =
    every_more c.loop-p.p (passes c.args.points.now c.args.edges.now c.args.ne)
    c.loop-p.invariant (sym c.walk_passes_all.ensures ∙ c.if-not-walk_passes_all.false)

pub returns : goal.returns
unfolding no_missed_edge
returns c =
    sym (rw (whole c.loop-p.p c.args.np c.loop-p.auto.p-end
    c.loop-p-test.false) at c.loop-p.invariant)
