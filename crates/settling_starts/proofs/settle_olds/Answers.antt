-- settle_olds meets its contract. The invariant: the start edges of the first p points are stored.
use mathlib.Core.Path.{refl}
use native.Mathlib.Omega.{arith}
use Rattle.settling_starts.proofs.Laws.{starts_none, starts-turn, starts-end}
use Rattle.settling_starts.proofs.settle_olds.Goals as goal

pub loop-p-init : goal.loop-p-init
loop-p-init c =
    starts_none _ _ _

pub old_start-start-requires : goal.old_start-start-requires
old_start-start-requires c =
    c.requires.olds c.loop-p.p (omega arith)

pub loop-p-preserved : goal.loop-p-preserved
loop-p-preserved c =
    starts-turn _ _ c.loop-p.p c.loop-p.newpoints _ c.loop-p.p _ c.loop-p.invariant refl c.old_start-start.ensures

pub returns : goal.returns
returns c =
    starts-end _ _ c.loop-p.p c.args.np c.loop-p.newpoints c.args.newpoints.now (omega arith)
    c.loop-p.invariant
