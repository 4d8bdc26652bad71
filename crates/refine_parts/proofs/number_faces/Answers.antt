-- number_faces meets its contract: the first i entries are 0, 1, ..
use Rattle.std.proofs.Common.{arith, refl}
use Rattle.runs.specs.Runs.{numbered}
use Rattle.refine_parts.proofs.Filling.{filled-turn, filled-end}
use Rattle.refine_parts.proofs.number_faces.Goals as goal

pub loop-i-init : goal.loop-i-init
unfolding numbered
loop-i-init c = refl

pub loop-i-preserved : goal.loop-i-preserved
loop-i-preserved c = filled-turn c.loop-i.order c.loop-i.i c.loop-i.invariant (omega arith)

pub returns : goal.returns
returns c = filled-end c.loop-i.order c.loop-i.i _ c.loop-i.invariant c.loop-i.auto.order c.loop-i.auto.i-end c.loop-i-test.false
