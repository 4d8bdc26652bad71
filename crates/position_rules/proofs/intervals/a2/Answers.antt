-- a2 meets its contract: the interval one step further from where the first step comes to.
use Rattle.position_rules.proofs.Fits.{acw-fits}
use Rattle.position_rules.proofs.intervals.a2.Goals as goal

pub a1-requires : goal.a1-requires
a1-requires c =
    rw c.acw_about.ensures (acw-fits _ _ c.args.p _ c.requires)

pub returns : goal.returns
returns c =
    rw c.acw_about.ensures at c.a1.ensures
