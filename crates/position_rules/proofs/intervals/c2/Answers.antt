-- c2 meets its contract: the interval one step further from where the first step comes to.
use Rattle.position_rules.proofs.Fits.{cw-fits}
use Rattle.position_rules.proofs.intervals.c2.Goals as goal

pub c1-requires : goal.c1-requires
c1-requires c =
    rw c.cw_about.ensures (cw-fits _ _ c.args.p _ c.requires)

pub returns : goal.returns
returns c =
    rw c.cw_about.ensures at c.c1.ensures
