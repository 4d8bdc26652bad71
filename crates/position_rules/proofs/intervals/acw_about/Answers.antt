-- acw_about meets its contract: the step is that of the walks.
use Rattle.position_rules.specs.Intervals.{acw_about}
use Rattle.position_rules.proofs.intervals.acw_about.Goals as goal

pub returns : goal.returns
unfolding acw_about
returns c =
    rw (c.index.ensures, c.acw_of_point.ensures)
