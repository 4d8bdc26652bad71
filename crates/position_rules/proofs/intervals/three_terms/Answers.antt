-- three_terms meets its contract: the sums are those of the definition.
use Rattle.position_rules.specs.Intervals.{three_terms}
use Rattle.position_rules.proofs.intervals.three_terms.Goals as goal

pub returns : goal.returns
unfolding three_terms
returns c =
    rw (c.a2-a.ensures, c.c2-c.ensures)
