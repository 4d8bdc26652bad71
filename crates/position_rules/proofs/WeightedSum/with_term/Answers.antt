-- with_term meets its contract: the operations are those of the definition.
use Rattle.position_rules.proofs.WeightedSum.with_term.Goals as goal

pub returns : goal.returns
returns c =
    rw (c.plus.ensures, c.times.ensures)
