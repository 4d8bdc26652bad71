-- share meets its contract: the two answers are the two cases of the definition.
use mathlib.Core.Path.{sym, ◌∙◌}
use Rattle.edge_points.proofs.share.Goals as goal

pub returns-then-is_small : goal.returns-then-is_small
returns-then-is_small c =
    rw (sym c.is_small.ensures ∙ c.if-is_small.true)

pub returns : goal.returns
returns c =
    rw (sym c.is_small.ensures ∙ c.if-is_small.false)
