-- middle meets its contract: the two answers are the two cases of the definition.
use mathlib.Core.Path.{sym, ◌∙◌}
use Rattle.edge_points.proofs.middle.Goals as goal

pub returns-then-is_small : goal.returns-then-is_small
returns-then-is_small c =
    rw (
      c.times.ensures,
      c.plus.ensures,
      sym c.is_small.ensures ∙ c.if-is_small.true,
    )

pub returns : goal.returns
returns c =
    rw (
      c.over.ensures,
      c.plus-2.ensures,
      c.times-2.ensures,
      c.times-3.ensures,
      sym c.is_small.ensures ∙ c.if-is_small.false,
    )
