-- spans_depth meets its contract: the definition's two cases, one after the other.
use mathlib.Core.Path.{◌∙◌, sym}
use Rattle.depth_finder.proofs.spans_depth.Goals as goal

pub returns-then-is_between : goal.returns-then-is_between
returns-then-is_between c =
    rw (sym c.is_between.ensures ∙ c.if-is_between.true)

pub returns : goal.returns
returns c =
    rw (sym c.is_between.ensures ∙ c.if-is_between.false) c.is_between-2.ensures
