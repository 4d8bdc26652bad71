-- is_second meets its contract: each test decides one of the definition's.
use mathlib.Core.Path.{sym, ◌∙◌}
use borrow.Author.Tests.{lt-ltb, le-ltb, eq-eqb, ne_eqb}
use Rattle.sole_edges.proofs.is_second.Goals as goal

pub returns-then-ne-s : goal.returns-then-ne-s
returns-then-ne-s c =
    rw (le-ltb _ _ c.if-ne-s.true)

pub returns-then-s-i : goal.returns-then-s-i
returns-then-s-i c =
    rw (lt-ltb _ _ c.if-ne-s.false, eq-eqb _ _ c.if-s-i.true)

pub returns-then-not-touches : goal.returns-then-not-touches
returns-then-not-touches c =
    rw (
      lt-ltb _ _ c.if-ne-s.false,
      ne_eqb _ _ c.if-s-i.false,
      sym c.touches.ensures ∙ c.if-not-touches.true,
    )

pub returns : goal.returns
returns c =
    rw (
      lt-ltb _ _ c.if-ne-s.false,
      ne_eqb _ _ c.if-s-i.false,
      sym c.touches.ensures ∙ c.if-not-touches.false,
    ) c.touches-2.ensures
