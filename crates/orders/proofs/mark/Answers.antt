-- mark meets its contract: each test decides one of the definition's.
use borrow.Author.Tests.{lt-ltb, le-ltb}
use Rattle.orders.proofs.mark.Goals as goal

pub returns-then-o-base : goal.returns-then-o-base
returns-then-o-base c =
    record { value = rw (lt-ltb _ _ c.if-o-base.true); seen_after = rw (lt-ltb _ _ c.if-o-base.true) }

pub returns-then-k-ge-WINDOW : goal.returns-then-k-ge-WINDOW
returns-then-k-ge-WINDOW c =
    record { value = rw (le-ltb _ _ c.if-o-base.false, le-ltb _ _ c.if-k-ge-WINDOW.true); seen_after = rw (le-ltb _ _ c.if-o-base.false, le-ltb _ _ c.if-k-ge-WINDOW.true) }

pub returns : goal.returns
returns c =
    record { value = rw (le-ltb _ _ c.if-o-base.false, lt-ltb _ _ c.if-k-ge-WINDOW.false); seen_after = rw (le-ltb _ _ c.if-o-base.false, lt-ltb _ _ c.if-k-ge-WINDOW.false) }
