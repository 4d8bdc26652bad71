-- note meets its contract: each test decides one of the definition's.
use mathlib.Core.Bool.{not}
use mathlib.Core.List.{[]}
use mathlib.Core.Path.{◌∙◌, ap, ap₂}
use borrow.Author.Tests.{lt-ltb, le-ltb}
use Rattle.tables.specs.Parts.{face_tables}
use Rattle.sole_edges.specs.Sole.{second}
use Rattle.sole_edges.proofs.note.Goals as goal

pub returns-then-q-base : goal.returns-then-q-base
returns-then-q-base c =
    record { value = rw (lt-ltb _ _ c.if-q-base.true); seen_after = rw (lt-ltb _ _ c.if-q-base.true) }

pub returns-then-k-ge-WINDOW : goal.returns-then-k-ge-WINDOW
returns-then-k-ge-WINDOW c =
    record { value = rw (le-ltb _ _ c.if-q-base.false, le-ltb _ _ c.if-k-ge-WINDOW.true); seen_after = rw (le-ltb _ _ c.if-q-base.false, le-ltb _ _ c.if-k-ge-WINDOW.true) }

pub returns : goal.returns
returns c =
    record {
      value = rw (le-ltb _ _ c.if-q-base.false, lt-ltb _ _ c.if-k-ge-WINDOW.false)
          (ap not (c.is_second.ensures
          ∙ ap₂ (second (face_tables c.args.edges.now []) c.args.ne c.args.p c.args.q) c.index.ensures
          c.index-2.ensures));
      seen_after = rw (le-ltb _ _ c.if-q-base.false, lt-ltb _ _ c.if-k-ge-WINDOW.false);
    }
