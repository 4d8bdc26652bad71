-- rows_for meets its contract: each test decides one of the definition's.
use borrow.Author.Tests.{le-leb, lt-leb}
use Rattle.tables.specs.Counted.{rows_for}
use Rattle.counted_rows.proofs.rows_for.Goals as goal

pub returns-then-point_rows-c : goal.returns-then-point_rows-c
unfolding rows_for
returns-then-point_rows-c c =
    rw (← c.point_rows.ensures, lt-leb _ _ c.if-point_rows-c.true)

pub returns-then-edge_rows-c : goal.returns-then-edge_rows-c
unfolding rows_for
returns-then-edge_rows-c c =
    rw (
      ← c.point_rows.ensures,
      ← c.edge_rows.ensures,
      le-leb _ _ c.if-point_rows-c.false,
      lt-leb _ _ c.if-edge_rows-c.true,
    )

pub returns : goal.returns
unfolding rows_for
returns c =
    rw (
      ← c.point_rows.ensures,
      ← c.edge_rows.ensures,
      ← c.face_rows.ensures,
      le-leb _ _ c.if-point_rows-c.false,
      le-leb _ _ c.if-edge_rows-c.false,
    )
