-- zero_rows meets its contract, table by table.
use Rattle.tables.specs.Counted.{zeroed_rows}
use Rattle.counted_rows.proofs.zero_rows.Goals as goal

pub returns : goal.returns
unfolding zeroed_rows
returns c =
    rw (
      c.fill_first.ensures,
      c.fill_first-2.ensures,
      c.fill_first-3.ensures,
      c.fill_first-4.ensures,
      c.fill_first-5.ensures,
    )
