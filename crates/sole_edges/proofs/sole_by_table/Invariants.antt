-- sole_by_table meets its contract. The invariant: the points before pass.
use Rattle.tables.specs.Parts.{point_tables}
use Rattle.sole_edges.specs.Sole.{RoundsFrom}
use Rattle.sole_edges.proofs.sole_by_table.Given as goal

abbrev pub invariant-loop-p : goal.invariant-loop-p
invariant-loop-p l =
    RoundsFrom (point_tables l.points l.edges) l.p l.ne l.from
