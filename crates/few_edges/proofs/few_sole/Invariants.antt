-- few_sole meets its contract. The invariant: the other ends of the edges passed stand in ends, and differ.
use Rattle.tables.specs.Parts.{point_tables}
use Rattle.few_edges.proofs.Comparing.{Comparing}
use Rattle.few_edges.proofs.few_sole.Given as goal

abbrev pub invariant-loop-n : goal.invariant-loop-n
invariant-loop-n l =
    Comparing (point_tables l.points l.edges) l.ne l.p l.k l.ends l.n l.i
