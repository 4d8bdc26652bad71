-- radial_edges meets its contract. The invariant: the first i edges of the walk stand in the words, and e is the next.
use Rattle.tables.specs.Parts.{point_tables}
use Rattle.walks.proofs.Radial.{Radial}
use Rattle.t_nurcc_control_point.proofs.radial_edges.Given as goal

abbrev pub invariant-loop-i : goal.invariant-loop-i
invariant-loop-i l = Radial (point_tables l.points l.edges) l.ne l.p l.n l.initial.radial l.radial l.i l.e
