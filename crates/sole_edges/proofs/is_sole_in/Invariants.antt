-- is_sole_in meets its contract. The invariant: the edges passed are noted at their other ends, and the walk is not at its start again.
use Prim.Native.Nat.{◌<◌}
use mathlib.Core.Logic.{◌≢◌}
use Rattle.tables.specs.Mesh.{start}
use Rattle.tables.specs.Parts.{point_tables}
use Rattle.sole_edges.proofs.Walking.{Walking}
use Rattle.sole_edges.proofs.is_sole_in.Given as goal

abbrev pub invariant-loop-n : goal.invariant-loop-n
invariant-loop-n l =
    Walking (point_tables l.points l.edges) l.ne l.p l.base l.k l.seen l.n l.i × (0 < l.n → l.i ≢ start (point_tables l.points l.edges) l.p)
