-- edge_from_opposing_point meets its contract. The invariant: the search has passed n edges, none of which touches q.
use Prim.Native.Nat.{ℕ}
use mathlib.Core.Bool.{Bool, ◌&&◌}
use lib.Dec.{ltb}
use Rattle.tables.specs.Mesh.{Mesh, start}
use Rattle.audited_meshes.specs.Walks.{acw_of_point, touches}
use Rattle.tables.specs.Parts.{point_tables}
use Rattle.walks.specs.Neighbour.{edge_to_point}
use Rattle.walks.proofs.Seeking.{Sought}
use Rattle.t_nurcc_control_point.proofs.edge_from_opposing_point.Given as goal

abbrev pub on : Mesh → ℕ → ℕ → ℕ → Bool
on m ne p e = ltb e ne && touches m p e

abbrev pub Way : Mesh → ℕ → ℕ → ℕ → ℕ → ℕ → ℕ → Type 0
Way m ne k p q n e = Sought (acw_of_point m p) (on m ne p) (touches m q) (start m p) k (edge_to_point m ne k p q) n e

abbrev pub invariant-loop-n : goal.invariant-loop-n
invariant-loop-n l = Way (point_tables l.points l.edges) l.ne l.k l.p l.q l._n l.e
