-- point_walk meets its contract. The invariant: the walk has passed n edges.
use Prim.Native.Nat.{ℕ}
use mathlib.Core.Bool.{Bool, ◌&&◌}
use lib.Dec.{ltb}
use Rattle.tables.specs.Mesh.{Mesh, start}
use Rattle.audited_meshes.specs.Walks.{acw_of_point, touches, point_walk}
use Rattle.tables.specs.Parts.{point_tables}
use Rattle.walks.proofs.Counting.{Counted}
use Rattle.t_nurcc_iter.proofs.point_walk.Given as goal

abbrev pub on : Mesh → ℕ → ℕ → ℕ → Bool
on m ne p e = ltb e ne && touches m p e

abbrev pub Way : Mesh → ℕ → ℕ → ℕ → ℕ → ℕ → Type 0
Way m ne k p n e = Counted (acw_of_point m p) (on m ne p) (start m p) k (point_walk m ne k p) n e

abbrev pub invariant-loop-v : goal.invariant-loop-v
invariant-loop-v l = Way (point_tables l.points l.edges) l.ne l.k l.p l.v l.e
