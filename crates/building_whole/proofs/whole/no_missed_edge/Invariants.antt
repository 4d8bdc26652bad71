-- no_missed_edge meets its contract. The invariant: no walk about a point before p misses an edge.
use Rattle.tables.specs.Parts.{point_tables}
use Rattle.tables.specs.Mesh.{valence}
use Rattle.audited_meshes.specs.Walks.{passed, point_walk}
use mathlib.Core.List.{List}
use lib.Dec.{ltb}
use Prim.Native.Nat.{ℕ, ◌≤◌, ◌-◌}
use mathlib.Core.Bool.{Bool, true, not}
use mathlib.Core.Path.{◌≡◌}
use Rattle.audited_meshes.specs.Folds.{every}
use Rattle.building_whole.proofs.whole.no_missed_edge.Given as goal

-- whether the walk about point p passes as many edges as its valence
abbrev pub passes : List ℕ → List ℕ → ℕ → ℕ → Bool
passes pts es ne p = not (ltb (passed (point_walk (point_tables pts es) ne (valence (point_tables pts es) p) p)) (valence (point_tables pts es) p))

abbrev pub invariant-loop-p : goal.invariant-loop-p
invariant-loop-p l = every l.p (passes l.points l.edges l.ne) ≡ true
