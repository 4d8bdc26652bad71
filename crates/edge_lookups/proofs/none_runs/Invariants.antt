-- none_runs meets its contract. The invariant: no place before j runs so.
use mathlib.Core.Path.{◌≡◌}
use mathlib.Core.Bool.{true, not, ◌&&◌}
use Prim.Native.Nat.{◌≤◌, ◌-◌, ◌+◌}
use lib.Dec.{eqb}
use lib.ListN.{get_or}
use Rattle.perimeters.specs.Places.{next_place}
use Rattle.audited_meshes.specs.Folds.{every}
use Rattle.edge_lookups.proofs.none_runs.Given as goal

abbrev pub invariant-loop-j : goal.invariant-loop-j
invariant-loop-j l = every l.j (λ k. not (eqb (get_or l.listed (l.a + k) 0) l.p && eqb (get_or l.listed (l.a + next_place l.n k) 0) l.q)) ≡ true
