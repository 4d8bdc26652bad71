-- are_shared meets its contract. The invariant: the places passed are shared.
use mathlib.Core.Path.{◌≡◌}
use mathlib.Core.Bool.{not, true, ◌&&◌}
use Prim.Native.Nat.{◌-◌, ◌≤◌}
use lib.Dec.{eqb}
use lib.ListN.{length, get_or}
use Rattle.audited_meshes.specs.Folds.{every}
use Rattle.shared_edges.proofs.are_shared.Given as goal

abbrev pub invariant-loop-k : goal.invariant-loop-k
invariant-loop-k l = every l.k (λ k. not (eqb (get_or l.mates k 0) 0 && eqb (get_or l.seconds k 0) 0)) ≡ true
