-- all_below meets its contract. The invariant: the entries passed are below nf.
use mathlib.Core.Bool.{true}
use mathlib.Core.Path.{◌≡◌}
use lib.ListN.{get_or}
use lib.Dec.{ltb}
use Rattle.audited_meshes.specs.Folds.{every}
use Rattle.orders.proofs.all_below.Given as goal

abbrev pub invariant-loop-i : goal.invariant-loop-i
invariant-loop-i l = every l.i (λ k. ltb (get_or l.order k 0) l.nf) ≡ true
