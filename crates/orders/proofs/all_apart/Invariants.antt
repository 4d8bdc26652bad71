-- all_apart meets its contract. The invariant: no face stands twice in the windows passed.
use Prim.Native.Nat.{ℕ, ◌+◌, ◌*◌, ◌/◌, ◌<◌}
use mathlib.Core.Path.{◌≡◌}
use lib.ListN.{length}
use Rattle.orders.specs.Orders.{window, ApartAbove}
use Rattle.orders.proofs.all_apart.Given as goal

abbrev pub invariant-loop-k : goal.invariant-loop-k
invariant-loop-k l =
    (l.passes ≡ length l.order / 65536 + 1) × ((j : ℕ) → j < l.k → ApartAbove (j * window) l.order)
