-- sum_of meets its contract. The invariant: the sum so far, which is below 2^32 for each word.
use lib.ListN.{get_or}
use Prim.Native.Nat.{◌≤◌, ◌*◌}
use mathlib.Core.Path.{◌≡◌}
use Rattle.closed_meshes.specs.Renumbering.{sum_to}
use Rattle.building_lists.proofs.sum_of.Given as goal

abbrev pub invariant-loop-k : goal.invariant-loop-k
invariant-loop-k l = (l.sum ≤ l.k * 4294967295) × (l.sum ≡ sum_to l.k (λ i. get_or l.words i 0))
