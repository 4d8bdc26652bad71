-- put_found meets its contract. The invariant: the first i intervals are found.
use Rattle.refined_meshes.specs.Turns.{filled}
use lib.Ieee.{Float, nan}
use mathlib.Core.List.{List}
use lib.ListN.{get_or}
use Prim.Native.Nat.{ℕ}
use mathlib.Core.Path.{◌≡◌}
use Rattle.ring_places.proofs.put_found.Given as goal

abbrev pub found_at : List Float → List ℕ → ℕ → Float
found_at intervals perimeter i = get_or intervals (get_or perimeter i 0) nan

abbrev pub invariant-loop-i : goal.invariant-loop-i
invariant-loop-i l = l.found ≡ filled l.i (found_at l.intervals l.perimeter) l.initial.found
