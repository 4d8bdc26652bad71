-- put_found meets its contract. The invariant: the first i intervals are found.
use Rattle.refined_meshes.proofs.Turns.{filled_none, filled-turn}
use lib.Ieee.{nan}
use lib.ListN.{get_or}
use Prim.Native.Nat.{ℕ}
use mathlib.Core.Path.{ap}
use Rattle.ring_places.proofs.put_found.Invariants.{found_at}
use Rattle.ring_places.proofs.put_found.Goals as goal

pub loop-i-init : goal.loop-i-init
loop-i-init c =
    filled_none (found_at c.args.intervals.now c.args.perimeter.now) c.args.found.now

pub loop-i-preserved : goal.loop-i-preserved
loop-i-preserved c =
    filled-turn (found_at c.args.intervals.now c.args.perimeter.now) c.loop-i.i _ c.args.found.now _ c.loop-i.invariant
    (ap (λ (e : ℕ). get_or c.args.intervals.now e nan) c.index-e.ensures)
