-- settle_side meets its contract. The invariant: the joining edges of the first e rows are settled.
use mathlib.Core.Path.{◌≡◌}
use Rattle.refined_meshes.specs.Settled.{settled_side}
use Rattle.settling.proofs.settle_side.Given as goal

abbrev pub invariant-loop-e : goal.invariant-loop-e
invariant-loop-e l =
    l.newintervals ≡ settled_side l.edges l.intervals l.newedges l.w l.next l.prev l.e l.initial.newintervals
