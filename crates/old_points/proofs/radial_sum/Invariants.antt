-- radial_sum meets its contract. The invariant: the sum is that of the first i edges, r is the next one and `next` the one after it, and the
-- intervals about r are kept.
use Rattle.old_points.proofs.Radial.{Summed}
use Rattle.old_points.proofs.radial_sum.Given as goal

abbrev pub invariant-loop-i : goal.invariant-loop-i
invariant-loop-i l =
    Summed l.edges l.intervals l.newpositions l.newedges l.newfaces l.p l.start l.n l.s l.r l.next l.fan l.i
