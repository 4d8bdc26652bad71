-- search meets its contract. The invariant: the places that the chain has still to pass hold what all places hold; links fall, so the
-- link is the measure.
use Rattle.shared_edges.proofs.Laws.{Searching}
use Rattle.shared_edges.proofs.search.Given as goal

abbrev pub invariant-loop-link : goal.invariant-loop-link
invariant-loop-link l = Searching l.listed l.tos l.k l.p l.q l.link

abbrev pub decreases-loop-link : goal.decreases-loop-link
decreases-loop-link l = l.link
