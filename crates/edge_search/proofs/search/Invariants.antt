-- search meets its contract. The invariant: the edges that the chain has still to pass and the one found so far give what all edges
-- give; links fall, so the link is the measure.
use Rattle.edge_search.proofs.Searching.{Searching}
use Rattle.edge_search.proofs.search.Given as goal

abbrev pub invariant-loop-link : goal.invariant-loop-link
invariant-loop-link l = Searching l.edges l.p l.q l.k l.link l.found

abbrev pub decreases-loop-link : goal.decreases-loop-link
decreases-loop-link l = l.link
