-- chain_edge meets its contract: its two stores are the definition's.
use native.Mathlib.Omega.{arith}
use lib.ListN.{length-set}
use Rattle.edge_search.specs.Chains.{chained_edge}
use Rattle.edge_search.proofs.chain_edge.Goals as goal

pub bounds-chain-b-2 : goal.bounds-chain-b-2
bounds-chain-b-2 c =
    simp length-set (omega (arith, c.bucket-b.ensures.upper_bound))

pub returns : goal.returns
unfolding chained_edge
returns c =
    rw (c.index.ensures, c.bucket-b.ensures.value)
