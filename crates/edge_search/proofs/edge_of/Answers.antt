-- edge_of meets its contract.
use Rattle.edge_search.proofs.Chains.{link_to-edge}
use Rattle.edge_search.proofs.edge_of.Goals as goal

pub returns : goal.returns
returns c =
    link_to-edge c.args.link c.if-link-eq0.false
