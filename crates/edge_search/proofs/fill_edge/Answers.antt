-- fill_edge meets its contract: each test decides one of the definition's.
use Rattle.edge_search.proofs.Chains.{filled-triple, filled-same-way, filled-made}
use Rattle.edge_search.proofs.fill_edge.Goals as goal

pub returns-then-edges-b : goal.returns-then-edges-b
returns-then-edges-b c =
    filled-triple c.args.edges.now c.args.k c.args.f c.args.e c.args.p
    (rw c.index-b.ensures at c.if-edges-b.true)

pub returns-then-edges-b-2 : goal.returns-then-edges-b-2
returns-then-edges-b-2 c =
    filled-same-way c.args.edges.now c.args.k c.args.f c.args.e c.args.p
    (rw c.index-b.ensures at c.if-edges-b.false) (rw c.index-b.ensures at c.if-edges-b-2.true)

pub returns : goal.returns
returns c =
    rw c.index-b.ensures (filled-made c.args.edges.now c.args.k c.args.f c.args.e c.args.p
    (rw c.index-b.ensures at c.if-edges-b.false) (rw c.index-b.ensures at c.if-edges-b-2.false))
