-- put_side meets its contract: the words that are not stored stand in their row already.
use Rattle.ring_edges.proofs.Writing.{left-put, right-put}
use lib.ListN.{length-set}
use borrow.Author.Rules.{rules}
use Rattle.ring_edges.proofs.put_side.Goals as goal

pub returns-then-left : goal.returns-then-left
returns-then-left c =
    λ ps fs is k. left-put ps c.args.edges.now fs is k c.args.left c.args.e c.args.f c.args.acw c.args.cw c.if-left.true

pub returns : goal.returns
returns c =
    λ ps fs is k. right-put ps c.args.edges.now fs is k c.args.left c.args.e c.args.f c.args.acw c.args.cw c.if-left.false
