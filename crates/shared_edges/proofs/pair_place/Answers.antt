-- pair_place meets its contract: its stores are the definition's.
use native.Mathlib.Omega.{arith}
use lib.ListN.{length-set}
use Rattle.shared_edges.proofs.Laws.{paired_none, paired-some}
use Rattle.shared_edges.proofs.pair_place.Goals as goal

pub returns-then-m-eq0 : goal.returns-then-m-eq0
returns-then-m-eq0 c =
    paired_none c.args.mates.now c.args.seconds.now c.args.k c.args.m c.if-m-eq0.true

pub bounds-mates-j : goal.bounds-mates-j
bounds-mates-j c =
    simp length-set (omega (arith, c.index-j.ensures, c.requires.pair_room.mates-fit, c.requires.m_le_k))

pub returns : goal.returns
returns c =
    paired-some c.args.mates.now c.args.seconds.now c.args.k c.args.m c.index-j.result
    (omega (arith, c.index-j.ensures, c.if-m-eq0.false))
