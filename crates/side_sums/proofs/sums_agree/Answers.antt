-- sums_agree meets its contract.
use Rattle.side_sums.proofs.Laws.{sums-one, sums-both, sums_first}
use Rattle.side_sums.proofs.sums_agree.Goals as goal

pub returns-then-is_small : goal.returns-then-is_small
returns-then-is_small c =
    sums-both _ _ _ _ _ c.in-Two.is c.is_small-in-Two.ensures
    c.if-is_small.true c.is_small-then-is_small.ensures

pub returns-in-One : goal.returns-in-One
returns-in-One c =
    sums-one _ _ _ _ _ c.in-One.is c.is_small.ensures

pub returns-else-is_small : goal.returns-else-is_small
returns-else-is_small c =
    sums_first _ _ _ _ _ c.in-Two.is c.is_small-in-Two.ensures c.if-is_small.false
