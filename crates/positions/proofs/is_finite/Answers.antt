-- is_finite meets its contract, by the law on the difference of a number from itself.
use Rattle.positions.proofs.Laws.{sub-self-zero}
use Rattle.positions.proofs.is_finite.Goals as goal

pub returns : goal.returns
returns c =
    sub-self-zero _
