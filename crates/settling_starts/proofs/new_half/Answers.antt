-- new_half meets its contract: the joining edge on the left of e, then its LeftAcw.
use Rattle.settling_starts.proofs.new_half.Goals as goal

pub returns : goal.returns
returns c =
    rw c.index-join.ensures
