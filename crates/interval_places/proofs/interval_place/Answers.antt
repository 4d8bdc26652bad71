-- interval_place meets its contract.
use Rattle.perimeters.proofs.Laws.{next-below}
use Rattle.interval_places.proofs.interval_place.Goals as goal

pub returns-in-Two : goal.returns-in-Two
returns-in-Two c =
    record { value = rw c.in-Two.is c.requires.next_value; upper_bound = rw c.requires.next_value (next-below c.args.n c.args.i c.requires.i_lt_n) }
