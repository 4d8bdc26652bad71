-- firsts_counted meets its contract.
use Rattle.building_lists.proofs.firsts_counted.Goals as goal

-- src/lib.rt:37:1
pub returns-in-Two : goal.returns-in-Two
returns-in-Two c =
    rw c.in-Two.is
