-- first_fits meets its contract.
use Rattle.building_tests.proofs.faces.first_fits.Goals as goal

-- src/faces.rt:100:1
pub returns : goal.returns
returns c =
    rw c.last_before-j.ensures.value
