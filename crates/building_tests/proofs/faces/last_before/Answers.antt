-- last_before meets its contract.
use native.Mathlib.Omega.{arith}
use Rattle.building_tests.proofs.Laws.{last-first, last_more}
use Rattle.building_tests.proofs.faces.last_before.Goals as goal

-- src/faces.rt:94:9
pub returns-then-b-eq0 : goal.returns-then-b-eq0
returns-then-b-eq0 c =
    record { value = last-first _ _ c.if-b-eq0.true; upper_bound = omega arith }

-- src/faces.rt:87:1
pub returns : goal.returns
returns c =
    record { value = last_more _ _ c.if-b-eq0.false; upper_bound = omega arith }
