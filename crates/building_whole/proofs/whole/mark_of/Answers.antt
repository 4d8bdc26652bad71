-- mark_of meets its contract.
use borrow.Author.Tests.{eq-eqb, ne_eqb}
use Rattle.building_whole.proofs.whole.mark_of.Goals as goal

pub returns-then-v-eq4 : goal.returns-then-v-eq4
returns-then-v-eq4 c =
    rw (eq-eqb _ _ c.if-v-eq4.true)

pub returns-else-v-eq4 : goal.returns-else-v-eq4
returns-else-v-eq4 c =
    rw (ne_eqb _ _ c.if-v-eq4.false)
