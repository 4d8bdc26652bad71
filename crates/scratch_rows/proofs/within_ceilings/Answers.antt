-- within_ceilings meets its contract: each test decides one of the definition's.
use Rattle.std.proofs.Common.{arith}
use Rattle.std.proofs.lemmas.Grind.{common_steps}
use Rattle.steps.specs.Step.{within_ceilings}
use Rattle.scratch_rows.proofs.within_ceilings.Goals as goal

pub returns-then-c-le-EDGE_CEILING : goal.returns-then-c-le-EDGE_CEILING
unfolding within_ceilings
returns-then-c-le-EDGE_CEILING c = grind (arith, common_steps)

pub returns-else-c-le-EDGE_CEILING : goal.returns-else-c-le-EDGE_CEILING
unfolding within_ceilings
returns-else-c-le-EDGE_CEILING c = grind (arith, common_steps)
