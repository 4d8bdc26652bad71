-- `within` meets its contract.
use native.Mathlib.Omega.{arith}
use Rattle.std.proofs.lemmas.Bool.Decides.{nat_tests}
use Rattle.mesh_text.specs.Reading.{within}
use Rattle.text_sizes.proofs.within.Goals as goal

pub returns-then-c-ds : goal.returns-then-c-ds
unfolding within
returns-then-c-ds c =
    grind (arith, nat_tests)

pub returns-else-c-ds : goal.returns-else-c-ds
unfolding within
returns-else-c-ds c =
    grind (arith, nat_tests)
