-- touch meets its contract.
use native.Mathlib.Omega.{arith}
use Rattle.edge_search.proofs.touch.Goals as goal

pub overflow_add-points : goal.overflow_add-points
overflow_add-points c =
    rw c.index-b.ensures (omega (arith, c.requires.point_width_bound))

pub returns : goal.returns
returns c =
    rw c.index-b.ensures
