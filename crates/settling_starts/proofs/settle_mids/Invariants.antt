-- settle_mids meets its contract. The invariant: the start edges of the midpoints of the first e edges are stored.
use mathlib.Core.Path.{◌≡◌}
use Rattle.tables.specs.Mesh.{edge_table, dest}
use Rattle.refined_meshes.specs.Starts.{new_half, starts_put}
use Rattle.settling_starts.proofs.settle_mids.Given as goal

abbrev pub invariant-loop-e : goal.invariant-loop-e
invariant-loop-e l =
    l.newpoints ≡ starts_put l.e (dest (edge_table l.newedges)) (new_half (edge_table l.newedges)) l.initial.newpoints
