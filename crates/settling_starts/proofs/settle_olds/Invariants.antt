-- settle_olds meets its contract. The invariant: the start edges of the first p points are stored.
use mathlib.Core.Path.{◌≡◌}
use mathlib.Core.List.{[]}
use Rattle.tables.specs.Mesh.{mesh_of, edge_table}
use Rattle.refined_meshes.specs.Starts.{old_start, starts_put}
use Rattle.settling_starts.proofs.settle_olds.Given as goal

abbrev pub invariant-loop-p : goal.invariant-loop-p
invariant-loop-p l =
    l.newpoints ≡ starts_put l.p (λ p. p) (old_start (mesh_of [] l.points l.edges [] []) (edge_table l.newedges)) l.initial.newpoints
