-- settle_centres meets its contract. The invariant: the start edges of the face points of the first f faces are stored.
use mathlib.Core.Path.{◌≡◌}
use mathlib.Core.List.{[]}
use Rattle.tables.specs.Mesh.{mesh_of, edge_table, corner}
use Rattle.refined_meshes.specs.Starts.{centre_join, starts_put}
use Rattle.settling_starts.proofs.settle_centres.Given as goal

abbrev pub invariant-loop-f : goal.invariant-loop-f
invariant-loop-f l =
    l.newpoints ≡ starts_put l.f (λ f. corner (mesh_of [] [] [] [] l.newfaces) f 0) (centre_join (mesh_of [] [] l.edges [] l.faces) (edge_table l.newedges)) l.initial.newpoints
