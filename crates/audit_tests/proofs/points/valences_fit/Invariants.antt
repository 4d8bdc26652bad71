-- valences_fit meets its contract. The invariant: the sum is that of the first p valences and not past the total.
use Prim.Native.Nat.{◌≤◌}
use mathlib.Core.Path.{◌≡◌}
use mathlib.Core.List.{[]}
use Rattle.closed_meshes.specs.Renumbering.{sum_to}
use Rattle.tables.specs.Mesh.{valence}
use Rattle.tables.specs.Parts.{point_tables}
use Rattle.audit_tests.proofs.points.valences_fit.Given as goal

abbrev pub invariant-loop-p : goal.invariant-loop-p
invariant-loop-p l =
    (l.sum ≡ sum_to l.p (λ k. valence (point_tables l.points []) k)) × (l.sum ≤ l.total)
