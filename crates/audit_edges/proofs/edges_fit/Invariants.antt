-- edges_fit meets its contract. The invariant: the first e edges pass the test but for their clockwise links. All edges pass that test
-- exactly if all pass the whole.
use mathlib.Core.Path.{◌≡◌}
use mathlib.Core.Bool.{true}
use Rattle.audited_meshes.specs.Folds.{every}
use Rattle.audit_edges.specs.HalfLinks.{half_fit}
use Rattle.tables.specs.Parts.{edge_tables}
use Rattle.audit_edges.proofs.edges_fit.Given as goal

abbrev pub invariant-loop-e : goal.invariant-loop-e
invariant-loop-e l =
    every l.e (λ k. half_fit (edge_tables l.edges l.intervals) l.np l.ne l.nf k) ≡ true
