-- points_fit meets its contract. The invariant: the first p points pass.
use mathlib.Core.Path.{◌≡◌}
use mathlib.Core.Bool.{true}
use Rattle.audited_meshes.specs.Folds.{every}
use Rattle.audited_meshes.specs.Quick.{point_fit}
use Rattle.tables.specs.Parts.{position_tables}
use Rattle.audit_tests.proofs.points.points_fit.Given as goal

abbrev pub invariant-loop-p : goal.invariant-loop-p
invariant-loop-p l = every l.p (λ k. point_fit (position_tables l.positions l.points) l.ne k) ≡ true
