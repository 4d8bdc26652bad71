-- are_distinct meets its contract. The invariant: the points of the first i places are new.
use mathlib.Core.Path.{◌≡◌}
use mathlib.Core.Bool.{true}
use Rattle.audited_meshes.specs.Folds.{every}
use Rattle.audit_tests.specs.Parts.{differ_at}
use Rattle.audit_faces.proofs.are_distinct.Given as goal

abbrev pub invariant-loop-i : goal.invariant-loop-i
invariant-loop-i l = every l.i (λ k. every k (λ j. differ_at l.points k j)) ≡ true
