-- is_new_among meets its contract. The invariant: q stands at none of the places passed.
use mathlib.Core.Bool.{true}
use mathlib.Core.Path.{◌≡◌}
use Rattle.audit_tests.specs.Parts.{new_among}
use Rattle.audit_tests.proofs.points.is_new_among.Given as goal

abbrev pub invariant-loop-point : goal.invariant-loop-point
invariant-loop-point l = new_among l.points l.point-index l.q ≡ true
