-- valences_fit meets its contract. The invariant: the sum is that of the first p valences and not past the total.
use mathlib.Core.Path.{sym}
use native.Mathlib.Omega.{arith}
use Rattle.audit_tests.proofs.Laws.{sum_to-none, sum_to-more, sum_to-stop}
use Rattle.audit_tests.proofs.points.valences_fit.Goals as goal

pub loop-p-init : goal.loop-p-init
loop-p-init c = (
  sym (sum_to-none _),
  omega arith,
)

pub returns-then-total-sum : goal.returns-then-total-sum
returns-then-total-sum c =
    sum_to-stop _ _ _ c.loop-p.invariant.0 _ _ _
    c.loop-p-test.true c.index-sum.ensures c.if-total-sum.true

pub loop-p-preserved : goal.loop-p-preserved
loop-p-preserved c = (
  sum_to-more _ _ _ c.loop-p.invariant.0 _ c.index-sum.ensures,
  c.if-total-sum.false,
)
