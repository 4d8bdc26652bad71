-- points_fit meets its contract. The invariant: the first p points pass.
use mathlib.Core.Path.{sym, ◌∙◌}
use Rattle.audited_meshes.specs.Quick.{point_fit}
use Rattle.audited_meshes.proofs.Folds.{every-none, every_more, every-stop}
use Rattle.audit_tests.proofs.points.points_fit.Goals as goal

pub loop-p-init : goal.loop-p-init
loop-p-init c =
    every-none _

pub returns-then-not-point_fit : goal.returns-then-not-point_fit
returns-then-not-point_fit c =
    sym (every-stop _ _ _ c.loop-p-test.true
    (sym c.point_fit.ensures ∙ c.if-not-point_fit.true))

pub loop-p-preserved : goal.loop-p-preserved
loop-p-preserved c =
    every_more _ _ c.loop-p.invariant
    (sym c.point_fit.ensures ∙ c.if-not-point_fit.false)
