-- faces_fit meets its contract. The invariant: the first f faces pass.
use mathlib.Core.Path.{sym, ◌∙◌}
use native.Mathlib.Omega.{arith}
use Rattle.audited_meshes.proofs.Folds.{every-none, every_more, every-stop}
use Rattle.audit_tests.proofs.Laws.{every-all}
use Rattle.audited_meshes.specs.Quick.{face_fit}
use Rattle.face_rows.proofs.faces_fit.Goals as goal

pub loop-f-init : goal.loop-f-init
loop-f-init c =
    every-none _

pub returns-then-not-face_fit : goal.returns-then-not-face_fit
returns-then-not-face_fit c =
    sym (every-stop _ _ _ c.loop-f-test.true
    (sym c.face_fit.ensures ∙ c.if-not-face_fit.true))

pub loop-f-preserved : goal.loop-f-preserved
loop-f-preserved c =
    every_more _ _ c.loop-f.invariant
    (sym c.face_fit.ensures ∙ c.if-not-face_fit.false)

pub returns : goal.returns
returns c =
    sym (every-all _ _ _ c.loop-f.invariant (omega arith))
