-- are_distinct meets its contract. The invariant: the points of the first i places are new.
use Prim.Native.Nat.{ℕ}
use mathlib.Core.Path.{sym, ◌∙◌, ap}
use native.Mathlib.Omega.{arith}
use Rattle.audited_meshes.specs.Folds.{every}
use Rattle.audited_meshes.proofs.Folds.{every-none, every_more, every-stop}
use Rattle.audit_tests.proofs.Laws.{every-all}
use Rattle.audit_tests.specs.Parts.{differ_at}
use Rattle.audit_faces.proofs.FaceTests.{new-differs}
use Rattle.audit_faces.proofs.are_distinct.Goals as goal

-- of four
pub returns-then-n-eq4 : goal.returns-then-n-eq4
returns-then-n-eq4 c =
    c.four_are_distinct.ensures ∙ ap (λ (n : ℕ). every n (λ k. every k (λ j. differ_at c.args.points.now k j))) (sym c.if-n-eq4.true)

pub loop-i-init : goal.loop-i-init
loop-i-init c =
    every-none _

pub returns-then-not-is_new_among : goal.returns-then-not-is_new_among
returns-then-not-is_new_among c =
    sym (every-stop _ _ _ c.loop-i-test.true
    (sym (new-differs c.args.points.now c.loop-i.i) ∙ sym c.is_new_among.ensures ∙ c.if-not-is_new_among.true))

pub loop-i-preserved : goal.loop-i-preserved
loop-i-preserved c =
    every_more _ _ c.loop-i.invariant
    (sym (new-differs c.args.points.now c.loop-i.i) ∙ sym c.is_new_among.ensures ∙ c.if-not-is_new_among.false)

pub returns : goal.returns
returns c =
    sym (every-all _ _ _ c.loop-i.invariant (omega arith))
