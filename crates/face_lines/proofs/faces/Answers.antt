-- `faces` meets its contract. The invariant is `FacesSoFar`; the measure is what is left of the text.
pub mod Turn
use native.Mathlib.Omega.{arith}
use mathlib.Core.Path.{sym, ◌∙◌}
use Prim.Native.Nat.{◌-◌}
use Rattle.face_lines.proofs.faces.Answers.Turn.{start, turn, stop, end, head-inside, line-longer}
use Rattle.face_lines.proofs.faces.Goals as goal

pub loop-ls-init : goal.loop-ls-init
loop-ls-init c =
    start _ _ _ _ _ _ c.requires

pub stands-requires : goal.stands-requires
stands-requires c =
    c.loop-ls.invariant.inside

pub overflow_add-i : goal.overflow_add-i
overflow_add-i c =
    let h = head-inside _ _ _ _ _ _ _ _ _ _ _ _ _ c.loop-ls.invariant
    (sym c.stands.ensures ∙ c.loop-ls-test.true) in
    omega arith

pub overflow_mul-k : goal.overflow_mul-k
overflow_mul-k c =
    let h = head-inside _ _ _ _ _ _ _ _ _ _ _ _ _ c.loop-ls.invariant
    (sym c.stands.ensures ∙ c.loop-ls-test.true) in
    omega arith

pub face-requires : goal.face-requires
face-requires c =
    let h = head-inside _ _ _ _ _ _ _ _ _ _ _ _ _ c.loop-ls.invariant
    (sym c.stands.ensures ∙ c.loop-ls-test.true) in
    omega arith

pub returns-in_err-m-clause-faces : goal.returns-in_err-m-clause-faces
returns-in_err-m-clause-faces c =
    c.from_residual.ensures ∙ stop _ _ _ _ _ _ _ _ _ _ _ _ _ c.loop-ls.invariant (sym c.stands.ensures ∙ c.loop-ls-test.true)
    c.face.ensures.run c.in_err-m.was

pub overflow_add-k : goal.overflow_add-k
overflow_add-k c =
    let h = line-longer _ _ _ _ _ _ _ _ _ _ _ _ _ c.loop-ls.invariant (sym c.stands.ensures ∙ c.loop-ls-test.true) c.face.ensures.run
    c.in_ok-m.was in
    omega arith

pub overflow_add-c : goal.overflow_add-c
overflow_add-c c =
    let h = line-longer _ _ _ _ _ _ _ _ _ _ _ _ _ c.loop-ls.invariant (sym c.stands.ensures ∙ c.loop-ls-test.true) c.face.ensures.run
    c.in_ok-m.was in
    omega arith

pub loop-ls-smaller : goal.loop-ls-smaller
loop-ls-smaller c =
    let h = line-longer _ _ _ _ _ _ _ _ _ _ _ _ _ c.loop-ls.invariant (sym c.stands.ensures ∙ c.loop-ls-test.true) c.face.ensures.run
    c.in_ok-m.was in
    omega arith

pub loop-ls-preserved : goal.loop-ls-preserved
loop-ls-preserved c =
    turn _ _ _ _ _ _ _ _ _ _ _ _ _ c.loop-ls.invariant (sym c.stands.ensures ∙ c.loop-ls-test.true) c.face.ensures.run
    c.in_ok-m.was c.face.ensures.lengths c.face.ensures.firsts c.face.ensures.points
    c.face.ensures.intervals

pub returns : goal.returns
returns c =
    let whole = end _ _ _ _ _ _ _ _ _ _ _ _ _ c.loop-ls.invariant
    (sym c.stands.ensures ∙ c.loop-ls-test.false) in record { faces = whole.0; lengths = whole.1.0; firsts = whole.1.1.0; points = whole.1.1.1.0; intervals = whole.1.1.1.1 }
