-- is_new_among meets its contract. The invariant: q stands at none of the places passed.
use mathlib.Core.Bool.{not}
use mathlib.Core.Path.{sym, ◌∙◌, ap}
use Prim.Native.Nat.{◌<◌}
use native.Mathlib.Omega.{arith}
use borrow.Author.Tests.{eq-eqb, ne_eqb}
use lib.Seq.{length-take-le}
use Rattle.std.proofs.lemmas.List.{get_or-take}
use Rattle.audited_meshes.proofs.Folds.{every-none, every_more, every-stop}
use Rattle.audit_tests.proofs.points.is_new_among.Goals as goal

pub loop-point-init : goal.loop-point-init
loop-point-init c = every-none _

pub returns-then-point-q : goal.returns-then-point-q
returns-then-point-q c =
    let long = length-take-le c.args.n c.args.points.now c.requires in
    let here : c.loop-point.point-index < c.args.n = omega arith in
    let same = get_or-take c.args.n c.args.points.now c.loop-point.point-index 0 here in
    sym (every-stop _ _ _ here (ap not (eq-eqb _ _ (sym same ∙ c.if-point-q.true))))

pub loop-point-preserved : goal.loop-point-preserved
loop-point-preserved c =
    let long = length-take-le c.args.n c.args.points.now c.requires in
    let here : c.loop-point.point-index < c.args.n = omega arith in
    let same = get_or-take c.args.n c.args.points.now c.loop-point.point-index 0 here in
    every_more _ _ c.loop-point.invariant (ap not (ne_eqb _ _ (λ e. c.if-point-q.false (same ∙ e))))
