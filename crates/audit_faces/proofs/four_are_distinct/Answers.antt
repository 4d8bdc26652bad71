-- four_are_distinct meets its contract: a pair that is the same is one place that is not new, and all six pairs are looked at.
use Prim.Native.Nat.{ℕ}
use mathlib.Core.Path.{sym, ap}
use mathlib.Core.Bool.{Bool, not}
use mathlib.Core.List.{List}
use native.Mathlib.Omega.{arith}
use borrow.Author.Tests.{eq-eqb, ne_eqb}
use Rattle.audited_meshes.specs.Folds.{every}
use Rattle.audited_meshes.proofs.Folds.{every-none, every_more, every-stop}
use Rattle.audit_tests.specs.Parts.{differ_at}
use Rattle.audit_faces.proofs.four_are_distinct.Goals as goal

-- whether the point at a place is at none of the places before it
abbrev new : List ℕ → ℕ → Bool
new ps i = every i (λ j. differ_at ps i j)

pub returns-then-second-first : goal.returns-then-second-first
returns-then-second-first c =
    sym (every-stop 4 1 _ (omega arith) (every-stop 1 0 _ (omega arith) (ap not (eq-eqb _ _ c.if-second-first.true))))

pub returns-then-third-first : goal.returns-then-third-first
returns-then-third-first c =
    sym (every-stop 4 2 _ (omega arith) (every-stop 2 0 _ (omega arith) (ap not (eq-eqb _ _ c.if-third-first.true))))

pub returns-then-third-second : goal.returns-then-third-second
returns-then-third-second c =
    sym (every-stop 4 2 _ (omega arith) (every-stop 2 1 _ (omega arith) (ap not (eq-eqb _ _ c.if-third-second.true))))

pub returns-then-fourth-first : goal.returns-then-fourth-first
returns-then-fourth-first c =
    sym (every-stop 4 3 _ (omega arith) (every-stop 3 0 _ (omega arith) (ap not (eq-eqb _ _ c.if-fourth-first.true))))

pub returns-then-fourth-second : goal.returns-then-fourth-second
returns-then-fourth-second c =
    sym (every-stop 4 3 _ (omega arith) (every-stop 3 1 _ (omega arith) (ap not (eq-eqb _ _ c.if-fourth-second.true))))

pub returns-then-fourth-third : goal.returns-then-fourth-third
returns-then-fourth-third c =
    sym (every-stop 4 3 _ (omega arith) (every-stop 3 2 _ (omega arith) (ap not (eq-eqb _ _ c.if-fourth-third.true))))

pub returns : goal.returns
returns c =
    let second = every_more 0 (differ_at c.args.points.now 1) (every-none _)
    (ap not (ne_eqb _ _ c.if-second-first.false)) in
    let third = every_more 1 (differ_at c.args.points.now 2)
    (every_more 0 (differ_at c.args.points.now 2) (every-none _) (ap not (ne_eqb _ _ c.if-third-first.false)))
    (ap not (ne_eqb _ _ c.if-third-second.false)) in
    let fourth = every_more 2 (differ_at c.args.points.now 3)
    (every_more 1 (differ_at c.args.points.now 3)
    (every_more 0 (differ_at c.args.points.now 3) (every-none _) (ap not (ne_eqb _ _ c.if-fourth-first.false)))
    (ap not (ne_eqb _ _ c.if-fourth-second.false))) (ap not (ne_eqb _ _ c.if-fourth-third.false)) in
    sym (every_more 3 (new c.args.points.now)
    (every_more 2 (new c.args.points.now)
    (every_more 1 (new c.args.points.now) (every_more 0 (new c.args.points.now) (every-none _) (every-none _)) second)
    third) fourth)
