-- is_new meets its contract. The invariant: the points before place j are others.
use borrow.Author.Tests.{eq-eqb, ne_eqb}
use lib.ListN.{get_or}
use lib.Dec.{eqb}
use native.Mathlib.Omega.{arith}
use Prim.Native.Nat.{◌-◌, ◌+◌}
use mathlib.Core.Bool.{true, not}
use mathlib.Core.Path.{sym, ap}
use Rattle.audited_meshes.proofs.Folds.{every-none, every_more, every-stop}
use Rattle.listed_points.proofs.Laws.{whole}
use Rattle.listed_points.proofs.is_new.Goals as goal

pub loop-j-init : goal.loop-j-init
loop-j-init c =
    every-none
    (λ h. not (eqb (get_or c.args.listed.now (c.args.a + c.args.i) 0) (get_or c.args.listed.now (c.args.a + h) 0)))

pub returns-then-p-listed : goal.returns-then-p-listed
returns-then-p-listed c =
    sym (every-stop c.args.i c.loop-j.j
    (λ h. not (eqb (get_or c.args.listed.now (c.args.a + c.args.i) 0) (get_or c.args.listed.now (c.args.a + h) 0)))
    c.loop-j-test.true (ap not (eq-eqb _ _ c.if-p-listed.true)))

pub loop-j-preserved : goal.loop-j-preserved
loop-j-preserved c =
    every_more c.loop-j.j
    (λ h. not (eqb (get_or c.args.listed.now (c.args.a + c.args.i) 0) (get_or c.args.listed.now (c.args.a + h) 0)))
    c.loop-j.invariant (ap not (ne_eqb _ _ c.if-p-listed.false))

pub returns : goal.returns
returns c =
    sym (rw
    (whole c.loop-j.j c.args.i c.loop-j.auto.j-end c.loop-j-test.false) at
    c.loop-j.invariant)
