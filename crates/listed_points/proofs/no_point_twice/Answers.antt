-- no_point_twice meets its contract. The invariant: the points before place i are new.
use native.Mathlib.Omega.{arith}
use Prim.Native.Nat.{◌-◌}
use mathlib.Core.Bool.{true}
use mathlib.Core.Path.{◌∙◌, sym}
use Rattle.built_meshes.specs.Faces.{no_point_twice}
use Rattle.audited_meshes.proofs.Folds.{every-none, every_more, every-stop}
use Rattle.listed_points.proofs.Laws.{whole}
use Rattle.listed_points.proofs.no_point_twice.Invariants.{new}
use Rattle.listed_points.proofs.no_point_twice.Goals as goal

pub loop-i-init : goal.loop-i-init
loop-i-init c =
    every-none (new c.args.listed.now c.args.a)

pub returns-then-not-is_new : goal.returns-then-not-is_new
unfolding no_point_twice
returns-then-not-is_new c =
    sym (every-stop c.args.n c.loop-i.i (new c.args.listed.now c.args.a)
    c.loop-i-test.true (sym c.is_new.ensures ∙ c.if-not-is_new.true))

pub loop-i-preserved : goal.loop-i-preserved
loop-i-preserved c =
    every_more c.loop-i.i (new c.args.listed.now c.args.a)
    c.loop-i.invariant (sym c.is_new.ensures ∙ c.if-not-is_new.false)

pub returns : goal.returns
unfolding no_point_twice
returns c =
    sym (rw
    (whole c.loop-i.i c.args.n c.loop-i.auto.i-end c.loop-i-test.false) at
    c.loop-i.invariant)
