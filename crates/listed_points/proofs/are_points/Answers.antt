-- are_points meets its contract. The invariant: the listed points before i are in range.
use borrow.Author.Tests.{le-ltb, lt-ltb}
use lib.ListN.{get_or}
use lib.Dec.{ltb}
use native.Mathlib.Omega.{arith}
use Prim.Native.Nat.{◌-◌, ◌+◌}
use mathlib.Core.Bool.{true}
use mathlib.Core.Path.{sym}
use Rattle.built_meshes.specs.Faces.{listed_in_range}
use Rattle.audited_meshes.proofs.Folds.{every-none, every_more, every-stop}
use Rattle.listed_points.proofs.Laws.{whole}
use Rattle.listed_points.proofs.are_points.Goals as goal

pub loop-i-init : goal.loop-i-init
loop-i-init c =
    every-none (λ j. ltb (get_or c.args.listed.now (c.args.a + j) 0) c.args.np)

pub returns-then-np-index : goal.returns-then-np-index
unfolding listed_in_range
returns-then-np-index c =
    sym (every-stop c.args.n c.loop-i.i
    (λ j. ltb (get_or c.args.listed.now (c.args.a + j) 0) c.args.np) c.loop-i-test.true
    (le-ltb _ _ (rw c.index.ensures at c.if-np-index.true)))

pub loop-i-preserved : goal.loop-i-preserved
loop-i-preserved c =
    every_more c.loop-i.i (λ j. ltb (get_or c.args.listed.now (c.args.a + j) 0) c.args.np) c.loop-i.invariant
    (lt-ltb _ _ (rw c.index.ensures at c.if-np-index.false))

pub returns : goal.returns
unfolding listed_in_range
returns c =
    sym (rw
    (whole c.loop-i.i c.args.n c.loop-i.auto.i-end c.loop-i-test.false) at
    c.loop-i.invariant)
