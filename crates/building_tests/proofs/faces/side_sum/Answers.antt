-- side_sum meets its contract. The invariant: the sum of the intervals before i.
use lib.ListN.{get_or}
use lib.Ieee.{Float, nan, add, binary64}
use native.Mathlib.Omega.{arith}
use Prim.Native.Nat.{◌+◌}
use mathlib.Core.Path.{◌∙◌, sym, ap}
use Rattle.listed_points.proofs.Laws.{whole}
use Rattle.building_tests.proofs.Laws.{side_sum-none, side_sum-more}
use Rattle.building_tests.proofs.faces.side_sum.Goals as goal

pub loop-i-init : goal.loop-i-init
loop-i-init c =
    sym (side_sum-none c.args.beside.now c.args.a)

pub loop-i-preserved : goal.loop-i-preserved
loop-i-preserved c =
    ap (λ (x : Float). add binary64 x (get_or c.args.beside.now (c.args.a + c.loop-i.i) nan)) c.loop-i.invariant
    ∙ sym (side_sum-more c.args.beside.now c.args.a c.loop-i.i)

pub returns : goal.returns
returns c =
    rw (whole c.loop-i.i c.args.n c.loop-i.auto.i-end c.loop-i-test.false) at
    c.loop-i.invariant
