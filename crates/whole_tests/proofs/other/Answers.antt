-- other meets its contract: the mate, or the place that has it as its mate.
use Prim.Native.Nat.{◌-◌}
use Rattle.whole_tests.proofs.Laws.{linked-none, linked-some}
use Rattle.whole_tests.proofs.other.Goals as goal

-- src/lib.rt:83:9
pub returns-then-mate-eq0 : goal.returns-then-mate-eq0
returns-then-mate-eq0 c =
    linked-none c.args.mate c.args.second _ c.if-mate-eq0.true
    c.link_place.ensures

-- src/lib.rt:79:1
pub returns : goal.returns
returns c =
    linked-some c.args.mate c.args.second _ c.if-mate-eq0.false
    c.link_place-2.ensures
