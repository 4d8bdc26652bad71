-- same_way_before meets its contract. The invariant: no face before face g runs from p to q.
use mathlib.Core.Path.{◌∙◌}
use mathlib.Core.List.{[]}
use Prim.Native.Nat.{◌-◌}
use native.Mathlib.Omega.{arith}
use lib.ListN.{length}
use Rattle.building_tests.specs.Lent.{lists}
use Rattle.told_edges.proofs.Laws.{before-stop}
use Rattle.edge_lookups.proofs.Laws.{offset-fits, none_read, searched-none, searched-more, searched-all}
use Rattle.edge_lookups.proofs.same_way_before.Goals as goal

pub loop-g-init : goal.loop-g-init
loop-g-init c =
    searched-none (lists [] c.args.sides.now c.args.listed.now []) c.args.f c.args.p c.args.q

pub face_size-n-requires : goal.face_size-n-requires
face_size-n-requires c =
    omega (arith, c.loop-g-test.true, c.requires.f_in_bounds)

pub none_runs-requires : goal.none_runs-requires
none_runs-requires c =
    offset-fits (lists [] c.args.sides.now c.args.listed.now []) c.loop-g.a c.args.f c.loop-g.g
    c.face_size-n.result (length c.args.listed.now) c.loop-g.invariant.at-is c.face_size-n.ensures
    c.loop-g-test.true c.requires.f_in_bounds_2

pub returns-then-not-none_runs : goal.returns-then-not-none_runs
returns-then-not-none_runs c =
    before-stop (lists [] c.args.sides.now c.args.listed.now []) c.args.p c.args.q c.args.f c.loop-g.g
    c.loop-g-test.true c.loop-g.invariant.none_yet
    (none_read c.args.sides.now c.args.listed.now c.loop-g.a c.loop-g.g c.face_size-n.result
    c.args.p c.args.q c.loop-g.invariant.at-is c.face_size-n.ensures c.none_runs.ensures
    ∙ c.if-not-none_runs.true)

pub overflow_add-a : goal.overflow_add-a
overflow_add-a c =
    omega (
      arith,
      offset-fits (lists [] c.args.sides.now c.args.listed.now []) c.loop-g.a c.args.f c.loop-g.g
          c.face_size-n.result (length c.args.listed.now) c.loop-g.invariant.at-is
          c.face_size-n.ensures c.loop-g-test.true
          c.requires.f_in_bounds_2,
    )

pub loop-g-preserved : goal.loop-g-preserved
loop-g-preserved c =
    searched-more (lists [] c.args.sides.now c.args.listed.now []) c.args.f c.args.p c.args.q c.loop-g.a c.loop-g.g
    c.face_size-n.result c.loop-g.invariant c.loop-g-test.true c.face_size-n.ensures
    (none_read c.args.sides.now c.args.listed.now c.loop-g.a c.loop-g.g c.face_size-n.result c.args.p c.args.q
    c.loop-g.invariant.at-is c.face_size-n.ensures c.none_runs.ensures ∙ c.if-not-none_runs.false)

pub returns : goal.returns
returns c =
    searched-all (lists [] c.args.sides.now c.args.listed.now []) c.args.f c.args.p c.args.q c.loop-g.a c.loop-g.g
    c.loop-g.invariant (omega (arith, c.loop-g-test.false))
