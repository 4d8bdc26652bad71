-- told_edge meets its contract. The invariant: the listed points of the faces before face g are there.
use mathlib.Core.List.{[]}
use Prim.Native.Nat.{◌-◌}
use native.Mathlib.Omega.{arith}
use Rattle.building_tests.specs.Lent.{lists}
use Rattle.told_edges.proofs.Laws.{no-face}
use Rattle.edge_lookups.proofs.Laws.{face-cut, begun-none, begun_more, begun_all}
use Rattle.edge_lookups.proofs.told_edge.Goals as goal

pub returns-then-sides-f : goal.returns-then-sides-f
returns-then-sides-f c =
    no-face (lists [] c.args.sides.now c.args.listed.now []) c.args.f c.args.i c.if-sides-f.true

pub loop-g-init : goal.loop-g-init
loop-g-init c =
    begun-none (lists [] c.args.sides.now c.args.listed.now []) c.args.f

pub face_size-n-requires : goal.face_size-n-requires
face_size-n-requires c =
    omega (arith, c.loop-g-test.true, c.if-sides-f.false)

pub overflow_sub-listed : goal.overflow_sub-listed
overflow_sub-listed c =
    omega (arith, c.loop-g.invariant.all_there)

pub returns-then-listed-a : goal.returns-then-listed-a
returns-then-listed-a c =
    face-cut (lists [] c.args.sides.now c.args.listed.now []) c.loop-g.a c.args.f c.loop-g.g c.args.i
    c.face_size-n.result c.loop-g.invariant.at-is c.face_size-n.ensures
    c.loop-g-test.true (omega (arith, c.if-sides-f.false))
    (omega (arith, c.loop-g.invariant.all_there, c.if-listed-a.true))

pub overflow_add-a : goal.overflow_add-a
overflow_add-a c =
    omega (arith, c.loop-g.invariant.all_there, c.if-listed-a.false)

pub loop-g-preserved : goal.loop-g-preserved
loop-g-preserved c =
    begun_more (lists [] c.args.sides.now c.args.listed.now []) c.args.f c.loop-g.a c.loop-g.g
    c.face_size-n.result c.loop-g.invariant c.loop-g-test.true c.face_size-n.ensures
    (omega (arith, c.loop-g.invariant.all_there, c.if-listed-a.false))

pub told_from-requires : goal.told_from-requires
told_from-requires c =
    record {
      f_in_bounds = omega (arith, c.if-sides-f.false);
      a_value = begun_all (lists [] c.args.sides.now c.args.listed.now []) c.args.f c.loop-g.a c.loop-g.g c.loop-g.invariant
          (omega (arith, c.loop-g-test.false));
      a_in_bounds = c.loop-g.invariant.all_there;
    }

pub returns : goal.returns
returns c =
    c.told_from.ensures
