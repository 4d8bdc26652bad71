-- told_from meets its contract: the place is tested, then its points are read and the faces before are searched.
use mathlib.Core.List.{[]}
use native.Mathlib.Omega.{arith}
use Rattle.building_tests.specs.Lent.{lists}
use Rattle.told_edges.proofs.Laws.{no-points, no_place}
use Rattle.edge_lookups.proofs.Laws.{told-there}
use Rattle.edge_lookups.proofs.told_from.Goals as goal

pub returns-then-listed-a : goal.returns-then-listed-a
returns-then-listed-a c =
    no-points (lists [] c.args.sides.now c.args.listed.now []) c.args.f c.args.i c.requires.f_in_bounds
    (omega (arith, c.face_size-n.ensures, c.requires.a_value, c.if-listed-a.true))

pub returns-then-n-i : goal.returns-then-n-i
returns-then-n-i c =
    no_place (lists [] c.args.sides.now c.args.listed.now []) c.args.f c.args.i c.requires.f_in_bounds
    (omega (arith, c.face_size-n.ensures, c.requires.a_value, c.requires.a_in_bounds, c.if-listed-a.false))
    (omega (arith, c.face_size-n.ensures, c.if-n-i.true))

pub returns : goal.returns
returns c =
    told-there (lists [] c.args.sides.now c.args.listed.now []) c.args.f c.args.i c.args.a c.face_size-n.result
    c.next_place-j.result c.requires.f_in_bounds c.requires.a_value c.face_size-n.ensures
    (omega (arith, c.requires.a_in_bounds, c.if-listed-a.false))
    (omega (arith, c.if-n-i.false)) c.next_place-j.ensures.value
    c.same_way_before.ensures
