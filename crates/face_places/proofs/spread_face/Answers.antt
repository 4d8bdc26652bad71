-- spread_face meets its contract. The invariant: the places passed are spread.
use Prim.Native.Nat.{◌-◌}
use native.Mathlib.Omega.{arith}
use Rattle.face_places.proofs.Laws.{spreading-none, spreading-in, spreading-in-faces, spreading-more, spreading-all}
use Rattle.face_places.proofs.spread_face.Goals as goal

pub loop-i-init : goal.loop-i-init
loop-i-init c =
    spreading-none c.args.listed.now c.args.f c.args.a c.args.n c.args.tos.now c.args.faces.now

pub next_place-j-requires : goal.next_place-j-requires
next_place-j-requires c =
    c.loop-i-test.true

pub overflow_add-tos : goal.overflow_add-tos
overflow_add-tos c =
    omega (arith, c.next_place-j.ensures.upper_bound, c.requires.n_in_bounds, c.requires.listed_len_bound)

pub offset_bounds-listed-a : goal.offset_bounds-listed-a
offset_bounds-listed-a c =
    omega (arith, c.next_place-j.ensures.upper_bound, c.requires.n_in_bounds, c.requires.listed_len_bound)

pub bounds-listed-a : goal.bounds-listed-a
bounds-listed-a c =
    omega (arith, c.next_place-j.ensures.upper_bound, c.requires.n_in_bounds, c.requires.listed_len_bound)

pub overflow_add-tos-in-loop-i : goal.overflow_add-tos-in-loop-i
overflow_add-tos-in-loop-i c =
    omega (arith, c.loop-i-test.true, c.requires.n_in_bounds, c.requires.listed_len_bound)

pub offset_bounds-tos-a : goal.offset_bounds-tos-a
offset_bounds-tos-a c =
    omega (arith, c.loop-i-test.true, c.requires.n_in_bounds, c.requires.listed_len_bound)

pub bounds-tos-a : goal.bounds-tos-a
bounds-tos-a c =
    spreading-in c.args.listed.now c.args.f c.args.a c.args.n c.args.tos.now c.args.faces.now c.loop-i.tos
    c.loop-i.faces c.loop-i.i c.loop-i.invariant c.loop-i-test.true c.requires.n_in_bounds_2 c.requires.n_in_bounds_3

pub overflow_add-faces : goal.overflow_add-faces
overflow_add-faces c =
    omega (arith, c.loop-i-test.true, c.requires.n_in_bounds, c.requires.listed_len_bound)

pub offset_bounds-faces-a : goal.offset_bounds-faces-a
offset_bounds-faces-a c =
    omega (arith, c.loop-i-test.true, c.requires.n_in_bounds, c.requires.listed_len_bound)

pub bounds-faces-a : goal.bounds-faces-a
bounds-faces-a c =
    spreading-in-faces c.args.listed.now c.args.f c.args.a c.args.n c.args.tos.now c.args.faces.now c.loop-i.tos
    c.loop-i.faces c.loop-i.i c.loop-i.invariant c.loop-i-test.true c.requires.n_in_bounds_2 c.requires.n_in_bounds_3

pub loop-i-preserved : goal.loop-i-preserved
loop-i-preserved c =
    spreading-more c.args.listed.now c.args.f c.args.a c.args.n c.args.tos.now c.args.faces.now c.loop-i.tos
    c.loop-i.faces c.loop-i.i c.loop-i.invariant c.loop-i-test.true c.requires.n_in_bounds_2 c.requires.n_in_bounds_3
    c.next_place-j.result c.next_place-j.ensures.value

pub shape_of-tos : goal.shape_of-tos
shape_of-tos c =
    c.loop-i.invariant.tos-length

pub shape_of-faces : goal.shape_of-faces
shape_of-faces c =
    c.loop-i.invariant.faces-length

pub returns : goal.returns
returns c =
    spreading-all c.args.listed.now c.args.f c.args.a c.args.n c.args.tos.now c.args.faces.now c.loop-i.tos
    c.loop-i.faces c.loop-i.i (omega (arith, c.loop-i-test.false)) c.loop-i.invariant
