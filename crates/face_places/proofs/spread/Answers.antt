-- spread meets its contract. The invariant: the faces passed are spread.
use Prim.Native.Nat.{◌-◌}
use native.Mathlib.Omega.{arith}
use Rattle.face_places.proofs.Laws.{faces-none, face-fits, faces-more, faces-all}
use Rattle.face_places.proofs.spread.Goals as goal

pub loop-f-init : goal.loop-f-init
loop-f-init c =
    faces-none c.args.sides.now c.args.listed.now c.args.tos.now c.args.faces.now

pub face_size-n-requires : goal.face_size-n-requires
face_size-n-requires c =
    omega (arith, c.loop-f-test.true)

pub overflow_cast-f : goal.overflow_cast-f
overflow_cast-f c =
    omega (arith, c.loop-f-test.true, c.requires.sides_len_bound)

pub spread_face-requires : goal.spread_face-requires
spread_face-requires c =
    record {
      n_in_bounds = face-fits c.args.sides.now c.args.listed.now c.args.tos.now c.args.faces.now c.loop-f.tos c.loop-f.faces
          c.loop-f.a c.loop-f.f c.face_size-n.result c.loop-f.invariant c.loop-f-test.true c.face_size-n.ensures c.requires.sides_value;
      n_in_bounds_2 = omega (
        arith,
        face-fits c.args.sides.now c.args.listed.now c.args.tos.now c.args.faces.now c.loop-f.tos c.loop-f.faces
            c.loop-f.a c.loop-f.f c.face_size-n.result c.loop-f.invariant c.loop-f-test.true c.face_size-n.ensures c.requires.sides_value,
        c.loop-f.invariant.tos-length,
        c.requires.listed_in_bounds,
      );
      n_in_bounds_3 = omega (
        arith,
        face-fits c.args.sides.now c.args.listed.now c.args.tos.now c.args.faces.now c.loop-f.tos c.loop-f.faces
            c.loop-f.a c.loop-f.f c.face_size-n.result c.loop-f.invariant c.loop-f-test.true c.face_size-n.ensures c.requires.sides_value,
        c.loop-f.invariant.faces-length,
        c.requires.listed_in_bounds_2,
      );
      listed_len_bound = c.requires.listed_len_bound;
    }

pub overflow_add-a : goal.overflow_add-a
overflow_add-a c =
    omega (
      arith,
      face-fits c.args.sides.now c.args.listed.now c.args.tos.now c.args.faces.now c.loop-f.tos c.loop-f.faces
          c.loop-f.a c.loop-f.f c.face_size-n.result c.loop-f.invariant c.loop-f-test.true c.face_size-n.ensures c.requires.sides_value,
      c.requires.listed_len_bound,
    )

pub loop-f-preserved : goal.loop-f-preserved
loop-f-preserved c =
    faces-more c.args.sides.now c.args.listed.now c.args.tos.now c.args.faces.now c.loop-f.tos c.loop-f.faces
    c.loop-f.a c.loop-f.f c.face_size-n.result c.loop-f.invariant c.loop-f-test.true c.face_size-n.ensures c.requires.sides_value
    c.spread_face.new.tos c.spread_face.new.faces c.spread_face.auto.tos c.spread_face.auto.faces
    c.spread_face.ensures

pub shape_of-tos : goal.shape_of-tos
shape_of-tos c =
    c.loop-f.invariant.tos-length

pub shape_of-faces : goal.shape_of-faces
shape_of-faces c =
    c.loop-f.invariant.faces-length

pub returns : goal.returns
returns c =
    faces-all c.args.sides.now c.args.listed.now c.args.tos.now c.args.faces.now c.loop-f.tos c.loop-f.faces
    c.loop-f.a c.loop-f.f (omega (arith, c.loop-f-test.false)) c.loop-f.invariant
    c.requires.sides_value
