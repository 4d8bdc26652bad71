-- turn_faces meets its contract. The invariant: the faces passed are turned where they are chosen.
use mathlib.Core.Path.{refl, sym, ◌∙◌}
use mathlib.Core.List.{[]}
use Prim.Native.Nat.{◌-◌}
use native.Mathlib.Omega.{arith}
use Rattle.built_meshes.specs.declared.Version.TheVariants.{Two}
use Rattle.building_tests.specs.Lent.{lists_in}
use Rattle.face_turning.proofs.Faces.{chosen, turning-none, points-within, intervals-within, turning-more, turning-all}
use Rattle.face_turning.proofs.turn_faces.Goals as goal

pub loop-f-init : goal.loop-f-init
loop-f-init c =
    turning-none (chosen c.args.turned.now)
    (lists_in Two [] c.args.sides.now c.args.firsts.now c.args.listed.now c.args.beside.now)
    c.requires.fitting

pub face_size-n-requires : goal.face_size-n-requires
face_size-n-requires c =
    omega (arith, c.loop-f-test.true, c.loop-f.invariant.turned.sides-length)

pub bounds-turned-f : goal.bounds-turned-f
bounds-turned-f c =
    omega (arith, c.loop-f-test.true, c.requires.sides_in_bounds)

pub turn_face-requires : goal.turn_face-requires
turn_face-requires c =
    record {
      f_in_bounds = omega (arith, c.loop-f-test.true, c.loop-f.invariant.turned.sides-length);
      f_in_bounds_2 = omega (arith, c.loop-f-test.true, c.loop-f.invariant.turned.firsts-length);
      n_in_bounds = points-within (chosen c.args.turned.now)
          (lists_in Two [] c.args.sides.now c.args.firsts.now c.args.listed.now c.args.beside.now)
          (lists_in Two [] c.loop-f.sides c.loop-f.firsts c.loop-f.listed c.loop-f.beside) c.loop-f.a c.loop-f.f c.face_size-n.result
          c.loop-f.invariant (omega (arith, c.loop-f-test.true)) c.face_size-n.ensures;
      n_in_bounds_2 = intervals-within (chosen c.args.turned.now)
          (lists_in Two [] c.args.sides.now c.args.firsts.now c.args.listed.now c.args.beside.now)
          (lists_in Two [] c.loop-f.sides c.loop-f.firsts c.loop-f.listed c.loop-f.beside) c.loop-f.a c.loop-f.f c.face_size-n.result
          c.loop-f.invariant (omega (arith, c.loop-f-test.true)) c.face_size-n.ensures;
    }

pub overflow_add-a : goal.overflow_add-a
overflow_add-a c =
    omega (
      arith,
      points-within (chosen c.args.turned.now)
          (lists_in Two [] c.args.sides.now c.args.firsts.now c.args.listed.now c.args.beside.now)
          (lists_in Two [] c.loop-f.sides c.loop-f.firsts c.loop-f.listed c.loop-f.beside) c.loop-f.a c.loop-f.f c.face_size-n.result
          c.loop-f.invariant (omega (arith, c.loop-f-test.true)) c.face_size-n.ensures,
      c.loop-f.invariant.turned.listed-length,
      c.requires.fitting.listed,
      c.requires.listed_len_bound,
    )

pub loop-f-preserved : goal.loop-f-preserved
loop-f-preserved c =
    turning-more (chosen c.args.turned.now)
    (lists_in Two [] c.args.sides.now c.args.firsts.now c.args.listed.now c.args.beside.now)
    (lists_in Two [] c.loop-f.sides c.loop-f.firsts c.loop-f.listed c.loop-f.beside) c.loop-f.a c.loop-f.f c.face_size-n.result
    c.loop-f.invariant (omega (arith, c.loop-f-test.true)) c.face_size-n.ensures
    (lists_in Two [] c.turn_face.new.sides c.turn_face.new.firsts c.turn_face.new.listed
    c.turn_face.new.beside) refl refl c.turn_face.auto.sides c.turn_face.auto.firsts c.turn_face.auto.listed
    c.turn_face.auto.beside c.turn_face.ensures

pub shape_of-sides : goal.shape_of-sides
shape_of-sides c =
    c.loop-f.invariant.turned.sides-length
    ∙ sym c.requires.fitting.sides

pub shape_of-firsts : goal.shape_of-firsts
shape_of-firsts c =
    c.loop-f.invariant.turned.firsts-length
    ∙ sym c.requires.fitting.firsts

pub shape_of-listed : goal.shape_of-listed
shape_of-listed c =
    c.loop-f.invariant.turned.listed-length
    ∙ sym c.requires.fitting.listed

pub shape_of-beside : goal.shape_of-beside
shape_of-beside c =
    c.loop-f.invariant.turned.intervals-length
    ∙ sym c.requires.fitting.intervals

pub returns : goal.returns
returns c =
    turning-all (chosen c.args.turned.now) c.args.sides.now c.args.firsts.now c.args.listed.now c.loop-f.sides
    c.loop-f.firsts c.loop-f.listed c.args.beside.now c.loop-f.beside c.loop-f.a c.loop-f.f
    (omega (arith, c.loop-f-test.false)) c.loop-f.invariant
