-- `write_face_lines` meets its contract. The invariant: the first f lines are written, and the listed points of the next face stand
-- from a on.
use native.Mathlib.Omega.{arith}
use mathlib.Core.Path.{refl, ◌∙◌}
use mathlib.Core.List.{[]}
use Prim.Native.Nat.{◌-◌}
use Rattle.built_meshes.specs.declared.Version.TheVariants.{Two}
use Rattle.building_tests.specs.Lent.{lists_in}
use Rattle.mesh_printing.specs.Printing.{text_face_line}
use Rattle.listing_printing.proofs.Laws.{lines_start, lines-turn-room, lines-turn, lines_end}
use Rattle.mesh_printing.specs.Faces.{face_in}
use Rattle.text_printing.proofs.Laws.{face-in, offset-none, offset-more}
use Rattle.text_printing.proofs.write_face_lines.Goals as goal

pub loop-f-init : goal.loop-f-init
loop-f-init c = (
  offset-none c.args.sides.now,
  lines_start text_face_line _ _
      (face_in (lists_in Two [] c.args.sides.now c.args.firsts.now c.args.listed.now c.args.beside.now)),
)

pub write_face-i-requires : goal.write_face-i-requires
write_face-i-requires c =
    record {
      printing_room = face-in c.requires.printing_rooms c.loop-f-test.true c.loop-f.invariant.0;
      f_in_bounds = lines-turn-room text_face_line _ _
          (face_in (lists_in Two [] c.args.sides.now c.args.firsts.now c.args.listed.now c.args.beside.now)) c.loop-f.f
          c.loop-f.invariant.1 c.loop-f.auto.out c.loop-f-test.true c.requires.beside_in_bounds;
    }

pub face_size-a-requires : goal.face_size-a-requires
face_size-a-requires c =
    omega (arith, c.loop-f-test.true)

pub overflow_add-a : goal.overflow_add-a
overflow_add-a c =
    let h = face-in c.requires.printing_rooms c.loop-f-test.true
    c.loop-f.invariant.0 in
    let g = h.listed-fit in
    omega arith

pub loop-f-preserved : goal.loop-f-preserved
loop-f-preserved c = (
  offset-more c.args.sides.now c.loop-f.f c.loop-f.invariant.0 c.face_size-a.ensures,
  lines-turn text_face_line _ _
      (face_in (lists_in Two [] c.args.sides.now c.args.firsts.now c.args.listed.now c.args.beside.now)) c.loop-f.f
      c.loop-f.invariant.1 c.write_face-i.ensures,
)

pub returns : goal.returns
returns c =
    lines_end text_face_line _ _
    (face_in (lists_in Two [] c.args.sides.now c.args.firsts.now c.args.listed.now c.args.beside.now))
    c.loop-f.invariant.1 (omega arith) (omega arith)
