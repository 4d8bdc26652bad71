-- `write_face` meets its contract: its head, its sides, its end.
use native.Mathlib.Omega.{arith}
use mathlib.Core.Path.{refl}
use mathlib.Core.List.{[]}
use Rattle.built_meshes.specs.declared.Version.TheVariants.{Two}
use Rattle.building_tests.specs.Lent.{lists_in}
use Rattle.listing_printing.proofs.Laws.{short-line-of}
use Rattle.mesh_printing.specs.Faces.{face_in}
use Rattle.text_printing.proofs.Laws.{face-room}
use Rattle.text_printing.proofs.write_face.Goals as goal

pub write-i-requires : goal.write-i-requires
write-i-requires c =
    let r = face-room (face_in
    (lists_in Two [] c.args.sides.now c.args.firsts.now c.args.listed.now c.args.beside.now) c.args.f) in
    omega arith

pub write_sides-j-requires : goal.write_sides-j-requires
write_sides-j-requires c =
    record {
      printing_room = c.requires.printing_room;
      f_in_bounds = let r = face-room (face_in
          (lists_in Two [] c.args.sides.now c.args.firsts.now c.args.listed.now c.args.beside.now) c.args.f) in
          omega arith;
    }

pub write-requires : goal.write-requires
write-requires c =
    let r = face-room (face_in
    (lists_in Two [] c.args.sides.now c.args.firsts.now c.args.listed.now c.args.beside.now) c.args.f) in
    omega arith

pub returns : goal.returns
returns c =
    short-line-of c.write-i.ensures c.write_sides-j.ensures
    c.write.ensures refl
