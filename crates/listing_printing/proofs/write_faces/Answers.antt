-- `write_faces` meets its contract. The invariant: the first f lines are written.
use native.Mathlib.Omega.{arith}
use mathlib.Core.Path.{refl, ◌∙◌}
use Prim.Native.Nat.{◌-◌}
use mathlib.Core.List.{[]}
use Rattle.tables.specs.Mesh.{mesh_of}
use Rattle.listings.specs.Printing.{face_line}
use Rattle.listings.specs.Handing.{face_line_row}
use Rattle.listing_printing.proofs.Laws.{lines_start, lines-turn-room, lines-turn, lines_end}
use Rattle.listing_printing.proofs.write_faces.Goals as goal

pub loop-f-init : goal.loop-f-init
loop-f-init c =
    lines_start face_line _ _ (face_line_row (mesh_of [] [] [] [] c.args.faces.now))

pub write_face-i-requires : goal.write_face-i-requires
write_face-i-requires c =
    record {
      face_width_in_bounds = omega arith;
      f_in_bounds = lines-turn-room face_line _ _
          (face_line_row (mesh_of [] [] [] [] c.args.faces.now)) c.loop-f.f
          c.loop-f.invariant c.loop-f.auto.out c.loop-f-test.true c.requires.faces_in_bounds;
    }

pub loop-f-preserved : goal.loop-f-preserved
loop-f-preserved c =
    lines-turn face_line _ _ (face_line_row (mesh_of [] [] [] [] c.args.faces.now)) c.loop-f.f c.loop-f.invariant
    c.write_face-i.ensures

pub returns : goal.returns
returns c =
    lines_end face_line _ _ (face_line_row (mesh_of [] [] [] [] c.args.faces.now))
    c.loop-f.invariant (omega arith) (omega arith)
