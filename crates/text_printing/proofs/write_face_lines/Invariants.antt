-- `write_face_lines` meets its contract. The invariant: the first f lines are written, and the listed points of the next face stand
-- from a on.
use mathlib.Core.Path.{◌≡◌}
use mathlib.Core.List.{[]}
use Prim.Native.Nat.{◌/◌}
use lib.ListN.{length}
use Rattle.mesh_lines.specs.Grammar.{flat}
use Rattle.built_meshes.specs.Lists.{offset}
use Rattle.built_meshes.specs.declared.Version.TheVariants.{Two}
use Rattle.building_tests.specs.Lent.{lists, lists_in}
use Rattle.mesh_answers.specs.Writing.{Written}
use Rattle.mesh_printing.specs.Printing.{text_face_line}
use Rattle.listings.specs.Handing.{up_to}
use Rattle.mesh_printing.specs.Faces.{face_in}
use Rattle.text_printing.proofs.write_face_lines.Given as goal

abbrev pub invariant-loop-f : goal.invariant-loop-f
invariant-loop-f l =
    (l.a ≡ offset (lists [] l.sides [] []) l.f)
    × Written l.initial.out l.at (flat text_face_line (up_to l.f (face_in (lists_in Two [] l.sides l.firsts l.listed l.beside)))) l.i l.out
