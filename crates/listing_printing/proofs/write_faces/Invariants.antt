-- `write_faces` meets its contract. The invariant: the first f lines are written.
use mathlib.Core.Path.{◌≡◌}
use mathlib.Core.List.{[]}
use lib.ListN.{length}
use Rattle.tables.specs.Mesh.{mesh_of}
use Rattle.mesh_lines.specs.Grammar.{flat}
use Rattle.mesh_answers.specs.Writing.{Written}
use Rattle.listings.specs.Printing.{face_line}
use Rattle.listings.specs.Handing.{up_to, face_line_row}
use Rattle.listing_printing.proofs.write_faces.Given as goal

abbrev pub invariant-loop-f : goal.invariant-loop-f
invariant-loop-f l = Written l.initial.out l.at (flat face_line (up_to l.f (face_line_row (mesh_of [] [] [] [] l.faces)))) l.i l.out
