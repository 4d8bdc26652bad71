-- `write_points` meets its contract. The invariant: the first i listed points are written.
use mathlib.Core.Path.{◌≡◌}
use mathlib.Core.List.{[]}
use lib.ListN.{length}
use Rattle.mesh_lines.specs.Grammar.{flat}
use Rattle.built_meshes.specs.declared.Version.TheVariants.{Two}
use Rattle.building_tests.specs.Lent.{lists_in}
use Rattle.mesh_answers.specs.Writing.{Written}
use Rattle.mesh_printing.specs.Printing.{listed_part}
use Rattle.mesh_printing.specs.Faces.{listed_from}
use Rattle.text_printing.proofs.write_points.Given as goal

abbrev pub invariant-loop-i : goal.invariant-loop-i
invariant-loop-i l =
    Written l.initial.out l.at (flat listed_part (listed_from (lists_in Two [] [] [] l.listed l.beside) l.a l.i)) l.j l.out
