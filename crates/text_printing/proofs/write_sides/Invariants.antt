-- `write_sides` meets its contract. The invariant: the first k sides are written, and the listed points of the next stand from b on.
use mathlib.Core.Path.{◌≡◌}
use mathlib.Core.List.{[]}
use lib.ListN.{length}
use Rattle.mesh_lines.specs.Grammar.{flat}
use Rattle.built_meshes.specs.Faces.{side_from}
use Rattle.built_meshes.specs.declared.Version.TheVariants.{Two}
use Rattle.building_tests.specs.Lent.{lists_in}
use Rattle.mesh_answers.specs.Writing.{Written}
use Rattle.mesh_printing.specs.Printing.{side_part}
use Rattle.listings.specs.Handing.{up_to}
use Rattle.mesh_printing.specs.Faces.{side_in}
use Rattle.text_printing.proofs.write_sides.Given as goal

abbrev pub invariant-loop-k : goal.invariant-loop-k
invariant-loop-k l =
    (l.b ≡ side_from (lists_in Two [] l.sides l.firsts l.listed l.beside) l.f l.a l.k)
    × Written l.initial.out l.at (flat side_part (up_to l.k (side_in (lists_in Two [] l.sides l.firsts l.listed l.beside) l.f))) l.i l.out
