-- `write_points` meets its contract. The invariant: the first p lines are written.
use mathlib.Core.Path.{◌≡◌}
use mathlib.Core.List.{[]}
use lib.ListN.{length}
use Rattle.tables.specs.Mesh.{mesh_of}
use Rattle.mesh_lines.specs.Grammar.{flat}
use Rattle.mesh_answers.specs.Writing.{Written}
use Rattle.listings.specs.Printing.{point_line}
use Rattle.listings.specs.Handing.{up_to, point_line_row}
use Rattle.listing_printing.proofs.write_points.Given as goal

abbrev pub invariant-loop-p : goal.invariant-loop-p
invariant-loop-p l =
    Written l.initial.out l.at (flat point_line (up_to l.p (point_line_row (mesh_of l.positions l.points [] [] [])))) l.i l.out
