-- `write_edges` meets its contract. The invariant: the first e lines are written.
use mathlib.Core.Path.{◌≡◌}
use mathlib.Core.List.{[]}
use lib.ListN.{length}
use Rattle.tables.specs.Mesh.{mesh_of}
use Rattle.mesh_lines.specs.Grammar.{flat}
use Rattle.mesh_answers.specs.Writing.{Written}
use Rattle.listings.specs.Printing.{edge_line}
use Rattle.listings.specs.Handing.{up_to, edge_line_row}
use Rattle.listing_printing.proofs.write_edges.Given as goal

abbrev pub invariant-loop-e : goal.invariant-loop-e
invariant-loop-e l = Written l.initial.out l.at
    (flat edge_line (up_to l.e (edge_line_row (mesh_of [] [] l.edges l.intervals [])))) l.i l.out
