-- `write_numbers` meets its contract. The invariant: the first j fields are written.
use mathlib.Core.Path.{◌≡◌}
use lib.ListN.{length}
use Rattle.mesh_answers.specs.Writing.{Written}
use Rattle.listing_printing.specs.Fields.{number_fields}
use Rattle.listing_printing.proofs.write_numbers.Given as goal

abbrev pub invariant-loop-j : goal.invariant-loop-j
invariant-loop-j l = Written l.initial.out l.at (number_fields l.numbers l.b l.j) l.i l.out
