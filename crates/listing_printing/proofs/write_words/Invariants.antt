-- `write_words` meets its contract. The invariant: the first j fields are written.
use mathlib.Core.Path.{◌≡◌}
use lib.ListN.{length}
use Rattle.mesh_answers.specs.Writing.{Written}
use Rattle.listing_printing.specs.Fields.{word_fields}
use Rattle.listing_printing.proofs.write_words.Given as goal

abbrev pub invariant-loop-j : goal.invariant-loop-j
invariant-loop-j l = Written l.initial.out l.at (word_fields l.words l.b l.j) l.i l.out
