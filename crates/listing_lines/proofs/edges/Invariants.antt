-- `edges` meets its contract. The invariant is `Progress`, and `Table` of each table; the measure is what is left of the text.
use Prim.Native.Nat.{◌-◌}
use lib.ListN.{length}
use Rattle.text_numbers.specs.Form.{bytes}
use Rattle.listings.specs.Grammar.{edge_row_form}
use Rattle.listing_lines.specs.Parts.{row_numbers, row_words}
use Rattle.listing_lines.proofs.Progress.{Progress, Table}
use Rattle.listing_lines.proofs.edges.Given as goal

abbrev pub invariant-loop-ws : goal.invariant-loop-ws
invariant-loop-ws l = Progress l.s
    (bytes "[edge") (edge_row_form l.s) 8 l.at l.i l.k × Table l.s (bytes "[edge") (edge_row_form l.s) 8 l.at row_words
    8 l.initial.ws l.ws l.i l.k × Table l.s (bytes "[edge") (edge_row_form l.s) 8 l.at row_numbers 1 l.initial.xs l.xs
    l.i l.k

abbrev pub decreases-loop-ws : goal.decreases-loop-ws
decreases-loop-ws l = length l.s - l.i
