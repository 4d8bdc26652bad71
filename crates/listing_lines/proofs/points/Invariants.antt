-- `points` meets its contract. The invariant is `Progress`, and `Table` of each table; the measure is what is left of the text.
use Prim.Native.Nat.{◌-◌}
use lib.ListN.{length}
use Rattle.text_numbers.specs.Form.{bytes}
use Rattle.listings.specs.Grammar.{point_row_form}
use Rattle.listing_lines.specs.Parts.{row_numbers, row_words}
use Rattle.listing_lines.proofs.Progress.{Progress, Table}
use Rattle.listing_lines.proofs.points.Given as goal

abbrev pub invariant-loop-xs : goal.invariant-loop-xs
invariant-loop-xs l = Progress l.s
    (bytes "[point") (point_row_form l.s) 3 l.at l.i l.k × Table l.s (bytes "[point") (point_row_form l.s) 3 l.at
    row_numbers 3 l.initial.xs l.xs l.i l.k × Table l.s (bytes "[point") (point_row_form l.s) 3 l.at row_words 3
    l.initial.ws l.ws l.i l.k

abbrev pub decreases-loop-xs : goal.decreases-loop-xs
decreases-loop-xs l = length l.s - l.i
