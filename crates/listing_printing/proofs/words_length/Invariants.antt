-- `words_length` meets its contract. The invariant: r is how long the first i words are.
use mathlib.Core.Path.{◌≡◌}
use lib.ListN.{length}
use Rattle.listing_printing.specs.Fields.{word_fields}
use Rattle.listing_printing.proofs.words_length.Given as goal

abbrev pub invariant-loop-i : goal.invariant-loop-i
invariant-loop-i l = (l.r ≡ length (word_fields l.words 0 l.i))
