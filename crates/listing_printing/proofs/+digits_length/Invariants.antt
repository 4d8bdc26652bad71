-- `digits_length` meets its contract: the digits but the last are counted first. The measure is how many digits there may be.
use Rattle.listing_printing.proofs.+digits_length.Given as goal

abbrev pub decreases-digits_length : goal.decreases-digits_length
decreases-digits_length l = l.k
