-- bits_of meets its contract.
use mathlib.Core.Path.{◌∙◌, sym}
use Rattle.intervals.proofs.Laws.{finite_number}
use Rattle.oracle_tables.proofs.listing.bits_of.Goals as goal

pub float_to_bits-result : goal.float_to_bits-result
float_to_bits-result c =
    finite_number c.args.x (sym c.is_finite.ensures ∙ c.if-is_finite.true)
