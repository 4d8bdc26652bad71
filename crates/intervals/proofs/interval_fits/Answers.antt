-- interval_fits meets its contract.
use mathlib.Core.Path.{◌∙◌, sym}
use Rattle.intervals.proofs.Laws.{bits_below, finite_number}
use Rattle.intervals.proofs.interval_fits.Goals as goal

pub float_to_bits-result : goal.float_to_bits-result
float_to_bits-result c =
    finite_number c.args.v (sym c.is_finite.ensures ∙ c.if-not-is_finite.false)

pub returns : goal.returns
returns c =
    bits_below c.args.v (sym c.is_finite.ensures ∙ c.if-not-is_finite.false)
    c.well_formed.0.1
