-- listing_answer meets its contract: the tables are zero.
use mathlib.Core.Path.{ap}
use Rattle.refine_outputs.specs.Output.{zero_tables}
use Rattle.listings.specs.Handing.{ReadingOutcome}
use Rattle.explain_answers.proofs.listing_answer.Goals as goal

pub returns : goal.returns
unfolding zero_tables
returns c =
    ap (λ (o : ReadingOutcome). o.answer) c.read_listing.ensures
