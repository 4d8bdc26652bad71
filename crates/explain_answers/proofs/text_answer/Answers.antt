-- text_answer meets its contract: the tables are zero.
use mathlib.Core.Path.{ap}
use Rattle.refine_outputs.specs.Output.{zero_tables}
use Rattle.text_meshes.specs.TextBuilding.{TextOutcome}
use Rattle.explain_answers.proofs.text_answer.Goals as goal

pub returns : goal.returns
unfolding zero_tables
returns c =
    ap (λ (o : TextOutcome). o.answer) c.build_text.ensures.outcome
