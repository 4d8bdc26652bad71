-- build_told meets its contract: what building left, and its answer as it is told.
use mathlib.Core.Path.{◌∙◌}
use Rattle.station_answers.proofs.Laws.{built-answer}
use Rattle.station_building.proofs.Laws.{built-told}
use Rattle.station_building.proofs.build_told.Goals as goal

pub returns : goal.returns
returns c =
    let same = built-answer c.args.counts.now c.build-answer.result in
    built-told c.args.counts.now c.build-answer.ensures.fact (c.tell.ensures.value ∙ same.0) (c.tell.ensures.counts_after ∙ same.1)
