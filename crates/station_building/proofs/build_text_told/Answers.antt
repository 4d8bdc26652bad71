-- build_text_told meets its contract: what building from the text left, and its answer as it is told.
use Rattle.station_building.proofs.Laws.{text-told}
use Rattle.station_building.proofs.build_text_told.Goals as goal

pub returns : goal.returns
returns c =
    text-told c.args.counts.now c.build_text-answer.ensures.outcome c.tell_text_built.ensures.value
    c.tell_text_built.ensures.counts_after
