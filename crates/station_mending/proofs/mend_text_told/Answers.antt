-- mend_text_told meets its contract: what the mender left, and its answer as it is told.
use Rattle.station_mending.proofs.Laws.{told_of}
use Rattle.station_mending.proofs.mend_text_told.Goals as goal

pub returns : goal.returns
returns c =
    told_of _ _ c.text_mending_number.ensures c.mend_text-answer.ensures.outcome
