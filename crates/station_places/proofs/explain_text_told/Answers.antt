-- explain_text_told meets its contract: the number of the answer, and the place written.
use Rattle.station_places.proofs.Laws.{told_of}
use Rattle.station_places.proofs.explain_text_told.Goals as goal

pub returns : goal.returns
returns c =
    told_of c.args.text.now c.args.place.now c.text_number.ensures c.text_place.ensures c.store_place.ensures
