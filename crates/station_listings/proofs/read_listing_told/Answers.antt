-- `read_listing_told` meets its contract: what reading left, and its answer as it is told.
use Rattle.station_listings.proofs.Laws.{read_told}
use Rattle.station_listings.proofs.read_listing_told.Goals as goal

-- src/lib.rt:95:1
pub returns : goal.returns
returns c =
    read_told c.args.counts.now c.read_listing-answer.ensures c.reading_number.ensures
    c.store_read.ensures
