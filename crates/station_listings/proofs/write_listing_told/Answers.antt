-- `write_listing_told` meets its contract: what writing left, and its answer as it is told.
use Rattle.tables.specs.Lent.{tables_of}
use Rattle.station_listings.proofs.Laws.{written-told}
use Rattle.station_listings.proofs.write_listing_told.Goals as goal

-- src/lib.rt:68:1
pub returns : goal.returns
returns c =
    written-told c.args.length.now
    (tables_of c.args.t.now)
    c.args.text.now c.load_counts-c.ensures
    c.write_listing-answer.ensures c.writing_number.ensures
    c.store_length.ensures
