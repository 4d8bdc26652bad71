-- `store_rows` meets its contract: what a scan promises where it finds a listing.
use Rattle.listing_lines.proofs.Scanned.{at-listing}
use Rattle.listing_lines.proofs.store_rows.Goals as goal

pub returns : goal.returns
returns c = record {
  positions = at-listing c.args.s.now c.requires c.scan.result c.scan.ensures.sizes _
      c.scan.ensures.positions;
  points = at-listing c.args.s.now c.requires c.scan.result c.scan.ensures.sizes _ c.scan.ensures.points;
  edges = at-listing c.args.s.now c.requires c.scan.result c.scan.ensures.sizes _ c.scan.ensures.edges;
  intervals = at-listing c.args.s.now c.requires c.scan.result c.scan.ensures.sizes _ c.scan.ensures.intervals;
  faces = at-listing c.args.s.now c.requires c.scan.result c.scan.ensures.sizes _ c.scan.ensures.faces;
}
