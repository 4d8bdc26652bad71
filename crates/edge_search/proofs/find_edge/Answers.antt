-- find_edge meets its contract: the search begins with the newest edge of the bucket of the two points.
use mathlib.Core.Path.{◌∙◌}
use Rattle.edge_buckets.specs.Buckets.{bucket_of}
use Rattle.edge_buckets.proofs.Buckets.{bucket_of-below}
use Rattle.edge_search.proofs.find_edge.Goals as goal

pub search-requires : goal.search-requires
search-requires c =
    record {
      edge_width_in_bounds = c.requires.edge_width_in_bounds;
      k_in_bounds = c.requires.k_in_bounds;
      chained = c.requires.chained;
      newest = rw c.bucket.ensures.value
          (c.requires.headed (bucket_of c.args.p c.args.q) (bucket_of-below c.args.p c.args.q));
    }

pub returns : goal.returns
returns c =
    c.edge_of.ensures ∙ c.search.ensures.result_value
