-- bucket meets its contract: the test says which point is the lesser.
use Rattle.edge_buckets.proofs.Buckets.{bucket-less, bucket-more}
use Rattle.edge_buckets.proofs.bucket.Goals as goal

pub returns-then-a-b : goal.returns-then-a-b
returns-then-a-b c =
    let whole = bucket-less c.args.p c.args.q c.index-a.result c.index-b.result c.index-a.ensures c.index-b.ensures c.if-a-b.true in record { value = whole.0; upper_bound = whole.1 }

pub returns : goal.returns
returns c =
    let whole = bucket-more c.args.p c.args.q c.index-a.result c.index-b.result c.index-a.ensures c.index-b.ensures c.if-a-b.false in record { value = whole.0; upper_bound = whole.1 }
