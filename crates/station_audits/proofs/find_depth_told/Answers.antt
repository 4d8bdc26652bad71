-- find_depth_told meets its contract: the answer of the depth finder, as it is told.
use Rattle.tables.specs.Lent.{tables_of}
use Rattle.station_answers.specs.Answers.{counts_in}
use Rattle.station_audits.proofs.Laws.{crossing-told}
use Rattle.station_audits.proofs.find_depth_told.Goals as goal

pub returns : goal.returns
returns c =
    crossing-told c.args.edge.now (tables_of c.args.t.now)
    (counts_in c.args.counts.now) c.args.depth c.load_counts.ensures c.find_depth-answer.ensures c.tell_crossing.ensures.value c.tell_crossing.ensures.edge_after
