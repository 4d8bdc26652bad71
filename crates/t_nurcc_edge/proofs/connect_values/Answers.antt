-- connect_values meets its contract: the steps of the code are the definition's, with the indices of the rows put for the rows.
use Rattle.t_nurcc_edge.proofs.Laws.{joinable-steps, connected-steps}
use Rattle.t_nurcc_edge.proofs.connect_values.Goals as goal

pub returns : goal.returns
returns c =
    record {
      value = joinable-steps c.args.edges.now c.args.intervals.now c.index-a.ensures c.index-b.ensures c.load_edge-e.ensures c.load_edge-o.ensures
          c.can_connect.ensures;
      edges_after = connected-steps c.args.edges.now c.args.intervals.now c.index-a.ensures c.index-b.ensures c.load_edge-e.ensures c.load_edge-o.ensures
          c.store_edge_words.new.edges c.connect-connected.result c.connect-connected.ensures c.store_edge_words.ensures
          c.store_edge_words-2.ensures;
    }
