-- make_edge meets its contract: the steps of the code are the definition's.
use Rattle.edge_search.proofs.NewEdge.{first-touch, second-touch, made-mesh, made-standing}
use Rattle.edge_search.proofs.make_edge.Goals as goal

pub touch-requires : goal.touch-requires
touch-requires c =
    let whole = first-touch c.args.np c.args.points.now c.args.edges.now c.args.intervals.now c.args.chain.now c.args.k c.args.f c.args.p c.args.q
    c.args.v c.requires.p_lt_np c.requires.q_lt_np c.requires.standing c.requires.edge_room in record { point_width_in_bounds = whole.0; point_width_bound = whole.1 }

pub touch-requires-2 : goal.touch-requires-2
touch-requires-2 c =
    let whole = second-touch c.args.np c.args.points.now c.args.edges.now c.args.intervals.now c.args.chain.now c.args.k c.args.f c.args.p
    c.args.q c.args.v c.requires.p_lt_np c.requires.q_lt_np c.requires.standing c.requires.edge_room c.touch.new.points
    c.touch.ensures in record { point_width_in_bounds = whole.0; point_width_bound = whole.1 }

pub returns : goal.returns
returns c =
    record {
      fact = made-mesh c.args.np c.args.points.now c.args.edges.now c.args.intervals.now c.args.chain.now c.args.k c.args.f c.args.p c.args.q
          c.args.v c.requires.p_lt_np c.requires.q_lt_np c.requires.standing c.requires.edge_room c.touch.new.points c.touch-2.new.points c.store_edge.new.edges
          c.index.result c.store_edge.new.intervals c.chain_edge.new.chain c.touch.ensures c.touch-2.ensures c.index.ensures
          c.store_edge.ensures.edges_after c.store_edge.ensures.intervals_after c.chain_edge.ensures;
      standing_2 = made-standing c.args.np c.args.points.now c.args.edges.now c.args.intervals.now c.args.chain.now c.args.k c.args.f c.args.p
          c.args.q c.args.v c.requires.p_lt_np c.requires.q_lt_np c.requires.standing c.requires.edge_room c.touch.new.points c.touch-2.new.points
          c.store_edge.new.edges c.index.result c.store_edge.new.intervals c.chain_edge.new.chain c.touch.ensures
          c.touch-2.ensures c.index.ensures c.store_edge.ensures.edges_after c.store_edge.ensures.intervals_after c.chain_edge.ensures;
    }
