-- connect_rows meets its contract, by the four face states in turn.
use mathlib.Core.Path.{◌∙◌, ap}
use Prim.Native.Nat.{ℕ}
use Rattle.tables.specs.Records.{edge_at}
use Rattle.t_nurcc_edge.proofs.Laws.{joinable-steps}
use Rattle.t_nurcc_edge.proofs.Links.{connected-links}
use Rattle.t_nurcc_edge.proofs.connect_rows.Goals as goal

pub returns : goal.returns
returns c =
    let first = c.load_edge-e.ensures
    ∙ ap (λ (k : ℕ). edge_at c.args.edges.now c.args.intervals.now k) c.index.ensures in
    let other = c.load_edge-o.ensures
    ∙ ap (λ (k : ℕ). edge_at c.args.edges.now c.args.intervals.now k) c.index-2.ensures in
    record {
      value = joinable-steps c.args.edges.now c.args.intervals.now c.index.ensures c.index-2.ensures
          c.load_edge-e.ensures c.load_edge-o.ensures c.can_connect.ensures;
      edges_after = connected-links c.args.edges.now c.args.intervals.now c.args.i c.args.j _ _ _ first other
          c.vert_state-v.ensures _ _ _ _ _ _ _ _ c.same_face.ensures c.same_face-2.ensures c.same_face-3.ensures
          c.same_face-4.ensures c.put_links.ensures.by_index c.put_links-2.ensures.by_index c.put_links-3.ensures.by_index
          c.put_links-4.ensures.by_index;
    }
