-- cw_about meets its contract: the two answers are the two cases of the definition.
use mathlib.Core.Path.{◌∙◌}
use Rattle.edge_ends.specs.Ends.{cw_at_end}
use Rattle.walks.proofs.FromEdge.{at-origin, at-dest}
use Rattle.position_rules.specs.Intervals.{cw_about}
use Rattle.position_rules.proofs.intervals.cw_about.Goals as goal

pub returns-then-index-p : goal.returns-then-index-p
unfolding cw_about
returns-then-index-p c =
    c.index-then-index-p.ensures
    ∙ at-origin c.args.edges.now _
    c.load_edge_words-edge.ensures _ c.index.ensures cw_at_end
    c.if-index-p.true c.cw_edge_from_end.ensures

pub returns : goal.returns
unfolding cw_about
returns c =
    c.index-2.ensures
    ∙ at-dest c.args.edges.now _
    c.load_edge_words-edge.ensures _ c.index.ensures cw_at_end
    c.if-index-p.false c.cw_edge_from_end-2.ensures
