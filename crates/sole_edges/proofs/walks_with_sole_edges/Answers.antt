-- walks_with_sole_edges meets its contract: the test of all points is the definition's two.
use Prim.Native.Nat.{ℕ}
use lib.ListN.{length-replicate}
use Rattle.tables.specs.Parts.{point_tables}
use Rattle.sole_edges.specs.Sole.{few}
use Rattle.sole_edges.proofs.OneEdges.{ends-with-points, tests-in-one}
use Rattle.sole_edges.proofs.Walking.{same-at-most}
use Rattle.sole_edges.proofs.walks_with_sole_edges.Goals as goal

pub all_sole-requires : goal.all_sole-requires
all_sole-requires c = record {
  point_width_in_bounds = c.requires.point_width_in_bounds;
  edge_width_in_bounds = c.requires.edge_width_in_bounds;
  few_in_bounds = same-at-most _ _ (length-replicate {A = ℕ} few 0);
  ends = c.requires.ends;
}

pub returns : goal.returns
returns c =
    tests-in-one (point_tables c.args.points.now c.args.edges.now) c.args.np c.args.ne (ends-with-points _ _ _ _ c.requires.ends)
    c.requires.by_index c.requires.ne_value _ c.all_sole.ensures.rounds_from c.all_sole.ensures.value
