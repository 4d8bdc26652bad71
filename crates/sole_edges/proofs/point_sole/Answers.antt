-- point_sole meets its contract: both ways of looking decide it.
use native.Mathlib.Omega.{arith}
use Rattle.sole_edges.proofs.point_sole.Goals as goal

pub few_sole-requires : goal.few_sole-requires
few_sole-requires c = record {
  point_width_in_bounds = omega
      (arith, c.requires.point_width_in_bounds, c.requires.p_lt_np);
  edge_width_in_bounds = c.requires.edge_width_in_bounds;
  p_in_bounds = omega (arith, c.index.ensures, c.if-index-le-FEW.true, c.requires.ends_window_in_bounds);
  ends = c.requires.ends;
}

pub is_sole-requires : goal.is_sole-requires
is_sole-requires c = record {
  point_width_in_bounds = c.requires.point_width_in_bounds;
  p_lt_np = c.requires.p_lt_np;
  edge_width_in_bounds = c.requires.edge_width_in_bounds;
  ends_window_in_bounds = c.requires.ends_window_in_bounds;
  ends = c.requires.ends;
  p_nonzero = omega (arith, c.index.ensures, c.if-index-le-FEW.false);
}
