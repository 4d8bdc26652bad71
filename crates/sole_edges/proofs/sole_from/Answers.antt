-- sole_from meets its contract: its table has a window's places.
use Prim.Native.Nat.{ℕ}
use lib.ListN.{length-replicate}
use Rattle.sole_edges.specs.Sole.{ends_window}
use Rattle.sole_edges.proofs.Walking.{same-at-most}
use Rattle.sole_edges.proofs.sole_from.Goals as goal

pub sole_by_table-requires : goal.sole_by_table-requires
sole_by_table-requires c = record {
  point_width_in_bounds = c.requires.point_width_in_bounds;
  edge_width_in_bounds = c.requires.edge_width_in_bounds;
  ends_window_in_bounds = same-at-most _ _ (length-replicate {A = ℕ} ends_window 0);
  from_le_np = c.requires.from_le_np;
  ends = c.requires.ends;
}
