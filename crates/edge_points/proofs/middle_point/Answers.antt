-- middle_point meets its contract: the ends are those of the edge.
use Rattle.edge_points.proofs.middle_point.Goals as goal

pub edge_middle-requires : goal.edge_middle-requires
edge_middle-requires c = record {
  position_width_in_bounds = rw (c.index.ensures, c.load_edge-edge.ensures)
      c.requires.origin-there;
  position_width_in_bounds_2 = rw (c.index-2.ensures, c.load_edge-edge.ensures) c.requires.dest-there;
  edge_fits = c.requires.edge-fits;
}

pub returns : goal.returns
returns c =
    rw (
      c.edge_middle.ensures,
      c.index.ensures,
      c.index-2.ensures,
      c.load_edge-edge.ensures,
    )
