-- crosses_depth meets its contract: the two ends are those of the edge.
use Rattle.depth_finder.proofs.crosses_depth.Goals as goal

pub load_position-origin-requires : goal.load_position-origin-requires
load_position-origin-requires c =
    rw (c.index.ensures, c.load_edge_words-edge.ensures)
    c.requires.ends_stand.origin-stands

pub load_position-dest-requires : goal.load_position-dest-requires
load_position-dest-requires c =
    rw (c.index-2.ensures, c.load_edge_words-edge.ensures)
    c.requires.ends_stand.dest-stands

pub returns : goal.returns
returns c =
    rw (
      c.spans_depth.ensures,
      c.load_position-origin.ensures,
      c.load_position-dest.ensures,
      c.index.ensures,
      c.index-2.ensures,
      c.load_edge_words-edge.ensures,
    )
