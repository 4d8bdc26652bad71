-- neighbour meets its contract.
use Rattle.edge_points.proofs.neighbour.Goals as goal

pub returns : goal.returns
returns c =
    rw (c.index-e.ensures, c.connection.ensures)
