-- load_face_point meets its contract.
use Rattle.position_rules.proofs.places.load_face_point.Goals as goal

pub returns : goal.returns
returns c =
    rw (c.load_position.ensures, c.index.ensures)
