-- hang meets its contract: its two stores are the definition's.
use Rattle.face_parts.proofs.hang.Goals as goal

pub returns : goal.returns
returns c =
    record { ups_after = rw c.index-h.ensures; odds_after = rw c.index-h.ensures }
