-- join_edge meets its contract: each field is the definition's.
use Rattle.joining_edges.proofs.Laws.{join-put}
use Rattle.joining_edges.proofs.join_edge.Goals as goal

pub returns : goal.returns
returns c =
    λ es s. join-put c.args.rows c.args.i es _ _ _ _ s _ _ _ _ c.next_place-next.ensures.value
    c.prev_place-prev.ensures.value c.face_row.ensures
    c.face_row-2.ensures
