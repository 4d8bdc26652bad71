-- connect meets its contract: the four calls serve the face states in the definition's order.
use Rattle.edge_links.proofs.Pair.connect.Goals as goal

pub returns : goal.returns
returns c =
    rw (
      ← c.same_face-4.ensures,
      ← c.same_face-3.ensures,
      ← c.same_face-2.ensures,
      ← c.same_face.ensures,
      ← c.vert_state-v.ensures,
      ← c.serve-a.ensures,
      ← c.serve-b.ensures,
      ← c.serve-c.ensures,
    )
    c.serve.ensures
