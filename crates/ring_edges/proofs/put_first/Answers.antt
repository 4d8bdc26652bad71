-- put_first meets its contract: each word is the definition's.
use Rattle.splitting.specs.Scratch.{tables_of}
use Rattle.ring_edges.proofs.Writing.{first-put}
use mathlib.Core.Path.{◌∙◌}
use Rattle.ring_edges.proofs.put_first.Goals as goal

pub returns : goal.returns
returns c =
    λ ms ps fs ds is k. c.put_side.ensures ps fs is k
    ∙ first-put c.args.rows c.args.i c.args.perimeter.now c.args.firsts.now c.args.seconds.now ms ds
    (tables_of ps c.args.newedges.now is fs k) c.args.edges.now _ c.index.ensures _ _ _
    c.on_left-left.ensures c.prev_place-prev.ensures.value
    c.face_row-f.ensures
