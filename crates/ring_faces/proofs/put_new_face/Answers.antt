-- put_new_face meets its contract: each word is the definition's.
use Rattle.splitting.specs.Scratch.{tables_of}
use Rattle.ring_faces.proofs.Writing.{face-put}
use Rattle.refined_meshes.specs.State.{put_face}
use Prim.Native.Nat.{ℕ}
use mathlib.Core.List.{List}
use mathlib.Core.Path.{◌∙◌, ap}
use Rattle.ring_faces.proofs.put_new_face.Goals as goal

pub returns : goal.returns
unfolding put_face
returns c =
    λ gs ps es ds is k. ap (λ (fs : List ℕ). tables_of ps es is fs k) c.store_face.ensures
    ∙ face-put c.args.rows c.args.i c.args.perimeter.now c.args.firsts.now gs c.args.mids.now ds
    (tables_of ps es is c.args.newfaces.now k) c.args.edges.now _ c.index.ensures _ _ _
    c.prev_place-prev.ensures.value c.first_point-p.ensures c.face_row-f.ensures
