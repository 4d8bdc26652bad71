-- put_face_point meets its contract: three stores, one after the other.
use Rattle.refined_meshes.specs.Ring.{put_face_point}
use Rattle.refined_meshes.specs.State.{put_point}
use mathlib.Core.Path.{refl}
use Rattle.ring_faces.proofs.put_face_point.Goals as goal

pub returns : goal.returns
unfolding put_face_point put_point
returns c =
    λ es hs gs ms xs fs ds is k. refl
