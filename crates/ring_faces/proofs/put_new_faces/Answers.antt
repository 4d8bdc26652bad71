-- put_new_faces meets its contract. The invariant: the first i turns are made.
use Rattle.refined_meshes.proofs.Turns.{turns-none, turns-turn}
use Rattle.ring_rows.specs.Rings.{ring}
use Rattle.splitting.specs.Scratch.{tables_of}
use Rattle.refined_meshes.specs.Ring.{put_new_face}
use Rattle.tables.specs.Parts.{face_tables}
use mathlib.Core.List.{[]}
use mathlib.Core.Path.{refl, ◌∙◌}
use Rattle.ring_faces.proofs.put_new_faces.Goals as goal

pub loop-i-init : goal.loop-i-init
loop-i-init c = (
  refl,
  λ gs ps es ds is k. turns-none (put_new_face (face_tables c.args.edges.now [])
      (ring c.args.rows c.args.perimeter.now c.args.firsts.now gs c.args.mids.now ds)) (tables_of ps es is c.args.newfaces.now k),
)

pub loop-i-preserved : goal.loop-i-preserved
loop-i-preserved c = (
  c.put_new_face.auto.newfaces ∙ c.loop-i.invariant.0,
  λ gs ps es ds is k. c.put_new_face.ensures gs ps es ds is k
      ∙ turns-turn (put_new_face (face_tables c.args.edges.now [])
      (ring c.args.rows c.args.perimeter.now c.args.firsts.now gs c.args.mids.now ds)) c.loop-i.i (tables_of ps es is _ k)
      (tables_of ps es is c.args.newfaces.now k) (c.loop-i.invariant.1 gs ps es ds is k),
)
