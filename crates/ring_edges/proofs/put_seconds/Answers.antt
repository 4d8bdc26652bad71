-- put_seconds meets its contract. The invariant: the first i turns are made.
use Rattle.refined_meshes.proofs.Turns.{turns-none, turns-turn, turns-end}
use Rattle.ring_rows.specs.Rings.{ring}
use Rattle.splitting.specs.Scratch.{tables_of}
use Rattle.refined_meshes.specs.Ring.{put_second}
use Rattle.tables.specs.Parts.{face_tables}
use Prim.Native.Nat.{◌-◌}
use native.Mathlib.Omega.{arith}
use mathlib.Core.List.{[]}
use mathlib.Core.Path.{refl, ◌∙◌}
use Rattle.ring_edges.proofs.put_seconds.Goals as goal

pub loop-i-init : goal.loop-i-init
loop-i-init c = (
  refl,
  λ ms ps fs ds is k. turns-none (put_second (face_tables c.args.edges.now [])
      (ring c.args.rows c.args.perimeter.now c.args.firsts.now c.args.seconds.now ms ds)) (tables_of ps c.args.newedges.now is fs k),
)

pub loop-i-preserved : goal.loop-i-preserved
loop-i-preserved c = (
  c.put_second.auto.newedges ∙ c.loop-i.invariant.0,
  λ ms ps fs ds is k. c.put_second.ensures ms ps fs ds is k
      ∙ turns-turn (put_second (face_tables c.args.edges.now [])
      (ring c.args.rows c.args.perimeter.now c.args.firsts.now c.args.seconds.now ms ds)) c.loop-i.i (tables_of ps _ is fs k)
      (tables_of ps c.args.newedges.now is fs k) (c.loop-i.invariant.1 ms ps fs ds is k),
)
