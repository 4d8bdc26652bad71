-- put_joins meets its contract. The invariant: the first i turns are made.
use Rattle.refined_meshes.proofs.Turns.{turns-none, turns-turn, turns-end}
use Rattle.ring_rows.specs.Rings.{ring}
use Rattle.splitting.specs.Scratch.{tables_of}
use Rattle.refined_meshes.specs.Ring.{put_join}
use Rattle.refined_meshes.specs.State.{put_edge}
use lib.Ieee.{Float}
use Prim.Native.Nat.{ℕ, ◌-◌}
use native.Mathlib.Omega.{arith}
use mathlib.Core.List.{List}
use mathlib.Core.Path.{refl, ◌∙◌, ap₂}
use Rattle.ring_edges.proofs.put_joins.Goals as goal

pub loop-i-init : goal.loop-i-init
loop-i-init c = (
  refl,
  refl,
  λ es ps fs k. turns-none
      (put_join (ring c.args.rows es c.args.firsts.now c.args.seconds.now c.args.mids.now c.args.found.now))
      (tables_of ps c.args.edges.now c.args.intervals.now fs k),
)

pub loop-i-preserved : goal.loop-i-preserved
unfolding put_edge
loop-i-preserved c = (
  c.store_edge.auto.edges ∙ c.loop-i.invariant.0,
  c.store_edge.auto.intervals ∙ c.loop-i.invariant.1,
  λ es ps fs k. ap₂ (λ (xs : List ℕ) (ys : List Float). tables_of ps xs ys fs k) c.store_edge.ensures.edges_after
      c.store_edge.ensures.intervals_after ∙ c.join_edge-edge.ensures es (tables_of ps c.loop-i.edges c.loop-i.intervals fs k)
      ∙ turns-turn (put_join (ring c.args.rows es c.args.firsts.now c.args.seconds.now c.args.mids.now c.args.found.now)) c.loop-i.i
      (tables_of ps c.loop-i.edges c.loop-i.intervals fs k) (tables_of ps c.args.edges.now c.args.intervals.now fs k)
      (c.loop-i.invariant.2 es ps fs k),
)
