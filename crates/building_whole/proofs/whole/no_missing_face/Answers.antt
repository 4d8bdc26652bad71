-- no_missing_face meets its contract. The invariant: the edges before e have a face on their right.
use borrow.Author.Tests.{eq-eqb, ne_eqb}
use Rattle.built_meshes.specs.Whole.{no_missing_face}
use lib.ListN.{get_or}
use lib.Dec.{eqb}
use native.Mathlib.Omega.{arith}
use Prim.Native.Nat.{◌+◌, ◌*◌}
use mathlib.Core.Bool.{not}
use mathlib.Core.Path.{sym, ap}
use Rattle.audited_meshes.proofs.Folds.{every-none, every_more, every-stop}
use Rattle.listed_points.proofs.Laws.{whole}
use Rattle.building_whole.proofs.whole.no_missing_face.Goals as goal

pub loop-e-init : goal.loop-e-init
loop-e-init c =
    every-none (λ i. not (eqb (get_or c.args.edges.now (i * 8 + 3) 0) 4294967295))

pub returns-then-edges-e : goal.returns-then-edges-e
unfolding no_missing_face
returns-then-edges-e c =
    sym (every-stop c.args.ne c.loop-e.e
    (λ i. not (eqb (get_or c.args.edges.now (i * 8 + 3) 0) 4294967295)) c.loop-e-test.true
    (ap not (eq-eqb _ _ c.if-edges-e.true)))

pub loop-e-preserved : goal.loop-e-preserved
loop-e-preserved c =
    every_more c.loop-e.e
    (λ i. not (eqb (get_or c.args.edges.now (i * 8 + 3) 0) 4294967295))
    c.loop-e.invariant (ap not (ne_eqb _ _ c.if-edges-e.false))

pub returns : goal.returns
unfolding no_missing_face
returns c =
    sym (rw (whole c.loop-e.e c.args.ne c.loop-e.auto.e-end c.loop-e-test.false) at
    c.loop-e.invariant)
