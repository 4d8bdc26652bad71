-- are_shared meets its contract. The invariant: the places passed are shared.
use mathlib.Core.Path.{refl}
use borrow.Author.Tests.{ne_eqb}
use mathlib.Core.Bool.{not, true, ◌&&◌}
use Prim.Native.Nat.{◌-◌}
use native.Mathlib.Omega.{arith}
use lib.Dec.{eqb}
use lib.ListN.{length, get_or}
use Rattle.audited_meshes.specs.Folds.{every}
use Rattle.audited_meshes.proofs.Folds.{every_more}
use Rattle.shared_edges.proofs.Laws.{every-fails, all-passed}
use Rattle.shared_edges.proofs.are_shared.Goals.{else-mates-k-eq0-via-then-mates-k-eq0+else-seconds-k-eq0, else-mates-k-eq0-via-else-mates-k-eq0}
use Rattle.shared_edges.proofs.are_shared.Goals as goal

pub loop-k-init : goal.loop-k-init
loop-k-init c =
    unfold every in refl

pub returns : goal.returns
returns c =
    all-passed (length c.args.mates.now) c.loop-k.k
    (λ k. not (eqb (get_or c.args.mates.now k 0) 0 && eqb (get_or c.args.seconds.now k 0) 0))
    (omega (arith, c.loop-k-test.false, c.loop-k.auto.k-end)) c.loop-k.invariant

pub returns-then-seconds-k-eq0 : goal.returns-then-seconds-k-eq0
returns-then-seconds-k-eq0 c =
    every-fails (length c.args.mates.now)
    (λ k. not (eqb (get_or c.args.mates.now k 0) 0 && eqb (get_or c.args.seconds.now k 0) 0))
    c.loop-k.k c.loop-k-test.true (rw (c.if-mates-k-eq0.true, c.if-seconds-k-eq0.true))

pub loop-k-preserved : goal.loop-k-preserved
loop-k-preserved c =
    every_more c.loop-k.k (λ k. not (eqb (get_or c.args.mates.now k 0) 0 && eqb (get_or c.args.seconds.now k 0) 0))
    c.loop-k.invariant
    (elim c.else-mates-k-eq0.branch [
      | else-mates-k-eq0-via-then-mates-k-eq0+else-seconds-k-eq0 w ↦ rw w.if-mates-k-eq0.true (simp (ne_eqb _ _ w.if-seconds-k-eq0.false))
      | else-mates-k-eq0-via-else-mates-k-eq0 w ↦ simp (ne_eqb _ _ w.if-mates-k-eq0.false)
    ])
