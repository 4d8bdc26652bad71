-- all_begun meets its contract. The invariant: a place begins at each point passed.
use mathlib.Core.Path.{refl, ap}
use Prim.Native.Nat.{◌-◌}
use native.Mathlib.Omega.{arith}
use lib.Dec.{eqb}
use lib.ListN.{get_or}
use mathlib.Core.Bool.{not, true}
use borrow.Author.Tests.{eq-eqb}
use Rattle.audited_meshes.specs.Folds.{every}
use Rattle.mended_lists.proofs.Reversal.{eqb-false}
use Rattle.audited_meshes.proofs.Folds.{every_more}
use Rattle.shared_edges.proofs.Laws.{every-fails, all-passed}
use Rattle.whole_tests.proofs.all_begun.Goals as goal

-- src/lib.rt:46:5
pub loop-p-init : goal.loop-p-init
loop-p-init c =
    (omega arith, unfold every in refl)

-- src/lib.rt:47:12
pub bounds-starts-p : goal.bounds-starts-p
bounds-starts-p c =
    omega (arith, c.loop-p-test.true, c.requires)

-- src/lib.rt:48:13
pub returns-then-starts-p-eq0 : goal.returns-then-starts-p-eq0
returns-then-starts-p-eq0 c =
    every-fails c.args.np (λ p. not (eqb (get_or c.args.starts.now p 0) 0)) c.loop-p.p
    c.loop-p-test.true (ap not (eq-eqb _ 0 c.if-starts-p-eq0.true))

-- src/lib.rt:46:5
pub loop-p-preserved : goal.loop-p-preserved
loop-p-preserved c = (
  omega (arith, c.loop-p-test.true),
  every_more c.loop-p.p
      (λ p. not (eqb (get_or c.args.starts.now p 0) 0))
      c.loop-p.invariant.1 (ap not (eqb-false _ 0 c.if-starts-p-eq0.false)),
)

-- src/lib.rt:41:1
pub returns : goal.returns
returns c =
    all-passed c.args.np c.loop-p.p
    (λ p. not (eqb (get_or c.args.starts.now p 0) 0))
    (omega (arith, c.loop-p-test.false, c.loop-p.invariant.0)) c.loop-p.invariant.1
