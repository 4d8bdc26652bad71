-- sum_of meets its contract.
use lib.ListN.{get_or}
use native.Mathlib.Omega.{arith}
use Prim.Native.Nat.{ℕ, ◌+◌}
use mathlib.Core.Path.{◌∙◌, sym, ap₂}
use Rattle.building_tests.proofs.Laws.{sum-none, sum_more}
use Rattle.building_lists.proofs.sum_of.Goals as goal

pub loop-k-init : goal.loop-k-init
loop-k-init c =
    (omega arith, sym (sum-none (λ i. get_or c.args.words.now i 0)))

pub overflow_add-sum : goal.overflow_add-sum
overflow_add-sum c =
    omega (
      arith,
      c.index-sum.ensures,
      c.type_inv.words c.loop-k.k,
      c.requires,
    )

pub loop-k-preserved : goal.loop-k-preserved
loop-k-preserved c = (
  omega (arith, c.index-sum.ensures, c.type_inv.words c.loop-k.k),
  ap₂ (λ (x y : ℕ). x + y) c.loop-k.invariant.1 c.index-sum.ensures
      ∙ sym (sum_more c.loop-k.k (λ i. get_or c.args.words.now i 0)),
)
