-- all_below meets its contract. The invariant: the entries passed are below nf.
use Prim.Native.Nat.{◌<◌, ℕ, ◌≤◌}
use mathlib.Core.Path.{sym, ◌∙◌, ap, ◌≡◌, refl}
use native.Mathlib.Omega.{arith}
use borrow.Author.Tests.{lt-ltb, le-ltb}
use lib.ListN.{get_or}
use lib.Dec.{ltb}
use Rattle.audited_meshes.proofs.Folds.{every_more, every-stop}
use Rattle.audited_meshes.specs.Folds.{every}
use Rattle.orders.proofs.all_below.Goals as goal

pub loop-i-init : goal.loop-i-init
loop-i-init c =
    unfold every in refl

pub returns-then-nf-index : goal.returns-then-nf-index
returns-then-nf-index c =
    let past : c.args.nf ≤ get_or c.args.order.now c.loop-i.i 0 = omega arith in
    sym (every-stop c.args.nf c.loop-i.i (λ (k : ℕ). ltb (get_or c.args.order.now k 0) c.args.nf) (omega arith)
    (le-ltb (get_or c.args.order.now c.loop-i.i 0) c.args.nf past))

pub loop-i-preserved : goal.loop-i-preserved
loop-i-preserved c =
    let below : get_or c.args.order.now c.loop-i.i 0 < c.args.nf = omega arith in
    every_more c.loop-i.i (λ (k : ℕ). ltb (get_or c.args.order.now k 0) c.args.nf) c.loop-i.invariant
    (lt-ltb (get_or c.args.order.now c.loop-i.i 0) c.args.nf below)

pub returns : goal.returns
returns c =
    let end : c.loop-i.i ≡ c.args.nf = omega arith in
    sym (ap (λ (n : ℕ). every n (λ (k : ℕ). ltb (get_or c.args.order.now k 0) c.args.nf)) (sym end) ∙ c.loop-i.invariant)
