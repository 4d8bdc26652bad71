-- all_apart meets its contract. The invariant: no face stands twice in the windows passed.
use Prim.Native.Nat.{ℕ, ◌*◌, ◌<◌}
use mathlib.Core.Bool.{false≢true}
use mathlib.Core.Path.{refl, sym, ◌∙◌, subst}
use native.Mathlib.Omega.{arith}
use lib.ListN.{length, get_or}
use Rattle.audited_meshes.proofs.Folds.{below_suc}
use Rattle.orders.proofs.Laws.{distinct-of-windows, not-distinct}
use Rattle.orders.specs.Orders.{window, ApartAbove}
use Rattle.orders.proofs.all_apart.Goals as goal

pub returns-then-not-apart_above : goal.returns-then-not-apart_above
returns-then-not-apart_above c =
    sym (not-distinct c.args.order.now (c.loop-k.k * window)
    (λ apart. false≢true (sym (c.if-not-apart_above.true) ∙ c.apart_above.ensures.1 apart)))

pub loop-k-preserved : goal.loop-k-preserved
loop-k-preserved c = (
  refl,
  λ j l. below_suc j c.loop-k.k (omega arith) (λ lt. c.loop-k.invariant.1 j lt)
      (λ e. subst (λ (j : ℕ). ApartAbove (j * window) c.args.order.now) (sym e)
      (c.apart_above.ensures.0 (c.if-not-apart_above.false))),
)

pub returns : goal.returns
returns c =
    let below : (i : ℕ) → i < length c.args.order.now → get_or c.args.order.now i 0 < c.loop-k.k * window =
    λ i l. let o : get_or c.args.order.now i 0 < length c.args.order.now = c.requires i l in omega arith in
    sym (distinct-of-windows c.args.order.now c.loop-k.k below (λ j l. c.loop-k.invariant.1 j l))
