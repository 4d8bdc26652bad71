-- fill_first meets its contract. The invariant: the places that are passed have the value.
use mathlib.Core.Path.{sym, ◌∙◌, ap}
use mathlib.Core.List.{List, ◌++◌}
use Prim.Native.Nat.{ℕ}
use native.Mathlib.Omega.{arith}
use lib.ListN.{set, take, drop}
use lib.Seq.{length-take-le}
use Rattle.tables.specs.Rows.{zeroed}
use Rattle.tables.proofs.Laws.{zeroed-none, zeroed-more, zeroed-front}
use Rattle.tables.proofs.fill_first.Goals as goal

pub loop-element-init : goal.loop-element-init
loop-element-init g c = sym (zeroed-none c.args.value (take c.args.n c.args.elements.now))

pub loop-element-preserved : goal.loop-element-preserved
loop-element-preserved g c =
    ap (λ (l : List g.row.T.Denot). set l c.loop-element.element-index c.args.value) c.loop-element.invariant
    ∙ zeroed-more c.loop-element.element-index c.args.value (take c.args.n c.args.elements.now) c.loop-element-test.true

pub returns : goal.returns
returns g c =
    ap (λ (l : List g.row.T.Denot). l ++ drop c.args.n c.args.elements.now)
    (c.loop-element.invariant
    ∙ ap (λ (k : ℕ). zeroed k c.args.value (take c.args.n c.args.elements.now))
    (omega (arith, c.loop-element.auto.element-index-end, c.loop-element-test.false, length-take-le c.args.n c.args.elements.now c.requires)))
    ∙ zeroed-front c.args.n c.args.value c.args.elements.now c.requires
