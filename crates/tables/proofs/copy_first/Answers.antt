-- copy_first meets its contract. The invariant: the first i elements are copied.
use mathlib.Core.Path.{refl, sym, ◌∙◌, ap}
use mathlib.Core.List.{List}
use Prim.Native.Nat.{ℕ}
use native.Mathlib.Omega.{arith}
use lib.ListN.{set, length-set}
use Rattle.tables.specs.Rows.{over}
use Rattle.tables.proofs.Laws.{over_none, over-more}
use Rattle.tables.proofs.copy_first.Goals as goal

pub loop-i-init : goal.loop-i-init
loop-i-init g c = (refl, sym (over_none c.args.new.now c.args.elements.now))

pub loop-i-preserved : goal.loop-i-preserved
loop-i-preserved g c = (
  rw length-set c.loop-i.invariant.0,
  ap (λ (l : List g.row.T.Denot). set l c.loop-i.i c.index-new-i.result) c.loop-i.invariant.1
      ∙ ap (λ (x : g.row.T.Denot). set (over c.loop-i.i c.args.new.now c.args.elements.now) c.loop-i.i x) c.index-new-i.is
      ∙ over-more c.loop-i.i c.args.new.now c.args.elements.now c.index-new-i.result (omega arith) (omega arith),
)

pub returns : goal.returns
returns g c =
    c.loop-i.invariant.1
    ∙ ap (λ (k : ℕ). over k c.args.new.now c.args.elements.now) (omega (arith, c.loop-i.auto.i-end))
