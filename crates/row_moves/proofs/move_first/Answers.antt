-- move_first meets its contract. The invariant: the first i elements are moved.
use mathlib.Core.Path.{refl, ◌∙◌}
use Prim.Native.Nat.{◌-◌}
use native.Mathlib.Omega.{arith}
use borrow.Rule.Slice.PartMut.{same_len_mid}
use Rattle.row_moves.proofs.Laws.{moved_none, moved-block, moved_all}
use Rattle.row_moves.proofs.move_first.Goals as goal

pub loop-i-init : goal.loop-i-init
loop-i-init g c = (moved_none c.args.zero c.args.new.now c.args.elements.now c.args.n, refl)

pub loop-i-preserved : goal.loop-i-preserved
loop-i-preserved g c = (
  moved-block c.args.zero c.args.new.now c.args.elements.now c.args.n _ _ _ _ c.loop-i.i c.block_end-end.result
      c.requires.n_in_bounds c.requires.n_in_bounds_2 c.loop-i.invariant.0 c.block_end-end.ensures.lower_bound
      c.block_end-end.ensures.upper_bound c.copy_first.ensures c.fill_first.ensures,
  same_len_mid c.loop-i.i (c.block_end-end.result - c.loop-i.i) c.loop-i.new _ c.fill_first.auto.elements ∙ c.loop-i.invariant.1,
)

pub returns : goal.returns
returns g c =
    let whole = moved_all c.args.zero c.args.new.now c.args.elements.now c.args.n _ _ _ c.loop-i.invariant.0 (omega arith) in
    record { elements_after = whole.0; after = whole.1 }
