-- all_come meets its contract. The invariant: turning from the places passed leads there.
use mathlib.Core.Path.{refl, sym, ◌∙◌, ap}
use Prim.Native.Nat.{ℕ, ◌-◌}
use native.Mathlib.Omega.{arith}
use lib.ListN.{get_or}
use mathlib.Core.Bool.{true}
use Rattle.audited_meshes.specs.Folds.{every}
use Rattle.audited_meshes.proofs.Folds.{every_more}
use Rattle.shared_edges.proofs.Laws.{every-fails, all-passed}
use Rattle.whole_grounds.specs.Turning.{comes}
use Rattle.whole_tests.specs.Whole.{step_at}
use Rattle.whole_tests.proofs.all_come.Goals as goal

-- src/lib.rt:124:5
pub loop-k-init : goal.loop-k-init
loop-k-init c =
    (omega arith, unfold every in refl)

-- src/lib.rt:125:23
pub bounds-listed-k : goal.bounds-listed-k
bounds-listed-k c =
    omega (arith, c.loop-k-test.true, c.requires.n_in_bounds)

-- src/lib.rt:126:28
pub offset_bounds-starts-p : goal.offset_bounds-starts-p
offset_bounds-starts-p c =
    omega (
      arith,
      c.index-p.ensures,
      c.requires.by_index c.loop-k.k c.loop-k-test.true,
      c.requires.starts_len_bound,
    )

-- src/lib.rt:126:28
pub bounds-starts-p : goal.bounds-starts-p
bounds-starts-p c =
    omega (
      arith,
      c.index-p.ensures,
      c.requires.by_index c.loop-k.k c.loop-k-test.true,
    )

-- src/lib.rt:127:13
pub comes_to-requires : goal.comes_to-requires
comes_to-requires c =
    record { turn_room = c.requires.turn_room; k_lt_n = c.loop-k-test.true }

-- src/lib.rt:128:13
pub returns-then-not-comes_to : goal.returns-then-not-comes_to
returns-then-not-comes_to c =
    every-fails c.args.n (λ k. comes (step_at c.args.nexts.now c.args.mates.now c.args.seconds.now) c.args.n k
    (get_or c.args.starts.now (get_or c.args.listed.now k 0) 0 - 1)) c.loop-k.k
    c.loop-k-test.true
    (ap (λ (x : ℕ). comes (step_at c.args.nexts.now c.args.mates.now c.args.seconds.now) c.args.n c.loop-k.k x)
    (sym (c.link_place-s.ensures
    ∙ ap (λ (x : ℕ). get_or c.args.starts.now x 0 - 1) c.index-p.ensures))
    ∙ sym c.comes_to.ensures ∙ c.if-not-comes_to.true)

-- src/lib.rt:124:5
pub loop-k-preserved : goal.loop-k-preserved
loop-k-preserved c = (
  omega (arith, c.loop-k-test.true),
  every_more c.loop-k.k (λ k. comes (step_at c.args.nexts.now c.args.mates.now c.args.seconds.now) c.args.n k
      (get_or c.args.starts.now (get_or c.args.listed.now k 0) 0 - 1)) c.loop-k.invariant.1
      (ap (λ (x : ℕ). comes (step_at c.args.nexts.now c.args.mates.now c.args.seconds.now) c.args.n c.loop-k.k x)
      (sym (c.link_place-s.ensures
      ∙ ap (λ (x : ℕ). get_or c.args.starts.now x 0 - 1) c.index-p.ensures))
      ∙ sym c.comes_to.ensures ∙ c.if-not-comes_to.false),
)

-- src/lib.rt:108:1
pub returns : goal.returns
returns c =
    all-passed c.args.n c.loop-k.k
    (λ k. comes (step_at c.args.nexts.now c.args.mates.now c.args.seconds.now) c.args.n k
    (get_or c.args.starts.now (get_or c.args.listed.now k 0) 0 - 1))
    (omega (arith, c.loop-k-test.false, c.loop-k.invariant.0)) c.loop-k.invariant.1
