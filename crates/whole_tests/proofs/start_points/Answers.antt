-- start_points meets its contract. The invariant: of the places passed the last ones are written.
use mathlib.Core.Path.{◌≡◌, refl, ◌∙◌, ap}
use Prim.Native.Nat.{◌-◌, ◌+◌}
use native.Mathlib.Omega.{arith}
use lib.Dec.{eqb}
use lib.ListN.{length, get_or, length-set}
use Rattle.whole_tests.proofs.Laws.{start_none, start-more}
use Rattle.mended_lists.specs.Edges.{latest}
use Rattle.whole_tests.proofs.start_points.Goals as goal

-- src/lib.rt:33:5
pub loop-k-init : goal.loop-k-init
loop-k-init c = (
  refl,
  start_none c.args.listed.now c.args.starts.now c.requires,
)

-- src/lib.rt:34:23
pub bounds-listed-k : goal.bounds-listed-k
bounds-listed-k c =
    c.loop-k-test.true

-- src/lib.rt:35:21
pub overflow_cast-starts : goal.overflow_cast-starts
overflow_cast-starts c =
    omega (arith, c.loop-k-test.true, c.requires.few)

-- src/lib.rt:35:21
pub overflow_add-starts : goal.overflow_add-starts
overflow_add-starts c =
    omega (arith, c.loop-k-test.true, c.requires.few)

-- src/lib.rt:35:9
pub offset_bounds-starts-p : goal.offset_bounds-starts-p
offset_bounds-starts-p c =
    omega (
      arith,
      c.index-p.ensures,
      c.requires.are-points c.loop-k.k c.loop-k-test.true,
      c.requires.starts-few,
    )

-- src/lib.rt:35:9
pub bounds-starts-p : goal.bounds-starts-p
bounds-starts-p c =
    omega (
      arith,
      c.index-p.ensures,
      c.requires.are-points c.loop-k.k
          c.loop-k-test.true,
      c.loop-k.invariant.0,
    )

-- src/lib.rt:33:5
pub loop-k-preserved : goal.loop-k-preserved
loop-k-preserved c = (
  length-set c.loop-k.starts c.index-p.result (c.loop-k.k + 1) ∙ c.loop-k.invariant.0,
  start-more c.args.listed.now c.loop-k.starts c.loop-k.k
      c.index-p.result c.index-p.ensures
      (omega (
        arith,
        c.index-p.ensures,
        c.requires.are-points c.loop-k.k c.loop-k-test.true,
        c.loop-k.invariant.0,
      )) c.loop-k.invariant.1,
)

-- src/lib.rt:26:1
pub shape_of-starts : goal.shape_of-starts
shape_of-starts c =
    c.loop-k.invariant.0

-- src/lib.rt:26:1
pub returns : goal.returns
returns c =
    λ p b. c.loop-k.invariant.1 p (omega (arith, c.loop-k.invariant.0))
    ∙ ap (latest (λ k. eqb (get_or c.args.listed.now k 0) p))
    (let e : c.loop-k.k ≡ length c.args.listed.now = omega (arith, c.loop-k-test.false, c.loop-k.auto.k-end) in e)
