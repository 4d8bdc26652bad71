-- settle_mids meets its contract. The invariant: the start edges of the midpoints of the first e edges are stored.
use native.Mathlib.Omega.{arith}
use Rattle.settling_starts.proofs.Laws.{starts_none, starts-turn, starts-end}
use Rattle.settling_starts.proofs.settle_mids.Goals as goal

pub loop-e-init : goal.loop-e-init
loop-e-init c =
    starts_none _ _ _

pub overflow_mul-e : goal.overflow_mul-e
overflow_mul-e c =
    omega (arith, (c.requires.halves c.loop-e.e (omega arith)).row)

pub overflow_add-e : goal.overflow_add-e
overflow_add-e c =
    omega (arith, (c.requires.halves c.loop-e.e (omega arith)).row)

pub offset_bounds-newedges-e : goal.offset_bounds-newedges-e
offset_bounds-newedges-e c =
    omega (arith, (c.requires.halves c.loop-e.e (omega arith)).row)

pub bounds-newedges-e : goal.bounds-newedges-e
bounds-newedges-e c =
    omega
    (arith, (c.requires.halves c.loop-e.e (omega arith)).row)

pub new_half-start-requires : goal.new_half-start-requires
new_half-start-requires c =
    c.requires.halves c.loop-e.e (omega arith)

pub overflow_mul-newpoints : goal.overflow_mul-newpoints
overflow_mul-newpoints c =
    omega (
      arith,
      c.index-p.ensures,
      c.loop-e.auto.newpoints,
      c.requires.rows c.loop-e.e (omega arith),
    )

pub overflow_add-newpoints : goal.overflow_add-newpoints
overflow_add-newpoints c =
    omega (
      arith,
      c.index-p.ensures,
      c.loop-e.auto.newpoints,
      c.requires.rows c.loop-e.e (omega arith),
    )

pub offset_bounds-newpoints-p : goal.offset_bounds-newpoints-p
offset_bounds-newpoints-p c =
    omega (
      arith,
      c.index-p.ensures,
      c.loop-e.auto.newpoints,
      c.requires.rows c.loop-e.e (omega arith),
    )

pub bounds-newpoints-p : goal.bounds-newpoints-p
bounds-newpoints-p c =
    omega (
      arith,
      c.index-p.ensures,
      c.loop-e.auto.newpoints,
      c.requires.rows c.loop-e.e (omega arith),
    )

pub loop-e-preserved : goal.loop-e-preserved
loop-e-preserved c =
    starts-turn _ _ c.loop-e.e c.loop-e.newpoints _ c.index-p.result _ c.loop-e.invariant
    c.index-p.ensures c.new_half-start.ensures

pub returns : goal.returns
returns c =
    starts-end _ _ c.loop-e.e c.args.ne c.loop-e.newpoints c.args.newpoints.now (omega arith)
    c.loop-e.invariant
