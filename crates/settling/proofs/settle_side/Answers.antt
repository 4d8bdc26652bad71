-- settle_side meets its contract. The invariant: the joining edges of the first e rows are settled.
use native.Mathlib.Omega.{arith}
use Rattle.settling.proofs.Laws.{side-none, side-turn, side-end}
use Rattle.settling.proofs.settle_side.Goals as goal

pub loop-e-init : goal.loop-e-init
loop-e-init c =
    side-none _ _ _ _ _ _ _

pub overflow_mul-b : goal.overflow_mul-b
overflow_mul-b c =
    omega (arith, c.requires.rows)

pub overflow_add-b : goal.overflow_add-b
overflow_add-b c =
    omega (arith, c.requires.rows, c.requires.next_word)

pub offset_bounds-edges-b : goal.offset_bounds-edges-b
offset_bounds-edges-b c =
    omega (arith, c.requires.rows, c.requires.next_word)

pub bounds-edges-b : goal.bounds-edges-b
bounds-edges-b c =
    omega (arith, c.requires.rows, c.requires.next_word)

pub overflow_add-b-in-loop-e : goal.overflow_add-b-in-loop-e
overflow_add-b-in-loop-e c =
    omega (arith, c.requires.rows, c.requires.prev-word)

pub offset_bounds-edges-b-in-loop-e : goal.offset_bounds-edges-b-in-loop-e
offset_bounds-edges-b-in-loop-e c =
    omega (arith, c.requires.rows, c.requires.prev-word)

pub bounds-edges-b-in-loop-e : goal.bounds-edges-b-in-loop-e
bounds-edges-b-in-loop-e c =
    omega (arith, c.requires.rows, c.requires.prev-word)

pub overflow_add-b-in-loop-e-2 : goal.overflow_add-b-in-loop-e-2
overflow_add-b-in-loop-e-2 c =
    omega (arith, c.requires.new-rows, c.requires.join-word)

pub offset_bounds-newedges-b : goal.offset_bounds-newedges-b
offset_bounds-newedges-b c =
    omega (arith, c.requires.new-rows, c.requires.join-word)

pub bounds-newedges-b : goal.bounds-newedges-b
bounds-newedges-b c =
    omega (arith, c.requires.new-rows, c.requires.join-word)

pub offset_bounds-intervals-after : goal.offset_bounds-intervals-after
offset_bounds-intervals-after c =
    omega (
      arith,
      c.index-after.ensures,
      c.requires.next-there c.loop-e.e (omega arith),
    )

pub bounds-intervals-after : goal.bounds-intervals-after
bounds-intervals-after c =
    omega
    (arith, c.index-after.ensures, c.requires.next-there c.loop-e.e (omega arith))

pub offset_bounds-intervals-before : goal.offset_bounds-intervals-before
offset_bounds-intervals-before c =
    omega (arith, c.index-before.ensures, c.requires.prev-there c.loop-e.e (omega arith))

pub bounds-intervals-before : goal.bounds-intervals-before
bounds-intervals-before c =
    omega
    (arith, c.index-before.ensures, c.requires.prev-there c.loop-e.e (omega arith))

pub offset_bounds-newintervals-join : goal.offset_bounds-newintervals-join
offset_bounds-newintervals-join c =
    omega (arith, c.index-join.ensures, c.loop-e.auto.newintervals, c.requires.join-there c.loop-e.e (omega arith))

pub bounds-newintervals-join : goal.bounds-newintervals-join
bounds-newintervals-join c =
    omega (arith, c.index-join.ensures, c.loop-e.auto.newintervals, c.requires.join-there c.loop-e.e (omega arith))

pub loop-e-preserved : goal.loop-e-preserved
loop-e-preserved c =
    side-turn _ _ _ _ _ _ c.loop-e.e c.loop-e.newintervals _ c.index-join.result _ c.loop-e.invariant
    c.index-join.ensures (rw (
      c.index-after.ensures,
      c.index-before.ensures,
    ))

pub returns : goal.returns
returns c =
    side-end c.args.edges.now c.args.intervals.now c.args.newedges.now c.args.w c.args.next c.args.prev c.loop-e.e
    c.args.ne c.loop-e.newintervals c.args.newintervals.now (omega arith) c.loop-e.invariant
