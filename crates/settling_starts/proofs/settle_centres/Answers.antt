-- settle_centres meets its contract. The invariant: the start edges of the face points of the first f faces are stored.
use native.Mathlib.Omega.{arith}
use Rattle.settling_starts.proofs.Laws.{starts_none, starts-turn, starts-end}
use Rattle.settling_starts.proofs.settle_centres.Goals as goal

pub loop-f-init : goal.loop-f-init
loop-f-init c =
    starts_none _ _ _

pub centre_start-start-requires : goal.centre_start-start-requires
centre_start-start-requires c =
    c.requires.centres c.loop-f.f (omega arith)

pub overflow_mul-newpoints : goal.overflow_mul-newpoints
overflow_mul-newpoints c =
    omega (arith, c.index-p.ensures, c.loop-f.auto.newpoints, c.requires.rows c.loop-f.f (omega arith))

pub overflow_add-newpoints : goal.overflow_add-newpoints
overflow_add-newpoints c =
    omega (arith, c.index-p.ensures, c.loop-f.auto.newpoints, c.requires.rows c.loop-f.f (omega arith))

pub offset_bounds-newpoints-p : goal.offset_bounds-newpoints-p
offset_bounds-newpoints-p c =
    omega (arith, c.index-p.ensures, c.loop-f.auto.newpoints, c.requires.rows c.loop-f.f (omega arith))

pub bounds-newpoints-p : goal.bounds-newpoints-p
bounds-newpoints-p c =
    omega (arith, c.index-p.ensures, c.loop-f.auto.newpoints, c.requires.rows c.loop-f.f (omega arith))

pub loop-f-preserved : goal.loop-f-preserved
loop-f-preserved c =
    starts-turn _ _ c.loop-f.f c.loop-f.newpoints _ c.index-p.result _ c.loop-f.invariant
    c.index-p.ensures c.centre_start-start.ensures

pub returns : goal.returns
returns c =
    starts-end _ _ c.loop-f.f c.args.nf c.loop-f.newpoints c.args.newpoints.now (omega arith)
    c.loop-f.invariant
