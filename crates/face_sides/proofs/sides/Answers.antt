-- `sides` meets its contract. The invariant is `SidesSoFar`.
pub mod Turn
use native.Mathlib.Omega.{arith}
use mathlib.Core.Path.{◌∙◌}
use Rattle.face_sides.proofs.sides.Answers.Turn.{start, turn, stop, end, side-longer}
use Rattle.face_sides.proofs.sides.Goals as goal

pub loop-k-init : goal.loop-k-init
loop-k-init c =
    start _ _ _ _ _ _ _ _ c.requires.0 c.requires.1.1

pub side-requires : goal.side-requires
side-requires c =
    (c.loop-k.invariant.inside, c.loop-k.invariant.counted)

pub returns-in_err-read-clause-run : goal.returns-in_err-read-clause-run
returns-in_err-read-clause-run c =
    c.from_residual.ensures ∙ stop _ _ _ _ _ _ _ _ _ _ _ _ _ _ _ c.loop-k.invariant c.loop-k-test.true
    c.side.ensures.side c.in_err-read.was

pub overflow_add-c : goal.overflow_add-c
overflow_add-c c =
    let h = side-longer _ _ _ _ _ _ _ _ _ _ _ _ _ _ _ c.loop-k.invariant c.loop-k-test.true c.side.ensures.side
    c.in_ok-read.was in
    omega arith

pub loop-k-preserved : goal.loop-k-preserved
loop-k-preserved c =
    turn _ _ _ _ _ _ _ _ _ _ _ _ _ _ _ c.loop-k.invariant c.loop-k-test.true c.side.ensures.side c.in_ok-read.was
    c.put.ensures c.put-in-loop-k.ensures
    c.side.ensures.points c.side.ensures.intervals

pub returns : goal.returns
returns c =
    let whole = end _ _ _ _ _ _ _ _ _ _ _ _ _ _ _ c.loop-k.invariant (omega arith) in
    record
    { run = whole.0; lengths = whole.1.0; firsts = whole.1.1.0; points = whole.1.1.1.0; intervals = whole.1.1.1.1 }
