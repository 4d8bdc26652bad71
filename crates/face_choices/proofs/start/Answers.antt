-- start meets its contract. The invariant: the faces passed point to themselves.
use Prim.Native.Nat.{◌-◌}
use native.Mathlib.Omega.{arith}
use Rattle.face_choices.proofs.Laws.{pointing-none, pointing-more, pointing-all}
use Rattle.face_choices.proofs.start.Goals as goal

pub loop-f-init : goal.loop-f-init
loop-f-init c =
    pointing-none c.args.ups.now c.args.odds.now

pub overflow_cast-ups : goal.overflow_cast-ups
overflow_cast-ups c =
    omega (arith, c.requires.ups_len_bound, c.loop-f.invariant.not-past)

pub bounds-odds-f : goal.bounds-odds-f
bounds-odds-f c =
    omega (arith, c.requires.odds_len, c.loop-f.invariant.ups-length, c.loop-f.invariant.odds-length)

pub loop-f-preserved : goal.loop-f-preserved
loop-f-preserved c =
    pointing-more c.args.ups.now c.args.odds.now c.loop-f.ups c.loop-f.odds
    c.loop-f.f c.requires.odds_len c.loop-f.invariant (omega (arith, c.loop-f-test.true, c.loop-f.invariant.ups-length))

pub shape_of-ups : goal.shape_of-ups
shape_of-ups c =
    c.loop-f.invariant.ups-length

pub shape_of-odds : goal.shape_of-odds
shape_of-odds c =
    c.loop-f.invariant.odds-length

pub returns : goal.returns
returns c =
    pointing-all c.args.ups.now c.args.odds.now c.loop-f.ups c.loop-f.odds
    c.loop-f.f c.requires.odds_len (omega (arith, c.loop-f-test.false)) c.loop-f.invariant
