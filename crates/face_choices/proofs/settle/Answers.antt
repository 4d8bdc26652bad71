-- settle meets its contract. The invariant: the faces passed are told of, and the lists keep the same parts; the measure is what is left.
use mathlib.Core.Path.{sym, ◌∙◌}
use Prim.Native.Nat.{◌-◌}
use native.Mathlib.Omega.{arith}
use Rattle.face_choices.proofs.Laws.{settling-none, settling-more}
use Rattle.face_choices.proofs.settle.Goals as goal

pub loop-f-init : goal.loop-f-init
loop-f-init c =
    settling-none c.args.ups.now c.args.odds.now c.args.turned.now c.requires.falling

pub overflow_cast-f : goal.overflow_cast-f
overflow_cast-f c =
    omega (arith, c.requires.turned_len, c.requires.ups_len_bound, c.loop-f.auto.f-end)

pub find_part-requires : goal.find_part-requires
find_part-requires c =
    record {
      falling = c.loop-f.invariant.falling;
      f_in_bounds = omega (
        arith,
        c.requires.turned_len,
        c.loop-f.invariant.same_length,
        c.loop-f.invariant.turned-length,
        c.loop-f-test.true,
      );
    }

pub loop-f-preserved : goal.loop-f-preserved
loop-f-preserved c =
    settling-more c.args.ups.now c.args.odds.now c.args.turned.now c.loop-f.ups c.loop-f.odds c.loop-f.turned
    c.find_part.new.ups c.find_part.new.odds c.loop-f.f c.find_part.result c.loop-f.invariant (omega (arith, c.loop-f-test.true, c.loop-f.invariant.turned-length)) c.find_part.ensures

pub shape_of-ups : goal.shape_of-ups
shape_of-ups c =
    c.loop-f.invariant.same_length

pub shape_of-odds : goal.shape_of-odds
shape_of-odds c =
    c.loop-f.invariant.falling.like ∙ c.loop-f.invariant.same_length
    ∙ sym c.requires.falling.like

pub shape_of-turned : goal.shape_of-turned
shape_of-turned c =
    c.loop-f.invariant.turned-length

pub returns : goal.returns
returns c =
    λ s k f b. c.loop-f.invariant.told s k f (omega (arith, c.loop-f-test.false))
