-- join_places meets its contract. The invariant: the faces of the places passed are joined.
use mathlib.Core.Bool.{◌||◌}
use mathlib.Core.Path.{refl, sym, ◌∙◌}
use Prim.Native.Nat.{◌-◌}
use native.Mathlib.Omega.{arith}
use lib.ListN.{length}
use Rattle.face_choices.proofs.Laws.{joined-none, joined-more, mates-fit-like, at-end}
use Rattle.face_choices.proofs.join_places.Goals as goal

pub loop-k-init : goal.loop-k-init
loop-k-init c =
    joined-none c.args.listed.now c.args.faces.now c.args.mates.now c.args.ups.now c.args.odds.now
    c.requires.started

pub join_place-twisted-requires : goal.join_place-twisted-requires
join_place-twisted-requires c =
    record {
      falling = c.loop-k.invariant.falling;
      mates_fit = mates-fit-like c.args.listed.now c.args.faces.now c.args.mates.now (length c.args.ups.now)
          (length c.loop-k.ups) c.loop-k.invariant.same_length c.requires.mates_fit;
      k_in_bounds = c.loop-k-test.true;
    }

pub loop-k-preserved : goal.loop-k-preserved
loop-k-preserved c =
    joined-more c.args.listed.now c.args.faces.now c.args.mates.now c.loop-k.k (length c.args.ups.now)
    c.loop-k.ups c.loop-k.odds c.join_place-twisted.new.ups c.join_place-twisted.new.odds c.loop-k.twisted
    c.join_place-twisted.result (c.loop-k.twisted || c.join_place-twisted.result) c.loop-k.invariant c.join_place-twisted.ensures refl

pub shape_of-ups : goal.shape_of-ups
shape_of-ups c =
    c.loop-k.invariant.same_length

pub shape_of-odds : goal.shape_of-odds
shape_of-odds c =
    c.loop-k.invariant.falling.like ∙ c.loop-k.invariant.same_length
    ∙ sym c.requires.started.falling.like

pub returns : goal.returns
returns c =
    at-end c.args.listed.now c.args.faces.now c.args.mates.now c.loop-k.k (length c.args.ups.now) c.loop-k.ups
    c.loop-k.odds c.loop-k.twisted (omega (arith, c.loop-k-test.false, c.loop-k.auto.k-end)) c.loop-k.invariant
