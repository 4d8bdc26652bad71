-- pair_spot meets its contract: the places are spread, then the faces entered.
use mathlib.Core.Path.{◌∙◌}
use native.Mathlib.Omega.{arith}
use Prim.Native.Nat.{ℕ}
use lib.ListN.{length-replicate}
use Rattle.text_places.proofs.Laws.{first-is}
use Rattle.told_texts.proofs.Laws.{faces-room, nothing-entered, pairs}
use Rattle.told_texts.proofs.pair_spot.Goals as goal

-- src/lib.rt:80:5
pub faces_spot-requires : goal.faces_spot-requires
faces_spot-requires c =
    record {
      faces_room = faces-room c.args.sides.now c.args.firsts.now c.args.listed.now c.args.beside.now c.args.np c.requires.spot_room
          c.args.mates.now c.args.seconds.now c.requires.unpaired c.spread.new.tos
          (c.spread.auto.tos ∙ length-replicate {A = ℕ} 16384 0);
      tos_shown = c.spread.ensures.to;
      places_entered = nothing-entered c.args.sides.now c.args.firsts.now c.args.listed.now c.args.beside.now c.args.np c.requires.spot_room
          c.args.mates.now c.args.seconds.now c.requires.unpaired c.spread.new.tos;
    }

-- src/lib.rt:58:1
pub shape_of-mates : goal.shape_of-mates
shape_of-mates c =
    c.faces_spot.auto.mates

-- src/lib.rt:58:1
pub shape_of-seconds : goal.shape_of-seconds
shape_of-seconds c =
    c.faces_spot.auto.seconds

-- src/lib.rt:58:1
pub returns : goal.returns
returns c =
    record {
      value = λ cs h. first-is c.args.version cs c.args.sides.now c.args.firsts.now c.args.listed.now c.args.beside.now
          c.faces_spot.result (c.faces_spot.ensures.value cs h);
      pairs = λ t. pairs c.args.sides.now c.args.firsts.now c.args.listed.now c.args.beside.now c.args.np c.requires.spot_room
          c.args.mates.now c.args.seconds.now c.requires.unpaired c.spread.new.tos c.faces_spot.new.heads
          c.faces_spot.new.links c.faces_spot.new.mates
          c.faces_spot.new.seconds c.spread.ensures.to
          (omega (arith, c.faces_spot.auto.seconds, c.requires.unpaired.seconds-fit)) (c.faces_spot.ensures.found_if t);
    }
