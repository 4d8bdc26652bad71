-- first_spot meets its contract: the places are spread, then the faces entered into lists of zeros.
use mathlib.Core.Path.{◌∙◌}
use lib.ListN.{length-replicate}
use Prim.Native.Nat.{ℕ}
use Rattle.mending.proofs.Laws.{nothing-entered}
use Rattle.text_places.proofs.Laws.{faces-room, first-is}
use Rattle.text_places.proofs.first_spot.Goals as goal

-- src/lib.rt:55:5
pub faces_spot-requires : goal.faces_spot-requires
faces_spot-requires c =
    record {
      faces_room = faces-room c.args.sides.now c.args.firsts.now c.args.listed.now c.args.beside.now c.spread.new.tos
          c.args.np (c.requires) (c.spread.auto.tos ∙ length-replicate {A = ℕ} 16384 0);
      tos_shown = c.spread.ensures.to;
      places_entered = nothing-entered c.args.listed.now c.spread.new.tos _ 4096 16384 16384;
    }

-- src/lib.rt:42:1
pub returns : goal.returns
returns c =
    λ cs h. first-is c.args.version cs c.args.sides.now c.args.firsts.now c.args.listed.now c.args.beside.now
    c.faces_spot.result (c.faces_spot.ensures.value cs h)
