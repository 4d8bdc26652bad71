-- choose_faces meets its contract: its three parts in turn.
use mathlib.Core.Path.{sym, ◌∙◌}
use native.Mathlib.Omega.{arith}
use lib.ListN.{length}
use Rattle.face_choices.proofs.Laws.{mates-fit-like, chosen}
use Rattle.face_choices.proofs.choose_faces.Goals as goal

pub join_places-twisted-requires : goal.join_places-twisted-requires
join_places-twisted-requires c =
    record {
      started = c.start.ensures;
      mates_fit = mates-fit-like c.args.listed.now c.args.faces.now c.args.mates.now (length c.args.ups.now)
          (length c.start.new.ups) c.start.auto.ups c.requires.mates_fit;
    }

pub settle-requires : goal.settle-requires
settle-requires c = record {
  falling = c.join_places-twisted.ensures.falling;
  turned_len = (c.requires.turned_len ∙ sym c.start.auto.ups ∙ sym c.join_places-twisted.ensures.same_length);
  ups_len_bound = omega (arith, c.start.auto.ups, c.join_places-twisted.ensures.same_length, c.requires.ups_len_bound);
}

pub returns : goal.returns
returns c =
    chosen c.args.listed.now c.args.faces.now c.args.mates.now (length c.start.new.ups)
    c.join_places-twisted.new.ups c.join_places-twisted.new.odds c.settle.new.turned c.join_places-twisted.result
    c.join_places-twisted.ensures c.settle.ensures
