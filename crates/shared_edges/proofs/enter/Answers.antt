-- enter meets its contract: the place is chained, and paired with its mate.
use native.Mathlib.Omega.{arith}
use Rattle.shared_edges.proofs.Laws.{mate-below, entered-answer, entered-more}
use Rattle.shared_edges.proofs.enter.Goals as goal

pub pair_place-requires : goal.pair_place-requires
pair_place-requires c =
    record {
      pair_room = c.requires.pair_room;
      m_le_k = omega (
        arith,
        c.chain_place-mate.ensures.value,
        mate-below c.args.listed.now c.args.tos.now c.args.k,
      );
    }

pub returns : goal.returns
returns c =
    record {
      value = entered-answer c.args.listed.now c.args.tos.now c.args.heads.now c.args.links.now c.args.mates.now
          c.args.seconds.now c.chain_place-mate.new.heads c.chain_place-mate.new.links c.pair_place.new.mates
          c.pair_place.new.seconds c.args.k c.chain_place-mate.result c.pair_place.result c.requires.places_entered c.requires.pair_room
          c.chain_place-mate.ensures.value c.chain_place-mate.ensures.places_chained_2 c.pair_place.ensures;
      places_entered_2 = entered-more c.args.listed.now c.args.tos.now c.args.heads.now c.args.links.now c.args.mates.now
          c.args.seconds.now c.chain_place-mate.new.heads c.chain_place-mate.new.links c.pair_place.new.mates
          c.pair_place.new.seconds c.args.k c.chain_place-mate.result c.pair_place.result c.requires.places_entered c.requires.pair_room
          c.chain_place-mate.ensures.value c.chain_place-mate.ensures.places_chained_2 c.pair_place.ensures;
    }
