-- chain_place meets its contract: its stores are the definition's, and the search finds the mate.
use mathlib.Core.Path.{ap, ◌∙◌}
use Prim.Native.Nat.{ℕ}
use native.Mathlib.Omega.{arith}
use lib.ListN.{get_or}
use Rattle.shared_edges.specs.Chains.{low_at}
use Rattle.shared_edges.proofs.Laws.{chained_more}
use Rattle.shared_edges.proofs.chain_place.Goals as goal

pub search-mate-requires : goal.search-mate-requires
search-mate-requires c =
    record {
      k_in_bounds = omega (arith, c.requires.links_room.listed-fit);
      k_in_bounds_2 = omega (arith, c.requires.links_room.tos-fit);
      k_in_bounds_3 = omega (arith, c.requires.links_room.links-fit);
      chain_links = c.requires.places_chained.link;
      from_value = ap (λ (x : ℕ). get_or c.args.heads.now x 0)
          (c.index-low.ensures ∙ c.min.ensures)
          ∙ c.requires.places_chained.head (low_at c.args.listed.now c.args.tos.now c.args.k) c.requires.links_room.low-fit;
    }

pub returns : goal.returns
returns c =
    record {
      value = c.search-mate.ensures;
      places_chained_2 = chained_more c.args.listed.now c.args.tos.now c.args.heads.now c.args.links.now c.args.k c.index-low.result
          c.requires.places_chained (c.index-low.ensures ∙ c.min.ensures) (omega (arith, c.index-low.ensures, c.min.ensures, c.requires.links_room.low-fit))
          c.requires.links_room.links-fit;
    }
