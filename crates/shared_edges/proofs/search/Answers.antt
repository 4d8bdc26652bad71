-- search meets its contract. The invariant: the places that the chain has still to pass hold what all places hold; links fall, so the
-- link is the measure.
use mathlib.Core.Path.{sym, ◌∙◌}
use native.Mathlib.Omega.{arith}
use Rattle.shared_edges.proofs.Laws.{search-start, search-below, search-found, search-turn, search-less, search-end}
use Rattle.shared_edges.proofs.search.Goals as goal

pub loop-link-init : goal.loop-link-init
loop-link-init c =
    search-start c.args.listed.now c.args.tos.now c.args.k c.args.p c.args.q c.args.from
    c.requires.from_value

pub overflow_sub-link : goal.overflow_sub-link
overflow_sub-link c =
    omega (arith, c.loop-link-test.true)

pub index-j-requires : goal.index-j-requires
index-j-requires c =
    tt

pub joins-requires : goal.joins-requires
joins-requires c =
    record {
      j_in_bounds = omega (
        arith,
        search-below c.args.listed.now c.args.tos.now c.args.k c.args.p c.args.q c.loop-link.link c.loop-link.invariant
            c.index-j.result (omega (arith, c.index-j.ensures, c.loop-link-test.true)),
        c.requires.k_in_bounds,
      );
      j_in_bounds_2 = omega (
        arith,
        search-below c.args.listed.now c.args.tos.now c.args.k c.args.p c.args.q c.loop-link.link c.loop-link.invariant
            c.index-j.result (omega (arith, c.index-j.ensures, c.loop-link-test.true)),
        c.requires.k_in_bounds_2,
      );
    }

pub returns-then-joins : goal.returns-then-joins
returns-then-joins c =
    search-found c.args.listed.now c.args.tos.now c.args.k c.args.p c.args.q c.loop-link.link c.loop-link.invariant
    c.index-j.result
    (omega (arith, c.index-j.ensures, c.loop-link-test.true))
    (sym c.joins.ensures ∙ c.if-joins.true)

pub offset_bounds-links-j : goal.offset_bounds-links-j
offset_bounds-links-j c =
    omega (
      arith,
      search-below c.args.listed.now c.args.tos.now c.args.k c.args.p c.args.q c.loop-link.link c.loop-link.invariant
          c.index-j.result
          (omega (arith, c.index-j.ensures, c.loop-link-test.true)),
      c.requires.k_in_bounds_3,
    )

pub bounds-links-j : goal.bounds-links-j
bounds-links-j c =
    omega (
      arith,
      search-below c.args.listed.now c.args.tos.now c.args.k c.args.p c.args.q c.loop-link.link c.loop-link.invariant
          c.index-j.result
          (omega (arith, c.index-j.ensures, c.loop-link-test.true)),
      c.requires.k_in_bounds_3,
    )

pub loop-link-smaller : goal.loop-link-smaller
loop-link-smaller c =
    search-less c.args.listed.now c.args.tos.now c.args.k c.args.p c.args.q c.loop-link.link c.loop-link.invariant
    c.index-j.result
    (omega (arith, c.index-j.ensures, c.loop-link-test.true))
    c.args.links.now c.requires.chain_links

pub loop-link-preserved : goal.loop-link-preserved
loop-link-preserved c =
    search-turn c.args.listed.now c.args.tos.now c.args.k c.args.p c.args.q c.loop-link.link c.loop-link.invariant
    c.index-j.result
    (omega (arith, c.index-j.ensures, c.loop-link-test.true))
    c.args.links.now c.requires.chain_links (sym c.joins.ensures ∙ c.if-joins.false)

pub returns : goal.returns
returns c =
    search-end c.args.listed.now c.args.tos.now c.args.k c.args.p c.args.q c.loop-link.link
    c.loop-link.invariant (omega (arith, c.loop-link-test.false))
