-- search meets its contract. The invariant: the edges that the chain has still to pass and the one found so far give what all edges
-- give; links fall, so the link is the measure.
use Prim.Native.Nat.{suc}
use mathlib.Core.Path.{◌≡◌, refl, sym, ◌∙◌}
use native.Mathlib.Omega.{arith}
use Rattle.edge_search.proofs.Searching.{search-start, search-turn, search-less, search-end}
use Rattle.edge_search.proofs.search.Goals.{then-joins_points, else-joins_points}
use Rattle.edge_search.proofs.search.Goals as goal

pub loop-link-init : goal.loop-link-init
loop-link-init c =
    search-start c.args.edges.now c.args.p c.args.q c.args.k c.args.from c.requires.newest

pub joins_points-requires : goal.joins_points-requires
joins_points-requires c =
    omega (arith, c.index-e.ensures, c.loop-link-test.true)

pub overflow_add-link : goal.overflow_add-link
overflow_add-link c =
    omega (arith, c.index-e.ensures, c.loop-link-test.true)

pub offset_bounds-chain-e : goal.offset_bounds-chain-e
offset_bounds-chain-e c =
    omega (arith, c.index-e.ensures, c.loop-link-test.true)

pub bounds-chain-e : goal.bounds-chain-e
bounds-chain-e c =
    omega (arith, c.index-e.ensures, c.loop-link-test.true)

pub loop-link-smaller : goal.loop-link-smaller
loop-link-smaller c =
    let s : c.loop-link.link ≡ suc c.index-e.result = omega
    (arith, c.index-e.ensures, c.loop-link-test.true) in
    search-less c.args.edges.now c.args.p c.args.q c.args.k c.args.chain.now c.loop-link.link c.index-e.result
    c.loop-link.found _ c.requires.chained s refl c.loop-link.invariant

pub returns : goal.returns
returns c =
    record {
      result_value = search-end c.args.edges.now c.args.p c.args.q c.args.k c.loop-link.link c.loop-link.found c.loop-link-test.false
          c.loop-link.invariant;
      upper_bound = c.loop-link.invariant.found_below;
    }

pub loop-link-preserved : goal.loop-link-preserved
loop-link-preserved c =
    let s : c.loop-link.link ≡ suc c.index-e.result = omega
    (arith, c.index-e.ensures, c.loop-link-test.true) in
    search-turn c.args.edges.now c.args.p c.args.q c.args.k c.args.chain.now c.loop-link.link c.index-e.result
    c.loop-link.found _ c.if-joins_points.found c.requires.chained s refl
    (elim c.if-joins_points.branch [
      | then-joins_points w ↦ rw (sym c.joins_points.ensures ∙ w.if-joins_points.true) w.found-is
      | else-joins_points w ↦ rw (sym c.joins_points.ensures ∙ w.if-joins_points.false) w.found-is
    ])
    c.loop-link.invariant
