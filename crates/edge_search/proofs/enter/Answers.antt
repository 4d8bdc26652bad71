-- enter meets its contract: the edge found is filled, or a new one is made.
use mathlib.Core.Path.{◌∙◌, sym}
use native.Mathlib.Omega.{arith}
use Rattle.tables.specs.Mesh.{edge_table}
use Rattle.edge_search.proofs.Chains.{edge_between-below, entered-found, entered-new, standing-filled}
use Rattle.edge_search.proofs.enter.Goals as goal

pub find_edge-requires : goal.find_edge-requires
find_edge-requires c =
    record { edge_width_in_bounds = c.requires.standing.edges_fit; k_in_bounds = c.requires.standing.links-fit; chained = c.requires.standing.chained; headed = c.requires.standing.newest }

pub fill_edge-requires : goal.fill_edge-requires
fill_edge-requires c =
    let l = edge_between-below (edge_table c.args.edges.now) c.args.k c.args.p c.args.q c.in-Some.e
    (sym c.find_edge.ensures ∙ c.in-Some.is) in
    omega arith

pub returns-in-Some : goal.returns-in-Some
returns-in-Some c =
    record {
      entered_by = entered-found c.args.points.now c.args.edges.now c.args.intervals.now c.args.k c.args.f c.args.p c.args.q c.args.v
          c.in-Some.e c.fill_edge.result c.fill_edge.new.edges
          (sym c.find_edge.ensures ∙ c.in-Some.is)
          c.fill_edge.ensures;
      standing_2 = standing-filled c.args.np c.args.points.now c.args.edges.now c.args.chain.now c.fill_edge.new.edges c.args.k c.args.f
          c.in-Some.e c.args.p c.fill_edge.result c.fill_edge.ensures c.fill_edge.auto.edges c.requires.standing;
    }

pub returns-in-None : goal.returns-in-None
returns-in-None c =
    record {
      entered_by = (λ ps fs. entered-new c.args.points.now c.args.edges.now c.args.intervals.now c.args.k c.args.f c.args.p c.args.q c.args.v ps fs
          _ (sym c.find_edge.ensures ∙ c.in-None.is) (c.make_edge.ensures.fact ps fs));
      standing_2 = c.make_edge.ensures.standing_2;
    }
