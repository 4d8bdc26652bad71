-- walks_fit meets its contract: its tests in turn.
use mathlib.Core.List.{[]}
use mathlib.Core.Path.{sym, ◌∙◌}
use Rattle.audit.proofs.Whole.{walks-valences, walks-faces, walks-points}
use Rattle.audit.proofs.walks_fit.Goals as goal

pub returns-then-not-valences_fit : goal.returns-then-not-valences_fit
returns-then-not-valences_fit c =
    walks-valences [] c.args.points.now c.args.edges.now [] c.args.faces.now c.args.counts.points c.args.counts.edges
    c.args.counts.faces (sym c.valences_fit.ensures ∙ c.if-not-valences_fit.true)

pub returns-then-not-face_walks_fit : goal.returns-then-not-face_walks_fit
returns-then-not-face_walks_fit c =
    walks-faces [] c.args.points.now c.args.edges.now [] c.args.faces.now c.args.counts.points c.args.counts.edges
    c.args.counts.faces (sym c.face_walks_fit.ensures ∙ c.if-not-face_walks_fit.true)

pub walks_with_sole_edges-requires : goal.walks_with_sole_edges-requires
walks_with_sole_edges-requires c =
    let sum = sym c.valences_fit.ensures ∙ c.if-not-valences_fit.false in
    record {
      point_width_in_bounds = c.requires.point_width_in_bounds;
      edge_width_in_bounds = c.requires.edge_width_in_bounds;
      ends = c.requires.ends;
      by_index = c.requires.by_index;
      ne_value = sum;
    }

pub returns : goal.returns
returns c =
    c.walks_with_sole_edges.ensures
    ∙ walks-points [] c.args.points.now c.args.edges.now [] c.args.faces.now c.args.counts.points c.args.counts.edges
    c.args.counts.faces (sym c.valences_fit.ensures
    ∙ c.if-not-valences_fit.false)
    (sym c.face_walks_fit.ensures ∙ c.if-not-face_walks_fit.false)
