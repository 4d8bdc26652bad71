-- rows_fit meets its contract: its tests in turn.
use mathlib.Core.Path.{sym, ◌∙◌}
use Rattle.audit.proofs.Whole.{rows-points, rows-edges, rows-faces}
use Rattle.audit.proofs.rows_fit.Goals as goal

pub returns-then-not-points_fit : goal.returns-then-not-points_fit
returns-then-not-points_fit c =
    rows-points c.args.t.now.positions.now c.args.t.now.points.now c.args.t.now.edges.now c.args.t.now.intervals.now c.args.t.now.faces.now
    c.args.counts.points c.args.counts.edges c.args.counts.faces
    (sym c.points_fit.ensures ∙ c.if-not-points_fit.true)

pub returns-then-not-edges_fit : goal.returns-then-not-edges_fit
returns-then-not-edges_fit c =
    rows-edges c.args.t.now.positions.now c.args.t.now.points.now c.args.t.now.edges.now c.args.t.now.intervals.now c.args.t.now.faces.now
    c.args.counts.points c.args.counts.edges c.args.counts.faces
    (sym c.edges_fit.ensures ∙ c.if-not-edges_fit.true)

pub returns : goal.returns
returns c =
    c.faces_fit.ensures
    ∙ rows-faces c.args.t.now.positions.now c.args.t.now.points.now c.args.t.now.edges.now c.args.t.now.intervals.now c.args.t.now.faces.now
    c.args.counts.points c.args.counts.edges c.args.counts.faces
    (sym c.points_fit.ensures ∙ c.if-not-points_fit.false)
    (sym c.edges_fit.ensures ∙ c.if-not-edges_fit.false)
