-- weighted_point meets its contract, edition by edition: the edge point is m blended with the face points.
use mathlib.Core.Path.{sym, ◌∙◌, ap}
use Rattle.positions.specs.Position.{placed_at}
use Rattle.position_rules.specs.EdgePoint.{blend, shares, edge_point, weighted_point}
use Rattle.position_rules.specs.Places.{face_point_at}
use Rattle.tables.specs.Records.{edge_at}
use Rattle.edge_points.proofs.weighted_point.Goals as goal

pub returns-in-First : goal.returns-in-First
unfolding edge_point
returns-in-First c =
    let edge = edge_at c.args.edges.now c.args.intervals.now c.args.e in
    let fp = face_point_at c.args.newpositions.now c.args.newfaces.now in
    c.placed.ensures ∙ ap placed_at c.edge_point.ensures
    ∙ ap (λ m. placed_at (blend m (shares c.args.intervals.now edge) (fp edge.face_left) (fp edge.face_right)))
    c.middle_point-m.ensures
    ∙ ap (λ k. placed_at (weighted_point k c.args.positions.now c.args.edges.now c.args.intervals.now fp c.args.e))
    (sym c.in-First.is)

pub returns-in-Second : goal.returns-in-Second
returns-in-Second c =
    let fp = face_point_at c.args.newpositions.now c.args.newfaces.now in
    c.placed-in-Second.ensures ∙ ap placed_at c.middle_point-m.ensures
    ∙ ap (λ k. placed_at (weighted_point k c.args.positions.now c.args.edges.now c.args.intervals.now fp c.args.e))
    (sym c.in-Second.is)
