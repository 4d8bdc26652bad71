-- place_three meets its contract: the loops one after the other.
use Rattle.edition_points.proofs.Laws.{faces-placed, stopped-at-faces, stopped-at-edges, three-placed}
use Rattle.placing.proofs.Laws.{edges-fit-length, points-fit-length}
use Rattle.placing.specs.Placing.{came, refined_tables}
use Rattle.tables.specs.Mesh.{Mesh, mesh_of}
use mathlib.Core.Bool.{Bool}
use mathlib.Core.Path.{◌∙◌, ap}
use Rattle.edition_points.proofs.place_three.Goals as goal

pub returns-then-not-place_face_points : goal.returns-then-not-place_face_points
returns-then-not-place_face_points c =
    let m : Mesh = mesh_of c.args.positions.now c.args.points.now c.args.edges.now c.args.intervals.now c.args.faces.now in
    let s = refined_tables c.args.newedges.now c.args.newfaces.now in
    stopped-at-faces m c.args.counts s c.args.edition c.args.newpositions.now
    (faces-placed m c.args.counts s _
    (c.place_face_points.ensures ∙ ap (λ (b : Bool). came b c.place_face_points.new.newpositions) (c.if-not-place_face_points.true)))

pub place_weighted_points-requires : goal.place_weighted_points-requires
place_weighted_points-requires c =
    edges-fit-length c.place_face_points.auto.newpositions c.requires.edge_points_fit

pub returns-then-not-place_weighted_points : goal.returns-then-not-place_weighted_points
returns-then-not-place_weighted_points c =
    let m : Mesh = mesh_of c.args.positions.now c.args.points.now c.args.edges.now c.args.intervals.now c.args.faces.now in
    let s = refined_tables c.args.newedges.now c.args.newfaces.now in
    stopped-at-edges m c.args.counts s c.args.edition c.args.newpositions.now c.place_face_points.new.newpositions
    (faces-placed m c.args.counts s _ (c.place_face_points.ensures
    ∙ ap (λ (b : Bool). came b c.place_face_points.new.newpositions) (c.if-not-place_face_points.false)))
    (c.place_weighted_points.ensures ∙ ap (λ (b : Bool). came b c.place_weighted_points.new.newpositions) (c.if-not-place_weighted_points.true))

pub place_old_points-requires : goal.place_old_points-requires
place_old_points-requires c =
    points-fit-length (c.place_weighted_points.auto.newpositions
    ∙ c.place_face_points.auto.newpositions) c.requires.old_points_fit

pub returns : goal.returns
returns c =
    let m : Mesh = mesh_of c.args.positions.now c.args.points.now c.args.edges.now c.args.intervals.now c.args.faces.now in
    let s = refined_tables c.args.newedges.now c.args.newfaces.now in
    three-placed m c.args.counts s c.args.edition c.args.newpositions.now c.place_face_points.new.newpositions
    (faces-placed m c.args.counts s _
    (c.place_face_points.ensures ∙ ap (λ (b : Bool). came b c.place_face_points.new.newpositions) (c.if-not-place_face_points.false))) c.place_weighted_points.new.newpositions _
    (c.place_weighted_points.ensures
    ∙ ap (λ (b : Bool). came b c.place_weighted_points.new.newpositions) (c.if-not-place_weighted_points.false))
    c.place_old_points.ensures
