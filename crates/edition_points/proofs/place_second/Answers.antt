-- place_second meets its contract: m stands in the rows of the edge points when these are put over it.
use Rattle.edition_points.proofs.Laws.{second-stopped, second-placed, middles-there, over-fits}
use Rattle.placing.specs.Placing.{came, refined_tables}
use Rattle.tables.specs.Mesh.{Mesh, mesh_of}
use mathlib.Core.Bool.{Bool}
use mathlib.Core.Path.{◌∙◌, ap}
use Rattle.edition_points.proofs.place_second.Goals as goal

pub returns-then-not-place_three : goal.returns-then-not-place_three
returns-then-not-place_three c =
    let m : Mesh = mesh_of c.args.positions.now c.args.points.now c.args.edges.now c.args.intervals.now c.args.faces.now in
    let s = refined_tables c.args.newedges.now c.args.newfaces.now in
    second-stopped m c.args.counts s c.args.newpositions.now
    (c.place_three.ensures ∙ ap (λ (b : Bool). came b c.place_three.new.newpositions) (c.if-not-place_three.true))

pub place_over-requires : goal.place_over-requires
place_over-requires c =
    over-fits c.place_three.auto.newpositions c.requires.edge_points_fit
    c.requires.mid_rows

pub returns : goal.returns
returns c =
    let m : Mesh = mesh_of c.args.positions.now c.args.points.now c.args.edges.now c.args.intervals.now c.args.faces.now in
    let s = refined_tables c.args.newedges.now c.args.newfaces.now in
    let put = c.place_three.ensures
    ∙ ap (λ (b : Bool). came b c.place_three.new.newpositions) (c.if-not-place_three.false) in
    second-placed m c.args.counts s c.args.newpositions.now c.place_three.new.newpositions _ put
    (c.place_over.ensures c.args.positions.now
    (middles-there m c.args.counts s c.args.newpositions.now c.place_three.new.newpositions c.requires.mid_rows c.requires.edge_points_fit.place-there put))
