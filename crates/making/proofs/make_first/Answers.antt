-- make_first meets its contract: the visits, then the positions.
use mathlib.Core.Path.{refl}
use Rattle.making.proofs.Laws.{old-rows-hold, new-rows-hold, visits-fit, places-fit, made-of-parts}
use Rattle.splitting.specs.Scratch.{tables_of}
use Rattle.refined_meshes.specs.declared.Edition.TheVariants.{First}
use Rattle.refined_meshes.specs.State.{State}
use Rattle.tables.specs.Mesh.{Mesh, mesh_of}
use Rattle.making.proofs.make_first.Goals as goal

pub refined_rows-requires : goal.refined_rows-requires
refined_rows-requires c =
    let m : Mesh = mesh_of c.args.positions.now c.args.points.now c.args.edges.now c.args.intervals.now
    c.args.faces.now in
    let t : Mesh = mesh_of c.args.newpositions.now c.args.newpoints.now c.args.newedges.now c.args.newintervals.now
    c.args.newfaces.now in
    record {
      rows_there = old-rows-hold m c.args.counts c.args.order.now t c.requires;
      rows_there_2 = new-rows-hold m c.args.counts c.args.order.now t c.requires;
      each_visit_fits = visits-fit m c.args.counts c.args.order.now t c.requires;
    }

pub place_first-requires : goal.place_first-requires
place_first-requires c =
    let m : Mesh = mesh_of c.args.positions.now c.args.points.now c.args.edges.now c.args.intervals.now
    c.args.faces.now in
    let t : Mesh = mesh_of c.args.newpositions.now c.args.newpoints.now c.args.newedges.now c.args.newintervals.now
    c.args.newfaces.now in
    let s : State = tables_of c.refined_rows.new.newpoints c.refined_rows.new.newedges c.refined_rows.new.newintervals
    c.refined_rows.new.newfaces c.refined_rows.result in
    let fit = places-fit m c.args.counts c.args.order.now t (c.requires) s
    (c.refined_rows.ensures c.args.positions.now c.args.newpositions.now) c.refined_rows.auto.newedges
    c.refined_rows.auto.newfaces in
    record { face_points_fit = fit.0; edge_points_fit = fit.1; old_points_fit = fit.2 }

pub returns : goal.returns
returns c =
    let m : Mesh = mesh_of c.args.positions.now c.args.points.now c.args.edges.now c.args.intervals.now c.args.faces.now in
    let t : Mesh = mesh_of c.args.newpositions.now c.args.newpoints.now c.args.newedges.now c.args.newintervals.now
    c.args.newfaces.now in
    let s : State = tables_of c.refined_rows.new.newpoints c.refined_rows.new.newedges c.refined_rows.new.newintervals
    c.refined_rows.new.newfaces c.refined_rows.result in
    made-of-parts First m c.args.counts c.args.order.now t s _ _ c.place_first.result c.place_first.new.newpositions
    (c.refined_rows.ensures c.args.positions.now c.args.newpositions.now) refl refl c.place_first.ensures
