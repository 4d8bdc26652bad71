-- make_second meets its contract: the visits, what is settled, then the positions.
use mathlib.Core.Path.{◌∙◌}
use Rattle.making.proofs.Laws.{old-rows-hold, new-rows-hold, visits-fit, sides-fit, starts_fit, places-fit, mid-rows, made-of-parts}
use Rattle.splitting.specs.Scratch.{tables_of}
use Rattle.refined_meshes.specs.declared.Edition.TheVariants.{Second}
use Rattle.refined_meshes.specs.State.{State}
use Rattle.tables.specs.Mesh.{Mesh, mesh_of}
use Rattle.making.proofs.make_second.Goals as goal

pub refined_rows-requires : goal.refined_rows-requires
refined_rows-requires c =
    let m : Mesh = mesh_of c.args.positions.now c.args.points.now c.args.edges.now c.args.intervals.now
    c.args.faces.now in
    let t : Mesh = mesh_of c.args.newpositions.now c.args.newpoints.now c.args.newedges.now c.args.newintervals.now
    c.args.newfaces.now in
    record {
      rows_there = old-rows-hold m c.args.counts c.args.order.now t c.requires;
      rows_there_2 = new-rows-hold m c.args.counts c.args.order.now t c.requires;
      each_visit_fits = visits-fit m c.args.counts c.args.order.now t c.requires;
    }

pub settle_joins-requires : goal.settle_joins-requires
settle_joins-requires c =
    let m : Mesh = mesh_of c.args.positions.now c.args.points.now c.args.edges.now c.args.intervals.now c.args.faces.now in
    let t : Mesh = mesh_of c.args.newpositions.now c.args.newpoints.now c.args.newedges.now c.args.newintervals.now
    c.args.newfaces.now in
    let s : State = tables_of c.refined_rows.new.newpoints c.refined_rows.new.newedges c.refined_rows.new.newintervals
    c.refined_rows.new.newfaces c.refined_rows.result in
    sides-fit m c.args.counts c.args.order.now t c.requires s
    (c.refined_rows.ensures c.args.positions.now c.args.newpositions.now)

pub settle_starts-requires : goal.settle_starts-requires
settle_starts-requires c =
    let m : Mesh = mesh_of c.args.positions.now c.args.points.now c.args.edges.now c.args.intervals.now c.args.faces.now in
    let t : Mesh = mesh_of c.args.newpositions.now c.args.newpoints.now c.args.newedges.now c.args.newintervals.now
    c.args.newfaces.now in
    let s : State = tables_of c.refined_rows.new.newpoints c.refined_rows.new.newedges c.refined_rows.new.newintervals
    c.refined_rows.new.newfaces c.refined_rows.result in
    starts_fit m c.args.counts c.args.order.now t (c.requires) s (c.refined_rows.ensures c.args.positions.now c.args.newpositions.now)

pub place_second-requires : goal.place_second-requires
place_second-requires c =
    let m : Mesh = mesh_of c.args.positions.now c.args.points.now c.args.edges.now c.args.intervals.now
    c.args.faces.now in
    let t : Mesh = mesh_of c.args.newpositions.now c.args.newpoints.now c.args.newedges.now c.args.newintervals.now
    c.args.newfaces.now in
    let s : State = tables_of c.refined_rows.new.newpoints c.refined_rows.new.newedges c.refined_rows.new.newintervals
    c.refined_rows.new.newfaces c.refined_rows.result in
    let fit = places-fit m c.args.counts c.args.order.now t c.requires s
    (c.refined_rows.ensures c.args.positions.now c.args.newpositions.now) c.refined_rows.auto.newedges
    c.refined_rows.auto.newfaces in
    record {
      face_points_fit = fit.0;
      edge_points_fit = fit.1;
      old_points_fit = fit.2;
      mid_rows = mid-rows m c.args.counts c.args.order.now t c.requires s
          (c.refined_rows.ensures c.args.positions.now c.args.newpositions.now);
    }

pub returns : goal.returns
returns c =
    let m : Mesh = mesh_of c.args.positions.now c.args.points.now c.args.edges.now c.args.intervals.now c.args.faces.now in
    let t : Mesh = mesh_of c.args.newpositions.now c.args.newpoints.now c.args.newedges.now c.args.newintervals.now
    c.args.newfaces.now in
    let s : State = tables_of c.refined_rows.new.newpoints c.refined_rows.new.newedges c.refined_rows.new.newintervals
    c.refined_rows.new.newfaces c.refined_rows.result in
    made-of-parts Second m c.args.counts c.args.order.now t s _ _ c.place_second.result c.place_second.new.newpositions
    (c.refined_rows.ensures c.args.positions.now c.args.newpositions.now) c.settle_joins.ensures c.settle_starts.ensures
    c.place_second.ensures
