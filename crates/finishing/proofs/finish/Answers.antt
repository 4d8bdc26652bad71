-- finish meets its contract: the mesh is written only where it is made whole, and scratch is zeroed either way.
use Rattle.finishing.proofs.Laws.{rooms-kept, ended-whole, ended-not-finite}
use Rattle.making.specs.Making.{made_as}
use Rattle.tables.specs.Counted.{first_rows}
use Rattle.tables.specs.Mesh.{Mesh, mesh_of}
use mathlib.Core.Path.{refl, sym, ◌∙◌, ap}
use Rattle.finishing.proofs.finish.Goals as goal

pub make_in_rows-requires : goal.make_in_rows-requires
make_in_rows-requires c =
    c.requires

pub move_rows-requires : goal.move_rows-requires
move_rows-requires c =
    let t : Mesh = mesh_of c.args.newpositions.now c.args.newpoints.now c.args.newedges.now c.args.newintervals.now
    c.args.newfaces.now in
    let t₁ : Mesh = mesh_of c.make_in_rows.new.newpositions c.make_in_rows.new.newpoints c.make_in_rows.new.newedges
    c.make_in_rows.new.newintervals c.make_in_rows.new.newfaces in
    let r = rooms-kept c.args.c t t₁ c.make_in_rows.auto.newpositions c.make_in_rows.auto.newpoints
    c.make_in_rows.auto.newedges c.make_in_rows.auto.newintervals c.make_in_rows.auto.newfaces c.requires.scratch in
    record {
      position_width_in_bounds = r.positions;
      point_width_in_bounds = r.points;
      edge_width_in_bounds = r.edges;
      edges_in_bounds = r.intervals;
      face_width_in_bounds = r.faces;
      position_width_in_bounds_2 = c.requires.room.positions;
      point_width_in_bounds_2 = c.requires.room.points;
      edge_width_in_bounds_2 = c.requires.room.edges;
      edges_in_bounds_2 = c.requires.room.intervals;
      face_width_in_bounds_2 = c.requires.room.faces;
    }

pub returns-then-make_in_rows : goal.returns-then-make_in_rows
returns-then-make_in_rows c =
    let m : Mesh = mesh_of c.args.positions.now c.args.points.now c.args.edges.now c.args.intervals.now c.args.faces.now in
    let t : Mesh = mesh_of c.args.newpositions.now c.args.newpoints.now c.args.newedges.now c.args.newintervals.now
    c.args.newfaces.now in
    let t₁ : Mesh = mesh_of c.make_in_rows.new.newpositions c.make_in_rows.new.newpoints
    c.make_in_rows.new.newedges c.make_in_rows.new.newintervals
    c.make_in_rows.new.newfaces in
    ended-whole m c.args.c t t₁ _ c.make_in_rows.ensures.newfaces_unchanged (c.make_in_rows.ensures.newfaces_value ∙ ap (λ b. made_as b (first_rows c.args.c t₁)) c.if-make_in_rows.true)
    c.move_rows.ensures.fact c.move_rows.ensures.fact_2 ∙ sym c.requires.stepped

pub zero_rows-requires : goal.zero_rows-requires
zero_rows-requires c =
    let t : Mesh = mesh_of c.args.newpositions.now c.args.newpoints.now c.args.newedges.now c.args.newintervals.now
    c.args.newfaces.now in
    let t₁ : Mesh = mesh_of c.make_in_rows.new.newpositions c.make_in_rows.new.newpoints c.make_in_rows.new.newedges
    c.make_in_rows.new.newintervals c.make_in_rows.new.newfaces in
    let r = rooms-kept c.args.c t t₁ c.make_in_rows.auto.newpositions c.make_in_rows.auto.newpoints
    c.make_in_rows.auto.newedges c.make_in_rows.auto.newintervals c.make_in_rows.auto.newfaces c.requires.scratch in
    record {
      position_width_in_bounds = r.positions;
      point_width_in_bounds = r.points;
      edge_width_in_bounds = r.edges;
      edges_in_bounds = r.intervals;
      face_width_in_bounds = r.faces;
    }

pub returns : goal.returns
returns c =
    let m : Mesh = mesh_of c.args.positions.now c.args.points.now c.args.edges.now c.args.intervals.now c.args.faces.now in
    let t : Mesh = mesh_of c.args.newpositions.now c.args.newpoints.now c.args.newedges.now c.args.newintervals.now
    c.args.newfaces.now in
    let t₁ : Mesh = mesh_of c.make_in_rows.new.newpositions c.make_in_rows.new.newpoints
    c.make_in_rows.new.newedges c.make_in_rows.new.newintervals
    c.make_in_rows.new.newfaces in
    ended-not-finite m c.args.c t t₁ _ c.make_in_rows.ensures.newfaces_unchanged
    (c.make_in_rows.ensures.newfaces_value ∙ ap (λ b. made_as b (first_rows c.args.c t₁)) c.if-make_in_rows.false) c.zero_rows.ensures
    ∙ sym c.requires.stepped
