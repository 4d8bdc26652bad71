-- build_begun meets its contract: the counted rows are zeroed first.
use Rattle.tables.specs.Mesh.{mesh_of}
use Rattle.built_meshes.specs.Lent.{lists_of}
use Rattle.building.proofs.Outcomes.{rooms, links-room, links-none}
use mathlib.Core.Path.{◌∙◌}
use Rattle.building.proofs.build_begun.Goals as goal

pub zero_rows-requires : goal.zero_rows-requires
zero_rows-requires c =
    let r = rooms (lists_of c.args.lists.now)
    (mesh_of c.args.positions.now c.args.points.now c.args.edges.now c.args.intervals.now c.args.faces.now)
    (c.requires) in
    record {
      position_width_in_bounds = r.positions-fit;
      point_width_in_bounds = r.points-fit;
      edge_width_in_bounds = r.edges_fit;
      edges_in_bounds = r.intervals-fit;
      face_width_in_bounds = r.faces-fit;
    }

pub build_zeroed-requires : goal.build_zeroed-requires
build_zeroed-requires c =
    let m = mesh_of c.args.positions.now c.args.points.now c.args.edges.now c.args.intervals.now
    c.args.faces.now in record { zeroed = record { lent = m; begun = c.requires; zero = c.zero_rows.ensures }; listed_in_bounds = links-room; by_index = links-none }

pub shape_of-positions : goal.shape_of-positions
shape_of-positions c =
    c.build_zeroed.auto.positions ∙ c.zero_rows.auto.positions

pub shape_of-points : goal.shape_of-points
shape_of-points c =
    c.build_zeroed.auto.points ∙ c.zero_rows.auto.points

pub shape_of-edges : goal.shape_of-edges
shape_of-edges c =
    c.build_zeroed.auto.edges ∙ c.zero_rows.auto.edges

pub shape_of-intervals : goal.shape_of-intervals
shape_of-intervals c =
    c.build_zeroed.auto.intervals ∙ c.zero_rows.auto.intervals

pub shape_of-faces : goal.shape_of-faces
shape_of-faces c =
    c.build_zeroed.auto.faces ∙ c.zero_rows.auto.faces

pub returns : goal.returns
returns c =
    let m = mesh_of c.args.positions.now c.args.points.now c.args.edges.now c.args.intervals.now
    c.args.faces.now in
    c.build_zeroed.ensures m (c.requires) c.zero_rows.ensures
