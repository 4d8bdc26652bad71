-- build_zeroed meets its contract: all faces are entered, then the whole is judged, or the tables are zeroed.
use native.Mathlib.Omega.{arith}
use mathlib.Core.Path.{◌∙◌, refl}
use Rattle.built_meshes.specs.Lists.{offset}
use Rattle.tables.specs.Mesh.{mesh_of}
use Rattle.built_meshes.specs.Lent.{lists_of}
use Rattle.building.proofs.Outcomes.{rooms-of, standing-none, lent-rooms, stopped-outcome, on-outcome}
use Rattle.building.proofs.build_zeroed.Goals as goal

pub enter_faces-requires : goal.enter_faces-requires
unfolding offset
enter_faces-requires c =
    let l = lists_of c.args.lists.now in
    let m = mesh_of c.args.positions.now c.args.points.now c.args.edges.now c.args.intervals.now c.args.faces.now in
    let r = rooms-of l m c.requires.zeroed in
    record {
      standing = standing-none l m c.args.chain.now c.requires.zeroed
          (omega (arith, c.requires.listed_in_bounds)) c.requires.by_index;
      listed_room = lent-rooms l m c.args.chain.now r c.requires.listed_in_bounds;
      sides_len_bound = r.faces-few;
      face_width_in_bounds = r.faces-fit;
      sides_value = r.all_listed;
      firsts_given = r.firsts-given;
    }

pub conclude-requires : goal.conclude-requires
conclude-requires c =
    let r = rooms-of (lists_of c.args.lists.now)
    (mesh_of c.args.positions.now c.args.points.now c.args.edges.now c.args.intervals.now c.args.faces.now)
    c.requires.zeroed in
    record {
      position_width_in_bounds = r.positions-fit;
      point_width_in_bounds = rw c.enter_faces.auto.points r.points-fit;
      edge_width_in_bounds = rw c.enter_faces.auto.edges r.edges_fit;
      nl_in_bounds = rw c.enter_faces.auto.intervals r.intervals-fit;
      face_width_in_bounds = rw c.enter_faces.auto.faces r.faces-fit;
      k_le_nl = (rw c.in-Ok.is at c.enter_faces.ensures.face_stands).1;
    }

pub zero_rows-requires : goal.zero_rows-requires
zero_rows-requires c =
    let r = rooms-of (lists_of c.args.lists.now)
    (mesh_of c.args.positions.now c.args.points.now c.args.edges.now c.args.intervals.now c.args.faces.now)
    c.requires.zeroed in
    record {
      position_width_in_bounds = r.positions-fit;
      point_width_in_bounds = rw c.enter_faces.auto.points r.points-fit;
      edge_width_in_bounds = rw c.enter_faces.auto.edges r.edges_fit;
      edges_in_bounds = rw c.enter_faces.auto.intervals r.intervals-fit;
      face_width_in_bounds = rw c.enter_faces.auto.faces r.faces-fit;
    }

pub shape_of-positions-in-Ok : goal.shape_of-positions-in-Ok
shape_of-positions-in-Ok c =
    c.conclude.auto.positions

pub shape_of-points-in-Ok : goal.shape_of-points-in-Ok
shape_of-points-in-Ok c =
    c.conclude.auto.points ∙ c.enter_faces.auto.points

pub shape_of-edges-in-Ok : goal.shape_of-edges-in-Ok
shape_of-edges-in-Ok c =
    c.conclude.auto.edges ∙ c.enter_faces.auto.edges

pub shape_of-intervals-in-Ok : goal.shape_of-intervals-in-Ok
shape_of-intervals-in-Ok c =
    c.conclude.auto.intervals ∙ c.enter_faces.auto.intervals

pub shape_of-faces-in-Ok : goal.shape_of-faces-in-Ok
shape_of-faces-in-Ok c =
    c.conclude.auto.faces ∙ c.enter_faces.auto.faces

pub shape_of-chain-in-Ok : goal.shape_of-chain-in-Ok
shape_of-chain-in-Ok c =
    c.enter_faces.auto.chain

pub returns-in-Ok : goal.returns-in-Ok
returns-in-Ok c =
    λ m begun z. on-outcome (lists_of c.args.lists.now) m
    (mesh_of c.args.positions.now c.args.points.now c.args.edges.now c.args.intervals.now c.args.faces.now)
    begun z c.in-Ok.k (mesh_of c.args.positions.now c.enter_faces.new.points
    c.enter_faces.new.edges c.enter_faces.new.intervals
    c.enter_faces.new.faces) _
    (rw c.in-Ok.is at (c.enter_faces.ensures.fact c.args.lists.now.coordinates.now c.args.positions.now refl))
    c.conclude.ensures

pub shape_of-positions-in-Err : goal.shape_of-positions-in-Err
shape_of-positions-in-Err c =
    c.zero_rows.auto.positions

pub shape_of-points-in-Err : goal.shape_of-points-in-Err
shape_of-points-in-Err c =
    c.zero_rows.auto.points ∙ c.enter_faces.auto.points

pub shape_of-edges-in-Err : goal.shape_of-edges-in-Err
shape_of-edges-in-Err c =
    c.zero_rows.auto.edges ∙ c.enter_faces.auto.edges

pub shape_of-intervals-in-Err : goal.shape_of-intervals-in-Err
shape_of-intervals-in-Err c =
    c.zero_rows.auto.intervals ∙ c.enter_faces.auto.intervals

pub shape_of-faces-in-Err : goal.shape_of-faces-in-Err
shape_of-faces-in-Err c =
    c.zero_rows.auto.faces ∙ c.enter_faces.auto.faces

pub shape_of-chain-in-Err : goal.shape_of-chain-in-Err
shape_of-chain-in-Err c =
    c.enter_faces.auto.chain

pub returns-in-Err : goal.returns-in-Err
returns-in-Err c =
    λ m begun z. stopped-outcome (lists_of c.args.lists.now) m
    (mesh_of c.args.positions.now c.args.points.now c.args.edges.now c.args.intervals.now c.args.faces.now)
    begun z c.in-Err.g (mesh_of c.args.positions.now c.enter_faces.new.points
    c.enter_faces.new.edges c.enter_faces.new.intervals
    c.enter_faces.new.faces) _
    (rw c.in-Err.is at (c.enter_faces.ensures.fact c.args.lists.now.coordinates.now c.args.positions.now refl))
    c.zero_rows.ensures
