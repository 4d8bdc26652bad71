-- enter_perimeter meets its contract: the places, the first edge connected to the last, the face's row.
use native.Mathlib.Omega.{arith}
use Prim.Native.Nat.{◌+◌}
use Rattle.std.proofs.lemmas.Result.{err_from_is_err_and}
use Rattle.built_meshes.specs.Perimeters.{on, places}
use Rattle.tables.specs.Mesh.{mesh_of}
use Rattle.building_tests.specs.Lent.{lists_in}
use Rattle.building_faces.specs.Rings.{face_state_at}
use Rattle.building_faces.proofs.Turns.{connect-fits, closed_on, closed-stopped, face-stands}
use Rattle.building_faces.proofs.enter_perimeter.Goals as goal

pub enter_places-requires : goal.enter_places-requires
enter_places-requires c =
    record { standing = c.requires.standing; listed_room = c.requires.listed_room; listed_from = c.requires.listed_from; n_nonzero = c.requires.n_nonzero; k_le_a = c.requires.k_le_a }

pub connect-requires : goal.connect-requires
connect-requires c =
    let h = rw c.in_ok-ring.was at c.enter_places.ensures.turn_stands in let few = h.1 in let whole = connect-fits c.args.np c.enter_places.new.points c.enter_places.new.edges
    c.enter_places.new.chain c.in_ok-ring.ring.edges c.in_ok-ring.ring.first
    c.in_ok-ring.ring.before h.0 h.2.first_edge h.2.before-edge c.enter_places.new.intervals
    (rw c.enter_places.auto.intervals (omega arith)) in record { edge_width_in_bounds = whole.0; edge_width_in_bounds_2 = whole.1.0; i_in_bounds = whole.1.1.0; j_in_bounds = whole.1.1.1 }

pub store_face-requires : goal.store_face-requires
store_face-requires c =
    rw c.index.ensures c.requires.face_width_in_bounds

pub returns : goal.returns
returns c =
    record {
      fact = (λ cs ss qs ps. closed_on c.args.f c.index.result
          (places c.args.n (lists_in c.args.version cs ss qs c.args.listed.now c.args.beside.now) c.args.f c.args.a
          c.args.n 0 (on
          (face_state_at (mesh_of ps c.args.points.now c.args.edges.now c.args.intervals.now c.args.faces.now) c.args.k)))
          c.in_ok-ring.ring (mesh_of ps c.enter_places.new.points c.enter_places.new.edges
          c.enter_places.new.intervals c.args.faces.now) c.connect.new.edges
          c.store_face.new.faces
          (rw c.in_ok-ring.was at (c.enter_places.ensures.fact cs ss qs ps c.args.faces.now)) c.connect.ensures.edges_after
          c.index.ensures c.store_face.ensures);
      face_stands = face-stands c.args.np c.enter_places.new.points c.enter_places.new.edges
          c.enter_places.new.chain c.enter_places.new.intervals c.connect.new.edges
          (c.args.a + c.args.n) c.in_ok-ring.ring (rw c.in_ok-ring.was at c.enter_places.ensures.turn_stands) c.connect.ensures.edges_after;
    }

pub returns-in_err-ring : goal.returns-in_err-ring
returns-in_err-ring c =
    let p = err_from_is_err_and c.from_residual.result c.from_residual.ensures.1 in
    let s = rw c.in_err-ring.was at c.enter_places.ensures.turn_stands in record {
      fact = rw (p.1, p.2) (λ cs ss qs ps. closed-stopped c.args.f
          (places c.args.n (lists_in c.args.version cs ss qs c.args.listed.now c.args.beside.now) c.args.f c.args.a
          c.args.n 0 (on
          (face_state_at (mesh_of ps c.args.points.now c.args.edges.now c.args.intervals.now c.args.faces.now) c.args.k)))
          c.in_err-ring.field-0.0 (mesh_of ps c.enter_places.new.points c.enter_places.new.edges
          c.enter_places.new.intervals c.args.faces.now)
          (rw c.in_err-ring.was at (c.enter_places.ensures.fact cs ss qs ps c.args.faces.now)));
      face_stands = rw p.1 s;
    }
