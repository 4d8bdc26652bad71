-- enter_face meets its contract: the face's tests, then its places.
use mathlib.Core.Path.{sym, ◌∙◌}
use mathlib.Core.List.{[]}
use lib.ListN.{length}
use Rattle.built_meshes.specs.Faces.{face_verdict}
use Rattle.building_tests.specs.Lent.{lists_in}
use Rattle.face_grounds.specs.Found.{edges_spot_at}
use Rattle.face_grounds.proofs.Laws.{places-room, face-fit, face-unfit}
use Rattle.refusal_places.proofs.Theorem.{stops, not-clear}
use Rattle.face_grounds.proofs.enter_face.Goals as goal

pub enter_edges-requires : goal.enter_edges-requires
enter_edges-requires c =
    record {
      places_room = places-room c.args.version c.args.sides.now c.args.firsts.now c.args.listed.now c.args.beside.now
          c.args.tos.now (length c.args.heads.now) c.args.links.now c.args.mates.now c.args.seconds.now c.args.np
          c.args.f c.args.a c.args.n c.requires.face_room
          (sym (c.face_verdict.ensures [])
          ∙ c.in-Ok.is);
      places_entered = c.requires.places_entered;
    }

pub returns-in-Err : goal.returns-in-Err
returns-in-Err c =
    record {
      value = λ cs. face-unfit c.args.f (face_verdict
          (lists_in c.args.version cs c.args.sides.now c.args.firsts.now c.args.listed.now c.args.beside.now)
          c.args.np c.args.f c.args.a) (edges_spot_at c.args.listed.now c.args.tos.now c.args.f c.args.a c.args.n)
          c.in-Err.g (sym (c.face_verdict.ensures cs) ∙ c.in-Err.is);
      found_if = λ t. absurd (not-clear _ (stops _) t);
    }

pub returns-in-Ok : goal.returns-in-Ok
returns-in-Ok c =
    record {
      value = λ cs. face-fit c.args.f (face_verdict
          (lists_in c.args.version cs c.args.sides.now c.args.firsts.now c.args.listed.now c.args.beside.now)
          c.args.np c.args.f c.args.a) c.enter_edges.result
          (edges_spot_at c.args.listed.now c.args.tos.now c.args.f c.args.a c.args.n)
          (sym (c.face_verdict.ensures cs) ∙ c.in-Ok.is) c.enter_edges.ensures.value;
      found_if = c.enter_edges.ensures.found_if;
    }
