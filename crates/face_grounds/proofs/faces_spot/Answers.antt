-- faces_spot meets its contract. The invariant: the faces passed are entered, and nothing was met.
use native.Mathlib.Omega.{arith}
use Rattle.std.proofs.lemmas.Result.{err_from_is_err_and}
use Rattle.face_grounds.proofs.Laws.{faces-start, faces-room, faces-few, faces-stopped, faces-more, faces-end}
use Rattle.refusal_places.proofs.Theorem.{stops, not-clear}
use Rattle.face_grounds.proofs.faces_spot.Goals as goal

pub loop-f-init : goal.loop-f-init
loop-f-init c =
    faces-start c.args.version c.args.sides.now c.args.firsts.now c.args.listed.now c.args.beside.now
    c.args.tos.now c.args.heads.now c.args.links.now c.args.mates.now c.args.seconds.now c.args.np
    c.requires.places_entered

pub enter_face-requires : goal.enter_face-requires
enter_face-requires c =
    record {
      face_room = faces-room c.args.version c.args.sides.now c.args.firsts.now c.args.listed.now c.args.beside.now
          c.args.tos.now c.args.heads.now c.args.links.now c.args.mates.now c.args.seconds.now c.loop-f.heads
          c.loop-f.links c.loop-f.mates c.loop-f.seconds c.args.np c.loop-f.a c.loop-f.f c.face_size-n.result c.loop-f.invariant
          c.requires.faces_room c.requires.tos_shown (omega (arith, c.loop-f-test.true, c.loop-f.auto.f-end))
          c.face_size-n.ensures;
      places_entered = c.loop-f.invariant.entered;
    }

pub returns-in_err-enter_face : goal.returns-in_err-enter_face
returns-in_err-enter_face c =
    let p = err_from_is_err_and c.from_residual.result c.from_residual.ensures.1 in
    record {
      value = rw (p.1, p.2) (λ cs h. faces-stopped c.args.version c.args.sides.now c.args.firsts.now c.args.listed.now
          c.args.beside.now c.args.tos.now c.args.heads.now c.args.links.now c.args.mates.now c.args.seconds.now
          c.loop-f.heads c.loop-f.links c.loop-f.mates c.loop-f.seconds c.args.np c.loop-f.a c.loop-f.f c.face_size-n.result
          c.loop-f.invariant c.requires.faces_room c.requires.tos_shown (omega (arith, c.loop-f-test.true, c.loop-f.auto.f-end))
          c.face_size-n.ensures c.enter_face.result c.enter_face.ensures.value _ (stops _) c.in_err-enter_face.was cs
          h);
      found_if = rw p.1 (λ t. absurd (not-clear _ (stops _) t));
    }

pub overflow_add-a : goal.overflow_add-a
overflow_add-a c =
    omega (
      arith,
      faces-few c.args.version c.args.sides.now c.args.firsts.now c.args.listed.now c.args.beside.now
          c.args.tos.now c.args.heads.now c.args.links.now c.args.mates.now c.args.seconds.now c.loop-f.heads
          c.loop-f.links c.loop-f.mates c.loop-f.seconds c.args.np c.loop-f.a c.loop-f.f c.face_size-n.result c.loop-f.invariant
          c.requires.faces_room c.requires.tos_shown (omega (arith, c.loop-f-test.true, c.loop-f.auto.f-end)) c.face_size-n.ensures,
    )

pub loop-f-preserved : goal.loop-f-preserved
loop-f-preserved c =
    faces-more c.args.version c.args.sides.now c.args.firsts.now c.args.listed.now c.args.beside.now
    c.args.tos.now c.args.heads.now c.args.links.now c.args.mates.now c.args.seconds.now c.loop-f.heads
    c.loop-f.links c.loop-f.mates c.loop-f.seconds c.args.np c.loop-f.a c.loop-f.f c.face_size-n.result c.loop-f.invariant
    c.requires.faces_room c.requires.tos_shown (omega (arith, c.loop-f-test.true, c.loop-f.auto.f-end)) c.face_size-n.ensures c.enter_face.result
    c.enter_face.ensures.value c.enter_face.new.heads c.enter_face.new.links
    c.enter_face.new.mates c.enter_face.new.seconds
    c.enter_face.auto.heads c.enter_face.auto.links
    c.enter_face.auto.mates c.enter_face.auto.seconds c.in_ok-enter_face.was
    c.enter_face.ensures.found_if

pub shape_of-heads : goal.shape_of-heads
shape_of-heads c =
    c.loop-f.invariant.heads-length

pub shape_of-links : goal.shape_of-links
shape_of-links c =
    c.loop-f.invariant.links-length

pub shape_of-mates : goal.shape_of-mates
shape_of-mates c =
    c.loop-f.invariant.mates-length

pub shape_of-seconds : goal.shape_of-seconds
shape_of-seconds c =
    c.loop-f.invariant.seconds-length

pub returns : goal.returns
returns c =
    let all = faces-end c.args.version c.args.sides.now c.args.firsts.now c.args.listed.now c.args.beside.now
    c.args.tos.now c.args.heads.now c.args.links.now c.args.mates.now c.args.seconds.now c.loop-f.heads
    c.loop-f.links c.loop-f.mates c.loop-f.seconds c.args.np c.loop-f.a c.loop-f.f c.loop-f.invariant c.requires.faces_room
    (omega (arith, c.loop-f-test.false, c.loop-f.auto.f-end)) in record { value = all.0; found_if = λ t. all.1 }
