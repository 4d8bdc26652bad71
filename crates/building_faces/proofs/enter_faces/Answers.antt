-- enter_faces meets its contract. The invariant `FacePassing`: what is left of the definition's faces, from the state at face f, is all of
-- them from the beginning.
use native.Mathlib.Omega.{arith}
use Prim.Native.Nat.{◌+◌}
use lib.ListN.{length}
use Rattle.std.proofs.lemmas.Result.{err_from_is_err_and}
use Rattle.building_faces.proofs.Passing.{lent_same}
use Rattle.building_faces.proofs.Turns.{some_more}
use Rattle.building_faces.proofs.FacePassing.{face-start, face-sided, face-more, face-stop, face-end, faces-stand}
use Rattle.building_faces.proofs.enter_faces.Goals as goal

pub loop-f-init : goal.loop-f-init
loop-f-init c =
    face-start c.args.version c.args.np c.args.sides.now c.args.firsts.now c.args.listed.now c.args.beside.now
    c.args.points.now c.args.edges.now c.args.intervals.now c.args.faces.now c.args.chain.now c.requires.standing

pub enter_face-requires : goal.enter_face-requires
enter_face-requires c =
    record {
      standing = c.loop-f.invariant.standing;
      listed_room = lent_same c.args.listed.now c.args.beside.now c.args.edges.now c.loop-f.edges
          c.args.intervals.now c.loop-f.intervals c.args.chain.now c.loop-f.chain c.loop-f.invariant.edges-length c.loop-f.invariant.intervals-length
          c.loop-f.invariant.links-length c.requires.listed_room;
      sided = (face-sided c.args.version c.args.np c.args.sides.now c.args.firsts.now c.args.listed.now
          c.args.beside.now c.args.points.now c.args.edges.now c.args.intervals.now c.args.faces.now
          c.args.chain.now c.requires.sides_value c.loop-f.points c.loop-f.edges c.loop-f.intervals c.loop-f.faces c.loop-f.chain
          c.loop-f.k c.loop-f.a c.loop-f.f c.face_size-n.result c.loop-f.invariant c.loop-f-test.true c.face_size-n.ensures);
      k_le_a = c.loop-f.invariant.count;
      face_width_in_bounds = omega (arith, c.loop-f-test.true);
      firsts_given = c.requires.firsts_given;
    }

pub returns-in_err-k : goal.returns-in_err-k
returns-in_err-k c =
    let p = err_from_is_err_and c.from_residual.result c.from_residual.ensures.1 in
    let w = face-sided c.args.version c.args.np c.args.sides.now c.args.firsts.now c.args.listed.now c.args.beside.now
    c.args.points.now c.args.edges.now c.args.intervals.now c.args.faces.now c.args.chain.now c.requires.sides_value
    c.loop-f.points c.loop-f.edges c.loop-f.intervals c.loop-f.faces c.loop-f.chain c.loop-f.k c.loop-f.a c.loop-f.f c.face_size-n.result c.loop-f.invariant
    c.loop-f-test.true c.face_size-n.ensures in let s = rw c.in_err-k.was at c.enter_face.ensures.face_stands in record {
      fact = rw (p.1, p.2) (λ cs ps z. face-stop c.args.version c.args.np c.args.sides.now c.args.firsts.now c.args.listed.now c.args.beside.now
          c.args.points.now c.args.edges.now c.args.intervals.now c.args.faces.now c.args.chain.now c.requires.sides_value
          c.loop-f.points c.loop-f.edges c.loop-f.intervals c.loop-f.faces c.loop-f.chain c.loop-f.k c.loop-f.a c.loop-f.f c.face_size-n.result c.loop-f.invariant
          c.loop-f-test.true c.face_size-n.ensures c.enter_face.new.points c.enter_face.new.edges
          c.enter_face.new.intervals c.enter_face.new.faces c.enter_face.new.chain
          c.in_err-k.field-0.0 cs ps z (rw c.in_err-k.was at (c.enter_face.ensures.fact cs ps z)));
      face_stands = rw p.1 (some_more c.args.np c.enter_face.new.points c.enter_face.new.edges c.enter_face.new.chain
          (c.loop-f.a + c.face_size-n.result) (length c.args.listed.now) w.within s);
    }

pub overflow_add-a : goal.overflow_add-a
overflow_add-a c =
    let w = (face-sided c.args.version c.args.np c.args.sides.now c.args.firsts.now c.args.listed.now
    c.args.beside.now c.args.points.now c.args.edges.now c.args.intervals.now c.args.faces.now
    c.args.chain.now c.requires.sides_value c.loop-f.points c.loop-f.edges c.loop-f.intervals c.loop-f.faces c.loop-f.chain
    c.loop-f.k c.loop-f.a c.loop-f.f c.face_size-n.result c.loop-f.invariant c.loop-f-test.true c.face_size-n.ensures).within in
    omega (arith, c.well_formed.1.1.1.0)

pub loop-f-preserved : goal.loop-f-preserved
loop-f-preserved c =
    face-more c.args.version c.args.np c.args.sides.now c.args.firsts.now c.args.listed.now c.args.beside.now
    c.args.points.now c.args.edges.now c.args.intervals.now c.args.faces.now c.args.chain.now
    c.requires.sides_value c.loop-f.points c.loop-f.edges c.loop-f.intervals c.loop-f.faces c.loop-f.chain c.loop-f.k c.loop-f.a
    c.loop-f.f c.face_size-n.result c.loop-f.invariant c.loop-f-test.true c.face_size-n.ensures
    c.enter_face.new.points c.enter_face.new.edges
    c.enter_face.new.intervals c.enter_face.new.faces
    c.enter_face.new.chain c.in_ok-k.k
    (λ cs ps z. rw c.in_ok-k.was at (c.enter_face.ensures.fact cs ps z))
    (rw c.in_ok-k.was at c.enter_face.ensures.face_stands) c.enter_face.auto.points
    c.enter_face.auto.edges c.enter_face.auto.intervals
    c.enter_face.auto.faces c.enter_face.auto.chain

pub returns : goal.returns
returns c =
    record {
      fact = face-end c.args.version c.args.np c.args.sides.now c.args.firsts.now c.args.listed.now c.args.beside.now
          c.args.points.now c.args.edges.now c.args.intervals.now c.args.faces.now c.args.chain.now c.loop-f.points
          c.loop-f.edges c.loop-f.intervals c.loop-f.faces c.loop-f.chain c.loop-f.k c.loop-f.a c.loop-f.f c.loop-f.invariant
          c.loop-f-test.false;
      face_stands = faces-stand c.args.version c.args.np c.args.sides.now c.args.firsts.now c.args.listed.now
          c.args.beside.now c.args.points.now c.args.edges.now c.args.intervals.now c.args.faces.now
          c.args.chain.now c.loop-f.points c.loop-f.edges c.loop-f.intervals c.loop-f.faces c.loop-f.chain c.loop-f.k c.loop-f.a
          c.loop-f.f c.loop-f.invariant c.loop-f-test.false c.requires.sides_value;
    }
