-- pair_faces meets its contract: the faces in turn, then whether each edge is shared.
use mathlib.Core.Path.{sym, ◌∙◌}
use native.Mathlib.Omega.{arith}
use Rattle.std.proofs.lemmas.Result.{err_from_is_err_and}
use Rattle.built_meshes.specs.declared.Ground.TheVariants.{MissingFace}
use Rattle.face_mending.proofs.Laws.{unfit}
use Rattle.mending.proofs.Laws.{faces-room, nothing-entered, fit-shared, unfit-shared, not-shared, shared-is, mates-are}
use Rattle.mending.proofs.pair_faces.Goals as goal

-- src/lib.rt:45:11
pub mend_faces-requires : goal.mend_faces-requires
mend_faces-requires c =
    record {
      faces_room = faces-room c.args.sides.now c.args.firsts.now c.args.listed.now c.args.beside.now c.args.tos.now
          c.args.mates.now c.args.np c.requires.pairing_room;
      tos_shown = c.requires.tos_shown;
      places_entered = nothing-entered c.args.listed.now c.args.tos.now c.args.mates.now 4096 16384 16384;
    }

-- src/lib.rt:60:17
pub returns-then-are_shared : goal.returns-then-are_shared
returns-then-are_shared c =
    record {
      value = λ cs h. fit-shared _ _ (sym (c.mend_faces.ensures.value cs h) ∙ c.in_ok-mend_faces.was)
          (sym (shared-is c.args.sides.now c.args.listed.now c.args.tos.now c.mend_faces.new.heads
          c.mend_faces.new.links c.mend_faces.new.mates
          c.mend_faces.new.seconds c.requires.tos_shown c.requires.pairing_room.all_listed
          (c.mend_faces.auto.mates ∙ c.requires.pairing_room.mates-fit)
          (omega (
            arith,
            c.mend_faces.auto.mates,
            c.mend_faces.auto.seconds,
            c.requires.pairing_room.mates-fit,
            c.requires.pairing_room.few,
          )) (c.mend_faces.ensures.entered_if c.in_ok-mend_faces.was)) ∙ sym c.are_shared.ensures
          ∙ c.if-are_shared.true);
      mates_if = λ t. mates-are c.args.sides.now c.args.listed.now c.args.tos.now c.mend_faces.new.heads
          c.mend_faces.new.links c.mend_faces.new.mates
          c.mend_faces.new.seconds c.requires.tos_shown c.requires.pairing_room.all_listed
          (c.mend_faces.auto.mates ∙ c.requires.pairing_room.mates-fit)
          (omega (
            arith,
            c.mend_faces.auto.mates,
            c.mend_faces.auto.seconds,
            c.requires.pairing_room.mates-fit,
            c.requires.pairing_room.few,
          )) (c.mend_faces.ensures.entered_if c.in_ok-mend_faces.was);
    }

-- src/lib.rt:25:1
pub returns-in_err-mend_faces : goal.returns-in_err-mend_faces
returns-in_err-mend_faces c =
    let p = err_from_is_err_and c.from_residual.result c.from_residual.ensures.1 in
    record {
      value = rw (p.1, p.2) (λ cs h.
          unfit-shared _ _ c.in_err-mend_faces.field-0.0 (sym (c.mend_faces.ensures.value cs h) ∙ c.in_err-mend_faces.was));
      mates_if = rw (p.1, p.2) (λ t. absurd (unfit c.in_err-mend_faces.field-0.0 t));
    }

-- src/lib.rt:25:1
pub returns : goal.returns
returns c =
    record {
      value = λ cs h. not-shared _ _ (sym (c.mend_faces.ensures.value cs h) ∙ c.in_ok-mend_faces.was)
          (sym (shared-is c.args.sides.now c.args.listed.now c.args.tos.now c.mend_faces.new.heads
          c.mend_faces.new.links c.mend_faces.new.mates
          c.mend_faces.new.seconds c.requires.tos_shown c.requires.pairing_room.all_listed
          (c.mend_faces.auto.mates ∙ c.requires.pairing_room.mates-fit)
          (omega (
            arith,
            c.mend_faces.auto.mates,
            c.mend_faces.auto.seconds,
            c.requires.pairing_room.mates-fit,
            c.requires.pairing_room.few,
          )) (c.mend_faces.ensures.entered_if c.in_ok-mend_faces.was)) ∙ sym c.are_shared.ensures ∙ c.if-are_shared.false);
      mates_if = λ t. absurd (unfit MissingFace t);
    }
