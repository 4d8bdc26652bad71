-- enter_face meets its contract: the face's tests, then its places.
use mathlib.Core.Path.{sym, ◌∙◌, ap}
use mathlib.Core.Bool.{not}
use mathlib.Core.List.{[]}
use Prim.Native.Nat.{◌+◌}
use lib.ListN.{length}
use Rattle.std.proofs.lemmas.Result.{err_from_is_err_and}
use Rattle.audited_meshes.specs.Folds.{every}
use Rattle.built_meshes.specs.Faces.{face_verdict}
use Rattle.built_meshes.specs.declared.Version.TheVariants.{Two}
use Rattle.built_meshes.specs.declared.Ground.TheVariants.{EdgeTripleFace}
use Rattle.building_tests.specs.Lent.{lists_in}
use Rattle.mended_lists.specs.Mending.{forgiven}
use Rattle.shared_edges.specs.Chains.{third_at}
use Rattle.face_mending.proofs.Laws.{unfit, places-room, edges_fit, edges-third, edges-after}
use Rattle.face_mending.proofs.enter_face.Goals as goal

pub enter_places-requires : goal.enter_places-requires
enter_places-requires c =
    record {
      places_room = places-room c.args.sides.now c.args.firsts.now c.args.listed.now c.args.beside.now c.args.tos.now
          (length c.args.heads.now) c.args.links.now c.args.mates.now c.args.seconds.now c.args.np c.args.f
          c.args.a c.args.n c.requires.face_room (sym
          (ap forgiven (c.face_verdict.ensures []))
          ∙ sym c.forgive.ensures
          ∙ c.in_ok-forgive.was);
      places_entered = c.requires.places_entered;
    }

pub returns-then-enter_places : goal.returns-then-enter_places
returns-then-enter_places c =
    record {
      value = λ cs. edges_fit (forgiven (face_verdict
          (lists_in Two cs c.args.sides.now c.args.firsts.now c.args.listed.now c.args.beside.now) c.args.np c.args.f
          c.args.a)) (every c.args.n (λ i. not (third_at c.args.listed.now c.args.tos.now (c.args.a + i))))
          (sym (ap forgiven (c.face_verdict.ensures cs)) ∙ sym c.forgive.ensures ∙ c.in_ok-forgive.was)
          (sym c.enter_places.ensures.value ∙ c.if-enter_places.true);
      entered_if = λ t. c.enter_places.ensures.entered_to c.if-enter_places.true;
    }

pub returns-in_err-forgive : goal.returns-in_err-forgive
returns-in_err-forgive c =
    let p = err_from_is_err_and c.from_residual.result c.from_residual.ensures.1 in
    record {
      value = rw (p.1, p.2) (λ cs. edges-after (forgiven (face_verdict
          (lists_in Two cs c.args.sides.now c.args.firsts.now c.args.listed.now c.args.beside.now) c.args.np c.args.f
          c.args.a)) (every c.args.n (λ i. not (third_at c.args.listed.now c.args.tos.now (c.args.a + i))))
          c.in_err-forgive.field-0.0 (sym (ap forgiven (c.face_verdict.ensures cs))
          ∙ sym c.forgive.ensures ∙ c.in_err-forgive.was));
      entered_if = rw (p.1, p.2) (λ t. absurd (unfit c.in_err-forgive.field-0.0 t));
    }

pub returns : goal.returns
returns c =
    record {
      value = λ cs. edges-third (forgiven (face_verdict
          (lists_in Two cs c.args.sides.now c.args.firsts.now c.args.listed.now c.args.beside.now) c.args.np c.args.f
          c.args.a)) (every c.args.n (λ i. not (third_at c.args.listed.now c.args.tos.now (c.args.a + i))))
          (sym (ap forgiven (c.face_verdict.ensures cs)) ∙ sym c.forgive.ensures ∙ c.in_ok-forgive.was)
          (sym c.enter_places.ensures.value ∙ c.if-enter_places.false);
      entered_if = λ t. absurd (unfit EdgeTripleFace t);
    }
