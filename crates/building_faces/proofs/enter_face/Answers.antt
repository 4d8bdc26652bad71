-- enter_face meets its contract: the face's tests, then its perimeter.
use mathlib.Core.List.{[]}
use mathlib.Core.Path.{◌∙◌, sym}
use native.Mathlib.Omega.{arith}
use Rattle.std.proofs.lemmas.Result.{err_from_is_err_and}
use Rattle.tables.specs.Mesh.{mesh_of}
use Rattle.building_faces.specs.Rings.{state_at}
use Rattle.building_faces.proofs.FacePassing.{fit-placed, passed-fit, passed-unfit}
use Rattle.building_faces.proofs.enter_face.Goals as goal

pub face_verdict-requires : goal.face_verdict-requires
face_verdict-requires c = record {
  f_in_bounds = rw c.index.ensures c.requires.sided.sides;
  n_value = rw c.index.ensures c.requires.sided.is-size;
  n_in_bounds = c.requires.sided.within;
  n_in_bounds_2 = rw c.requires.listed_room.beside c.requires.sided.within;
  firsts_given = c.requires.firsts_given;
}

pub enter_perimeter-requires : goal.enter_perimeter-requires
enter_perimeter-requires c =
    let p = fit-placed c.args.version c.args.sides.now c.args.firsts.now c.args.listed.now c.args.beside.now c.args.np
    c.args.f c.args.a c.args.n c.requires.sided
    (sym (rw c.index.ensures at (c.face_verdict.ensures [])) ∙ c.in_ok-face_verdict.was) in
    record {
      standing = c.requires.standing;
      listed_room = c.requires.listed_room;
      listed_from = p.0;
      n_nonzero = p.1;
      k_le_a = c.requires.k_le_a;
      face_width_in_bounds = c.requires.face_width_in_bounds;
    }

pub returns : goal.returns
returns c =
    record {
      fact = (λ cs ps z. passed-fit c.args.version c.args.sides.now c.args.firsts.now c.args.listed.now
          c.args.beside.now c.args.np c.args.f c.args.a c.args.n c.requires.sided cs z
          (state_at (mesh_of ps c.args.points.now c.args.edges.now c.args.intervals.now c.args.faces.now) c.args.k) _
          (sym (rw c.index.ensures at (c.face_verdict.ensures cs)) ∙ c.in_ok-face_verdict.was)
          (c.enter_perimeter.ensures.fact cs c.args.sides.now c.args.firsts.now ps));
      face_stands = c.enter_perimeter.ensures.face_stands;
    }

pub returns-in_err-face_verdict : goal.returns-in_err-face_verdict
returns-in_err-face_verdict c =
    let p = err_from_is_err_and c.from_residual.result c.from_residual.ensures.1 in
    record {
      fact = rw (p.1, p.2) (λ cs ps z. passed-unfit c.args.version c.args.sides.now c.args.firsts.now c.args.listed.now
          c.args.beside.now c.args.np c.args.f c.args.a c.args.n c.requires.sided cs z
          (state_at (mesh_of ps c.args.points.now c.args.edges.now c.args.intervals.now c.args.faces.now) c.args.k)
          c.in_err-face_verdict.field-0.0 (sym
          (rw c.index.ensures at (c.face_verdict.ensures cs))
          ∙ c.in_err-face_verdict.was));
      face_stands = rw p.1 (c.args.k, c.requires.standing, omega (arith, c.requires.k_le_a));
    }
