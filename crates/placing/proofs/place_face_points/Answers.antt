-- place_face_points meets its contract. The invariant: the first f face points are put.
use Prim.Native.Nat.{ℕ, ◌+◌, ◌*◌, ◌-◌}
use mathlib.Core.List.{List}
use mathlib.Core.Path.{◌≡◌, refl, sym, ◌∙◌, ap}
use native.Mathlib.Omega.{arith}
use lib.Ieee.{Float}
use lib.ListN.{get_or}
use Rattle.position_rules.specs.FacePoint.{face_point_in}
use Rattle.tables.specs.Parts.{without_points}
use Rattle.placing.proofs.Laws.{placed-more, placed-ends}
use Rattle.steps.specs.Positions.{so_far, placed_by}
use Rattle.tables.proofs.Laws.{length-put_row}
use Rattle.positions.specs.declared.Position.{Position}
use Rattle.placing.proofs.place_face_points.Goals as goal

pub loop-f-init : goal.loop-f-init
loop-f-init c =
    (refl, (refl, refl), unfold placed_by in refl)

pub face_point-requires : goal.face_point-requires
face_point-requires c =
    record {
      face_point_fits = c.requires.rule_fits c.loop-f.f (omega arith);
      perimeter_len = c.loop-f.invariant.1.0;
      points_len = c.loop-f.invariant.1.1;
    }

pub returns-in_default : goal.returns-in_default
returns-in_default c =
    let row : ℕ → ℕ = λ k. get_or c.args.newfaces.now (k * 5 + 1) 0 in
    let rule : ℕ → List Float → Position = λ k ps. face_point_in
    (without_points c.args.positions.now c.args.edges.now c.args.intervals.now c.args.faces.now) c.args.ne k in
    let start = so_far c.args.newpositions.now in
    placed-ends row rule start c.args.nf c.loop-f.f c.loop-f.newpositions (omega arith) c.loop-f.invariant.2
    (sym c.face_point.ensures.value ∙ c.in_default.is)

pub overflow_mul-f : goal.overflow_mul-f
overflow_mul-f c =
    omega (arith, c.requires.row-there c.loop-f.f (omega arith))

pub overflow_add-f : goal.overflow_add-f
overflow_add-f c =
    omega (arith, c.requires.row-there c.loop-f.f (omega arith))

pub offset_bounds-newfaces-f : goal.offset_bounds-newfaces-f
offset_bounds-newfaces-f c =
    omega (arith, c.requires.row-there c.loop-f.f (omega arith))

pub bounds-newfaces-f : goal.bounds-newfaces-f
bounds-newfaces-f c =
    omega (arith, c.requires.row-there c.loop-f.f (omega arith))

pub store_position-requires : goal.store_position-requires
store_position-requires c =
    omega (arith, c.index.ensures, c.requires.place-there c.loop-f.f (omega arith))

pub loop-f-preserved : goal.loop-f-preserved
loop-f-preserved c =
    let row : ℕ → ℕ = λ k. get_or c.args.newfaces.now (k * 5 + 1) 0 in
    let rule : ℕ → List Float → Position = λ k ps. face_point_in
    (without_points c.args.positions.now c.args.edges.now c.args.intervals.now c.args.faces.now) c.args.ne k in
    let start = so_far c.args.newpositions.now in
    let put = placed-more row rule start c.loop-f.f c.loop-f.newpositions c.loop-f.invariant.2
    (sym c.face_point.ensures.value ∙ c.in-At.is) in (
      rw (c.store_position.ensures, length-put_row) c.loop-f.invariant.0,
      (c.face_point.ensures.perimeter_len_2, c.face_point.ensures.points_len_2),
      rw (c.store_position.ensures, c.index.ensures) put,
    )

pub returns : goal.returns
returns c =
    let row : ℕ → ℕ = λ k. get_or c.args.newfaces.now (k * 5 + 1) 0 in
    let rule : ℕ → List Float → Position = λ k ps. face_point_in
    (without_points c.args.positions.now c.args.edges.now c.args.intervals.now c.args.faces.now) c.args.ne k in
    let start = so_far c.args.newpositions.now in
    let all : c.args.nf ≡ c.loop-f.f = omega (arith, c.loop-f.auto.f-end) in
    ap (λ (k : ℕ). placed_by k row rule start) all ∙ c.loop-f.invariant.2
