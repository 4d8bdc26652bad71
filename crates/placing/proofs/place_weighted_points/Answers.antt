-- place_weighted_points meets its contract. The invariant: what weighs for the first e edges is put.
use Prim.Native.Nat.{ℕ, ◌+◌, ◌*◌, ◌-◌}
use mathlib.Core.List.{List}
use mathlib.Core.Path.{◌≡◌, refl, sym, ◌∙◌, ap}
use native.Mathlib.Omega.{arith}
use lib.Ieee.{Float}
use lib.ListN.{get_or}
use Rattle.position_rules.specs.Places.{face_point_at}
use Rattle.position_rules.specs.EdgePoint.{weighted_point}
use Rattle.placing.proofs.Laws.{placed-more, placed-ends}
use Rattle.steps.specs.Positions.{so_far, placed_by}
use Rattle.tables.proofs.Laws.{length-put_row}
use Rattle.positions.specs.declared.Position.{Position}
use Rattle.placing.proofs.place_weighted_points.Goals as goal

pub loop-e-init : goal.loop-e-init
loop-e-init c =
    (refl, unfold placed_by in refl)

pub weighted_point-requires : goal.weighted_point-requires
weighted_point-requires c =
    c.requires.rule_fits c.loop-e.newpositions c.loop-e.invariant.0 c.loop-e.e (omega arith)

pub returns-in_default : goal.returns-in_default
returns-in_default c =
    let row : ℕ → ℕ = λ k. get_or c.args.newedges.now (k * 8 + 1) 0 in
    let rule : ℕ → List Float → Position = λ k ps. weighted_point c.args.edition c.args.positions.now c.args.edges.now c.args.intervals.now
    (face_point_at ps c.args.newfaces.now) k in
    let start = so_far c.args.newpositions.now in
    placed-ends row rule start c.args.ne c.loop-e.e c.loop-e.newpositions (omega arith) c.loop-e.invariant.1
    (sym c.weighted_point.ensures ∙ c.in_default.is)

pub overflow_mul-e : goal.overflow_mul-e
overflow_mul-e c =
    omega (arith, c.requires.row-there c.loop-e.e (omega arith))

pub overflow_add-e : goal.overflow_add-e
overflow_add-e c =
    omega (arith, c.requires.row-there c.loop-e.e (omega arith))

pub offset_bounds-newedges-e : goal.offset_bounds-newedges-e
offset_bounds-newedges-e c =
    omega (arith, c.requires.row-there c.loop-e.e (omega arith))

pub bounds-newedges-e : goal.bounds-newedges-e
bounds-newedges-e c =
    omega (arith, c.requires.row-there c.loop-e.e (omega arith))

pub store_position-requires : goal.store_position-requires
store_position-requires c =
    omega (arith, c.index.ensures, c.requires.place-there c.loop-e.e (omega arith))

pub loop-e-preserved : goal.loop-e-preserved
loop-e-preserved c =
    let row : ℕ → ℕ = λ k. get_or c.args.newedges.now (k * 8 + 1) 0 in
    let rule : ℕ → List Float → Position = λ k ps. weighted_point c.args.edition c.args.positions.now c.args.edges.now c.args.intervals.now
    (face_point_at ps c.args.newfaces.now) k in
    let start = so_far c.args.newpositions.now in
    let put = placed-more row rule start c.loop-e.e c.loop-e.newpositions c.loop-e.invariant.1
    (sym c.weighted_point.ensures ∙ c.in-At.is) in (
      rw (c.store_position.ensures, length-put_row) c.loop-e.invariant.0,
      rw (c.store_position.ensures, c.index.ensures) put,
    )

pub returns : goal.returns
returns c =
    let row : ℕ → ℕ = λ k. get_or c.args.newedges.now (k * 8 + 1) 0 in
    let rule : ℕ → List Float → Position = λ k ps. weighted_point c.args.edition c.args.positions.now c.args.edges.now c.args.intervals.now
    (face_point_at ps c.args.newfaces.now) k in
    let start = so_far c.args.newpositions.now in
    let all : c.args.ne ≡ c.loop-e.e = omega (arith, c.loop-e.auto.e-end) in
    ap (λ (k : ℕ). placed_by k row rule start) all ∙ c.loop-e.invariant.1
