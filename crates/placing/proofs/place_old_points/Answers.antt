-- place_old_points meets its contract. The invariant: the first p old points are put.
use Prim.Native.Nat.{ℕ, ◌-◌}
use mathlib.Core.List.{List}
use mathlib.Core.Path.{◌≡◌, refl, sym, ◌∙◌, ap}
use native.Mathlib.Omega.{arith}
use lib.Ieee.{Float}
use Rattle.position_rules.specs.Places.{edge_point_at, face_point_at}
use Rattle.position_rules.specs.OldPoint.{old_point}
use Rattle.placing.proofs.Laws.{placed-more, placed-ends}
use Rattle.steps.specs.Positions.{so_far, placed_by}
use Rattle.tables.proofs.Laws.{length-put_row}
use Rattle.positions.specs.declared.Position.{Position}
use Rattle.placing.proofs.place_old_points.Goals as goal

pub loop-p-init : goal.loop-p-init
loop-p-init c =
    (refl, unfold placed_by in refl)

pub old_point-requires : goal.old_point-requires
old_point-requires c =
    c.requires.rule_fits c.loop-p.newpositions c.loop-p.invariant.0 c.loop-p.p (omega arith)

pub returns-in_default : goal.returns-in_default
returns-in_default c =
    let row : ℕ → ℕ = λ k. k in
    let rule : ℕ → List Float → Position = λ k ps. old_point c.args.positions.now c.args.points.now c.args.edges.now
    c.args.intervals.now (edge_point_at ps c.args.newedges.now) (face_point_at ps c.args.newfaces.now) k in
    let start = so_far c.args.newpositions.now in
    placed-ends row rule start c.args.np c.loop-p.p c.loop-p.newpositions (omega arith) c.loop-p.invariant.1
    (sym c.old_point.ensures ∙ c.in_default.is)

pub store_position-requires : goal.store_position-requires
store_position-requires c =
    omega (arith, c.requires.place-there c.loop-p.p (omega arith))

pub loop-p-preserved : goal.loop-p-preserved
loop-p-preserved c =
    let row : ℕ → ℕ = λ k. k in
    let rule : ℕ → List Float → Position = λ k ps. old_point c.args.positions.now c.args.points.now c.args.edges.now
    c.args.intervals.now (edge_point_at ps c.args.newedges.now) (face_point_at ps c.args.newfaces.now) k in
    let start = so_far c.args.newpositions.now in
    let put = placed-more row rule start c.loop-p.p c.loop-p.newpositions c.loop-p.invariant.1
    (sym c.old_point.ensures
    ∙ c.in-At.is) in (
      rw (c.store_position.ensures, length-put_row) c.loop-p.invariant.0,
      rw c.store_position.ensures put,
    )

pub returns : goal.returns
returns c =
    let row : ℕ → ℕ = λ k. k in
    let rule : ℕ → List Float → Position = λ k ps. old_point c.args.positions.now c.args.points.now c.args.edges.now
    c.args.intervals.now (edge_point_at ps c.args.newedges.now) (face_point_at ps c.args.newfaces.now) k in
    let start = so_far c.args.newpositions.now in
    let all : c.args.np ≡ c.loop-p.p = omega (arith, c.loop-p.auto.p-end) in
    ap (λ (k : ℕ). placed_by k row rule start) all ∙ c.loop-p.invariant.1
