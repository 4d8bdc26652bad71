-- place_over meets its contract. The invariant: the edge points of the first e edges are put. In the row of edge e
-- there still stands its m, since the edges before it have rows of their own.
use Prim.Native.Nat.{ℕ, ◌-◌}
use mathlib.Core.List.{List}
use mathlib.Core.Path.{◌≡◌, refl, sym, ◌∙◌, ap}
use native.Mathlib.Omega.{arith}
use lib.Ieee.{Float}
use Rattle.positions.specs.Position.{placed_at}
use Rattle.tables.specs.Records.{position_at}
use Rattle.tables.proofs.Laws.{length-put_row}
use Rattle.steps.specs.Positions.{so_far, placed_by}
use Rattle.edition_points.specs.Over.{MiddlesThere}
use Rattle.edition_points.proofs.Laws.{over_row, over_rule, point-over}
use Rattle.placing.proofs.Laws.{placed-more, placed-ends}
use Rattle.edition_points.proofs.place_over.Goals as goal

pub loop-e-init : goal.loop-e-init
loop-e-init c =
    (refl, λ ps there. unfold placed_by in refl)

pub overflow_mul-e : goal.overflow_mul-e
overflow_mul-e c =
    omega (
      arith,
      c.requires.row-there c.loop-e.e (omega arith),
    )

pub overflow_add-e : goal.overflow_add-e
overflow_add-e c =
    omega (
      arith,
      c.requires.row-there c.loop-e.e (omega arith),
    )

pub offset_bounds-newedges-e : goal.offset_bounds-newedges-e
offset_bounds-newedges-e c =
    omega (
      arith,
      c.requires.row-there c.loop-e.e (omega arith),
    )

pub bounds-newedges-e : goal.bounds-newedges-e
bounds-newedges-e c =
    omega (arith, c.requires.row-there c.loop-e.e (omega arith))

pub load_position-m-requires : goal.load_position-m-requires
load_position-m-requires c =
    omega (arith, c.index-row.ensures, c.loop-e.invariant.0, c.requires.place-there c.loop-e.e (omega arith))

pub edge_point-requires : goal.edge_point-requires
edge_point-requires c =
    c.requires.sides-there c.loop-e.newpositions c.loop-e.invariant.0 c.loop-e.e (omega arith)

pub returns-in_default : goal.returns-in_default
returns-in_default c =
    let from = c.load_position-m.ensures
    ∙ ap (λ p. position_at c.loop-e.newpositions p)
    c.index-row.ensures in
    let made : (ps : List Float)
    (there : MiddlesThere ps c.args.edges.now c.args.intervals.now c.args.ne c.args.newedges.now c.args.newpositions.now) →
    over_rule ps c.args.edges.now c.args.intervals.now c.args.newfaces.now c.loop-e.e c.loop-e.newpositions
    ≡ c.edge_point.result = λ ps there. point-over ps c.args.edges.now c.args.intervals.now
    c.args.newfaces.now c.args.ne c.args.newedges.now c.args.newpositions.now c.loop-e.newpositions c.requires.apart there
    c.loop-e.e (omega arith) (c.loop-e.invariant.1 ps there) _ from _ c.edge_point.ensures in
    λ ps there. placed-ends (over_row c.args.newedges.now)
    (over_rule ps c.args.edges.now c.args.intervals.now c.args.newfaces.now) (so_far c.args.newpositions.now) c.args.ne
    c.loop-e.e c.loop-e.newpositions (omega arith) (c.loop-e.invariant.1 ps there)
    (ap placed_at (made ps there) ∙ sym c.placed.ensures ∙ c.in_default.is)

pub store_position-requires : goal.store_position-requires
store_position-requires c =
    omega
    (arith, c.index-row.ensures, c.loop-e.invariant.0, c.requires.place-there c.loop-e.e (omega arith))

pub loop-e-preserved : goal.loop-e-preserved
loop-e-preserved c =
    let from = c.load_position-m.ensures
    ∙ ap (λ p. position_at c.loop-e.newpositions p) c.index-row.ensures in
    let made : (ps : List Float)
    (there : MiddlesThere ps c.args.edges.now c.args.intervals.now c.args.ne c.args.newedges.now c.args.newpositions.now) →
    over_rule ps c.args.edges.now c.args.intervals.now c.args.newfaces.now c.loop-e.e c.loop-e.newpositions
    ≡ c.edge_point.result = λ ps there. point-over ps c.args.edges.now c.args.intervals.now c.args.newfaces.now c.args.ne
    c.args.newedges.now c.args.newpositions.now c.loop-e.newpositions c.requires.apart there c.loop-e.e
    (omega arith) (c.loop-e.invariant.1 ps there) _ from _ c.edge_point.ensures in
    let told = sym c.placed.ensures
    ∙ c.in-At.is in (
      rw (c.store_position.ensures, length-put_row) c.loop-e.invariant.0,
      λ ps there. rw (c.store_position.ensures, c.index-row.ensures)
          (placed-more (over_row c.args.newedges.now) (over_rule ps c.args.edges.now c.args.intervals.now c.args.newfaces.now)
          (so_far c.args.newpositions.now) c.loop-e.e c.loop-e.newpositions (c.loop-e.invariant.1 ps there) (ap placed_at (made ps there) ∙ told)),
    )

pub returns : goal.returns
returns c =
    let all : c.args.ne ≡ c.loop-e.e = omega (arith, c.loop-e.auto.e-end) in
    λ ps there. ap (λ (k : ℕ). placed_by k (over_row c.args.newedges.now)
    (over_rule ps c.args.edges.now c.args.intervals.now c.args.newfaces.now) (so_far c.args.newpositions.now)) all
    ∙ c.loop-e.invariant.1 ps there
