-- radial_sum meets its contract. The invariant: the sum is that of the first i edges, r is the next one and `next` the one after it, and the
-- intervals about r are kept.
use Rattle.position_rules.proofs.Fits.{row-there, interval-there, radial-edge-fits}
use Rattle.position_rules.specs.OldPoint.{radial_sum}
use Rattle.position_rules.specs.Places.{edge_point_at, face_point_at}
use Rattle.old_points.proofs.Radial.{summed-start, summed-between, summed-after, summed-more}
use native.Mathlib.Omega.{arith}
use Prim.Native.Nat.{ℕ, ◌-◌}
use mathlib.Core.Path.{refl, ◌∙◌, ap}
use Rattle.old_points.proofs.radial_sum.Goals as goal

pub acw_about-next-requires : goal.acw_about-next-requires
acw_about-next-requires c =
    row-there _ _ _ (radial-edge-fits _ _ _ _ _ _ c.requires.radial_fits)

pub fan_about-fan-requires : goal.fan_about-fan-requires
fan_about-fan-requires c =
    radial-edge-fits _ _ _ _ _ _ c.requires.radial_fits

pub loop-i-init : goal.loop-i-init
loop-i-init c =
    summed-start c.args.edges.now c.args.intervals.now c.args.newpositions.now c.args.newedges.now c.args.newfaces.now c.args.p
    c.args.start c.args.n _ _ _ c.requires.radial_fits (rw c.origin.ensures) c.acw_about-next.ensures
    c.fan_about-fan.ensures

pub acw_about-after-requires : goal.acw_about-after-requires
acw_about-after-requires c =
    row-there _ _ _ (summed-between _ _ _ _ _ _ _ _ _ _ _ _ _ c.loop-i.invariant).next_fits

pub offset_bounds-intervals-after : goal.offset_bounds-intervals-after
offset_bounds-intervals-after c =
    omega (
      arith,
      interval-there _ _ _
          (summed-after _ _ _ _ _ _ _ _ _ _ _ _ _ c.loop-i.invariant _ c.acw_about-after.ensures),
    )

pub bounds-intervals-after : goal.bounds-intervals-after
bounds-intervals-after c =
    omega (
      arith,
      interval-there _ _ _
          (summed-after _ _ _ _ _ _ _ _ _ _ _ _ _ c.loop-i.invariant _ c.acw_about-after.ensures),
    )

pub radial_terms-s-requires : goal.radial_terms-s-requires
radial_terms-s-requires c =
    summed-between _ _ _ _ _ _ _ _ _ _ _ _ _ c.loop-i.invariant

pub loop-i-preserved : goal.loop-i-preserved
loop-i-preserved c =
    summed-more c.args.edges.now c.args.intervals.now c.args.newpositions.now c.args.newedges.now c.args.newfaces.now c.args.p
    c.args.start c.args.n _ _ _ _ _ c.loop-i.invariant c.requires.turns_back _
    c.acw_about-after.ensures _ refl _ _ c.loop-i-test.true
    c.radial_terms-s.ensures refl

pub returns : goal.returns
returns c =
    c.loop-i.invariant.sum_is
    ∙ ap (λ (k : ℕ). radial_sum c.args.edges.now c.args.intervals.now
    (edge_point_at c.args.newpositions.now c.args.newedges.now) (face_point_at c.args.newpositions.now c.args.newfaces.now)
    c.args.p c.args.start k) (omega (arith, c.loop-i.invariant.within, c.loop-i-test.false))
