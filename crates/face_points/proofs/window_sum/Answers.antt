-- window_sum meets its contract. The invariant: the sum is that of the first i windows, fewer than n, and the terms that the window i
-- shares with the one before it are kept. The last window comes behind the loop.
use Prim.Native.Nat.{◌-◌}
use native.Mathlib.Omega.{arith}
use Rattle.position_rules.proofs.Fits.{border-fits}
use Rattle.face_points.proofs.Windows.{summed-start, summed-place, begins-back, summed-on, summed-more, summed-last}
use Rattle.face_points.proofs.window_sum.Goals as goal

pub terms_from-start-requires : goal.terms_from-start-requires
terms_from-start-requires c =
    record {
      before_lt_longest_perimeter = omega arith;
      i_lt_longest_perimeter = omega arith;
      edge_fits = border-fits _ _ _ _ _ c.requires.border_fits (omega arith);
      edge_fits_2 = border-fits _ _ _ _ _ c.requires.border_fits (omega arith);
      i_value = begins-back c.args.positions.now c.args.edges.now c.args.intervals.now c.args.points.now c.args.border.now c.args.n
          c.requires.four_again c.requires.corners_turn c.requires.border_fits.at-least-3;
    }

pub terms_to-ahead-requires : goal.terms_to-ahead-requires
terms_to-ahead-requires c = record {
  i_lt_longest_perimeter = omega arith;
  after_lt_longest_perimeter = omega (arith, c.next_place-k.ensures.upper_bound);
  edge_fits = border-fits _ _ _ _ _ c.requires.border_fits (omega arith);
  edge_fits_2 = border-fits _ _ _ _ _ c.requires.border_fits c.next_place-k.ensures.upper_bound;
  i_value = rw c.next_place-k.ensures.value (c.requires.corners_turn.goes_on 2 (omega arith));
}

pub loop-i-init : goal.loop-i-init
loop-i-init c =
    summed-start c.args.positions.now c.args.edges.now c.args.intervals.now c.args.points.now c.args.border.now c.args.n _ _ _
    _ c.requires.border_fits.at-least-3 (rw c.origin.ensures)
    c.terms_from-start.ensures c.terms_to-ahead.ensures c.next_place-k.ensures.value

pub next_place-requires : goal.next_place-requires
next_place-requires c =
    c.loop-i.invariant.within

pub terms_from-second-requires : goal.terms_from-second-requires
terms_from-second-requires c = record {
  before_lt_longest_perimeter = omega arith;
  i_lt_longest_perimeter = omega (arith, c.next_place.ensures.upper_bound);
  edge_fits = border-fits _ _ _ _ _ c.requires.border_fits c.loop-i.invariant.within;
  edge_fits_2 = border-fits _ _ _ _ _ c.requires.border_fits c.next_place.ensures.upper_bound;
  i_value = rw c.next_place.ensures.value (c.requires.corners_turn.goes_back _ c.loop-i.invariant.within);
}

pub next_place-after-requires : goal.next_place-after-requires
next_place-after-requires c =
    summed-place c.args.positions.now c.args.edges.now c.args.intervals.now c.args.points.now c.args.border.now c.args.n _ _ _
    _ _ c.loop-i.invariant

pub terms_to-fourth-requires : goal.terms_to-fourth-requires
terms_to-fourth-requires c =
    let here = summed-place c.args.positions.now c.args.edges.now c.args.intervals.now c.args.points.now c.args.border.now
    c.args.n _ _ _ _ _ c.loop-i.invariant in record {
      i_lt_longest_perimeter = omega (arith, here);
      after_lt_longest_perimeter = omega (arith, c.next_place-after.ensures.upper_bound);
      edge_fits = border-fits _ _ _ _ _ c.requires.border_fits here;
      edge_fits_2 = border-fits _ _ _ _ _ c.requires.border_fits c.next_place-after.ensures.upper_bound;
      i_value = rw c.next_place-after.ensures.value
          (summed-on c.args.positions.now c.args.edges.now c.args.intervals.now c.args.points.now c.args.border.now c.args.n c.requires.four_again c.requires.corners_turn
          _ _ _ _ _ c.loop-i.invariant (omega (arith, c.loop-i-test.true)) c.requires.border_fits.at-least-3);
    }

pub load_position-p-requires : goal.load_position-p-requires
load_position-p-requires c =
    rw c.index.ensures (c.requires.points_fit.points-there _ (omega arith))

pub loop-i-preserved : goal.loop-i-preserved
loop-i-preserved c =
    summed-more c.args.positions.now c.args.edges.now c.args.intervals.now c.args.points.now c.args.border.now c.args.n _ _ _ _
    _ c.loop-i.invariant _ _ c.next_place.ensures.value c.next_place-after.ensures.value _ _
    c.terms_from-second.ensures c.terms_to-fourth.ensures _ _
    c.six_terms.ensures
    c.six_terms-in-loop-i.ensures _ _ c.index.ensures
    c.load_position-p.ensures _ c.with_term-s.ensures (omega (arith, c.loop-i-test.true))

pub load_position-requires : goal.load_position-requires
load_position-requires c =
    rw c.index-2.ensures (c.requires.points_fit.points-there _ (omega (arith, c.requires.border_fits.at-least-3)))

pub returns : goal.returns
returns c =
    summed-last c.args.positions.now c.args.edges.now c.args.intervals.now c.args.points.now c.args.border.now c.args.n _ _ _ _
    _ c.loop-i.invariant
    (omega (arith, c.loop-i-test.false)) c.requires.border_fits.at-least-3
    c.requires.four_again _ _ c.terms_from-start.ensures c.terms_to-ahead.ensures _ _
    c.six_terms-2.ensures
    c.six_terms-3.ensures _ _ c.index-2.ensures
    c.load_position.ensures _ c.with_term.ensures
