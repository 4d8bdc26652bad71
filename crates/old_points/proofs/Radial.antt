-- The loop of `radial_sum`, over plain variables: of the edges about p, anticlockwise from the edge start, i are summed. es and is are the
-- tables of edges and intervals, new, es' and fs' those of positions, edges and faces of the refined mesh. Assumes nothing.
--     Summed s r next fan i        s is the sum, r the edge i about p, next the one after it, fan what is known about r
--     summed-start, summed-more    before the first edge, and with one edge more
--     summed-between               the edge r and the next one, and what is looked up for them, are there
--     summed-after                 so is the edge after these
use mathlib.Core.Path.{◌≡◌, sym, ◌∙◌, ap}
use mathlib.Core.List.{List}
use Prim.Native.Nat.{ℕ, ◌+◌, ◌≤◌, ◌<◌}
use native.Mathlib.Omega.{arith}
use lib.ListN.{get_or}
use lib.Ieee.{Float, nan}
use Rattle.t_spline.specs.Edge.{common_face}
use Rattle.tables.specs.Records.{edge_at}
use Rattle.position_rules.specs.declared.WeightedSum.{WeightedSum}
use Rattle.position_rules.specs.Intervals.{acw_about, cw_about, A2}
use Rattle.position_rules.specs.OldPoint.{radial_edge, edge_weight, face_weight, radial_terms, no_edges, radial_sum}
use Rattle.position_rules.specs.Places.{edge_point_at, face_point_at}
use Rattle.position_rules.specs.Fits.{EdgeFits, RadialFits, TurnsBack}
use Rattle.position_rules.proofs.Fits.{radial-edge-fits, radial-next-fits, face-between-fits, acw-fits}
use Rattle.position_rules.proofs.Sums.{radial_edge-none, radial_edge-more, radial_sum-none, radial_sum-more}
use Rattle.old_points.specs.declared.Fan.{Fan}
use Rattle.old_points.specs.Fan.{fan_about, terms_in, BetweenFits}

module _ (es : List ℕ) (is new : List Float) (es' fs' : List ℕ) (p start n : ℕ) where
  abbrev sum : ℕ → WeightedSum
  sum i = radial_sum es is (edge_point_at new es') (face_point_at new fs') p start i

  abbrev terms : ℕ → ℕ → Fan → Float → WeightedSum → WeightedSum
  terms r next fan a2 s = terms_in es is (edge_point_at new es') (face_point_at new fs') r next fan a2 s

  pub record Summed (s : WeightedSum) (r next : ℕ) (fan : Fan) (i : ℕ) : Type 0 where
    pub within : i ≤ n
    pub fits : RadialFits es is r new es' fs'
    pub edge-is : r ≡ radial_edge es p start i
    pub next-is : next ≡ acw_about es p r
    pub fan-is : fan ≡ fan_about es is p r
    pub sum_is : s ≡ sum i

  pub summed-start : (s : WeightedSum) (next : ℕ) (fan : Fan) → RadialFits es is start new es' fs' → s ≡ no_edges
      → next ≡ acw_about es p start → fan ≡ fan_about es is p start → Summed s start next fan 0
  summed-start s next fan h hs hn hf = record {
    within = omega arith;
    fits = h;
    edge-is = sym (radial_edge-none es p start);
    next-is = hn;
    fan-is = hf;
    sum_is = hs ∙ sym (radial_sum-none es is (edge_point_at new es') (face_point_at new fs') p start);
  }

  module _ (s : WeightedSum) (r next : ℕ) (fan : Fan) (i : ℕ) (h : Summed s r next fan i) where
    pub summed-between : BetweenFits es is r next new es' fs'
    summed-between =
        let there = face-between-fits es is new es' fs' p r (common_face (edge_at es is r) (edge_at es is next)) h.fits
        (ap (λ (k : ℕ). common_face (edge_at es is r) (edge_at es is k)) h.next-is) in
        record {
          edge-fits = radial-edge-fits es is new es' fs' r h.fits;
          next_fits = rw h.next-is (acw-fits es is p r (radial-edge-fits es is new es' fs' r h.fits));
          edge_row = h.fits.fit.new-fit.edge_row r h.fits.below;
          edge-place = h.fits.fit.new-fit.edge-place r h.fits.below;
          face-row = there.0;
          face-place = there.1;
        }

    pub summed-after : (after : ℕ) → after ≡ acw_about es p next → EdgeFits es is after
    summed-after after ha = rw ha (acw-fits es is p next summed-between.next_fits)

    -- the next edge, and the way back from it
    next_edge : next ≡ radial_edge es p start (i + 1)
    next_edge = h.next-is ∙ ap (acw_about es p) h.edge-is ∙ sym (radial_edge-more es p start i)

    way_back : TurnsBack es p start → cw_about es p next ≡ r
    way_back b = ap (cw_about es p) next_edge ∙ b.goes_back i ∙ sym h.edge-is

    module _ (b : TurnsBack es p start) (after : ℕ) (ha : after ≡ acw_about es p next) (a2 : Float) (h2 : a2 ≡ get_or is after nan) where
      two_steps : a2 ≡ A2 es is p r
      two_steps = rw (h2, ha, h.next-is)

      terms-are : terms r next fan a2 s ≡ radial_terms es is (edge_point_at new es') (face_point_at new fs') p r s
      unfolding radial_terms edge_weight face_weight
      terms-are = rw (two_steps, h.fan-is, sym h.next-is, way_back b)

      pub summed-more : (t : WeightedSum) (fan' : Fan) → i < n → t ≡ terms r next fan a2 s
          → fan' ≡ record { c2 = fan.c1; c1 = fan.d; d = fan.a1; a1 = a2 } → Summed t next after fan' (i + 1)
      summed-more t fan' l ht hf = record {
        within = omega arith;
        fits = rw h.next-is (radial-next-fits es is new es' fs' p r h.fits);
        edge-is = next_edge;
        next-is = ha;
        fan-is = rw (hf, h.fan-is, h2, ha, way_back b, sym h.next-is);
        sum_is = ht ∙ terms-are ∙ rw (h.sum_is, h.edge-is) (sym (radial_sum-more es is (edge_point_at new es') (face_point_at new fs') p start i));
      }
