-- The laws of rows that are there. Assumes nothing.
--     row-there, interval-there      the words and the interval of an edge that fits
--     acw-fits, cw-fits              one step about a point comes to an edge that fits
--     neighbours-fit                 the neighbours of an edge that fits have intervals
--     border-fits                    the edge at a place of a border
--     radial-edge-fits, radial-next-fits, face-between-fits      an edge about a point, the next one, the face between them
use mathlib.Core.Path.{◌≡◌}
use mathlib.Core.Bool.{Bool, true, false, cond}
use mathlib.Core.List.{List}
use Prim.Native.Nat.{ℕ, ◌+◌, ◌*◌, ◌≤◌, ◌<◌}
use native.Mathlib.Omega.{arith}
use lib.Dec.{eqb}
use lib.ListN.{get_or, length}
use lib.Ieee.{Float}
use Rattle.t_spline.specs.Edge.{common_face}
use Rattle.tables.specs.Records.{edge_at}
use Rattle.position_rules.specs.Intervals.{acw_about, cw_about}
use Rattle.position_rules.specs.Fits.{EdgesFit, EdgeFits, BorderFits, NeighboursFit, RadialFits}

cond_below : (b : Bool) (i j n : ℕ) → i < n → j < n → cond b i j < n
cond_below true i j n h k = h
cond_below false i j n h k = k

module _ (es : List ℕ) (is : List Float) where
  pub row-there : (e : ℕ) → EdgeFits es is e → e * 8 + 8 ≤ length es
  row-there e h = omega (arith, h.below, h.fit.words)

  pub interval-there : (e : ℕ) → EdgeFits es is e → e < length is
  interval-there e h = omega (arith, h.below, h.fit.numbers)

  pub acw-below : (ne p e : ℕ) → EdgesFit es is ne → e < ne → acw_about es p e < ne
  unfolding acw_about
  acw-below ne p e h l = cond_below (eqb (get_or es (e * 8) 0) p) _ _ ne (h.left_cw-below e l) (h.right_cw-below e l)

  pub cw-below : (ne p e : ℕ) → EdgesFit es is ne → e < ne → cw_about es p e < ne
  unfolding cw_about
  cw-below ne p e h l = cond_below (eqb (get_or es (e * 8) 0) p) _ _ ne (h.right_acw-below e l) (h.left_acw-below e l)

  pub acw-fits : (p e : ℕ) → EdgeFits es is e → EdgeFits es is (acw_about es p e)
  acw-fits p e h = record { rows = h.rows; fit = h.fit; below = acw-below h.rows p e h.fit h.below }

  pub cw-fits : (p e : ℕ) → EdgeFits es is e → EdgeFits es is (cw_about es p e)
  cw-fits p e h = record { rows = h.rows; fit = h.fit; below = cw-below h.rows p e h.fit h.below }

  pub neighbours-fit : (e : ℕ) → EdgeFits es is e → NeighboursFit is (edge_at es is e)
  neighbours-fit e h =
      record {
        left_cw-there = omega (arith, h.fit.left_cw-below e h.below, h.fit.numbers);
        left_acw-there = omega (arith, h.fit.left_acw-below e h.below, h.fit.numbers);
        right_cw-there = omega (arith, h.fit.right_cw-below e h.below, h.fit.numbers);
        right_acw-there = omega (arith, h.fit.right_acw-below e h.below, h.fit.numbers);
      }

  pub border-fits : (bs : List ℕ) (n j : ℕ) → BorderFits es is bs n → j < n → EdgeFits es is (get_or bs j 0)
  border-fits bs n j h l = record { rows = h.rows; fit = h.fit; below = h.edges-below j l }

module _ (es : List ℕ) (is new : List Float) (es' fs' : List ℕ) where
  pub radial-edge-fits : (r : ℕ) → RadialFits es is r new es' fs' → EdgeFits es is r
  radial-edge-fits r h = record { rows = h.edges; fit = h.fit.fit; below = h.below }

  pub radial-next-fits : (p r : ℕ) → RadialFits es is r new es' fs' → RadialFits es is (acw_about es p r) new es' fs'
  radial-next-fits p r h =
      record { edges = h.edges; faces = h.faces; fit = h.fit; below = acw-below es is h.edges p r h.fit.fit h.below }

  -- the face between the edge r and the next one has its row and its place
  pub face-between-fits : (p r f : ℕ) → RadialFits es is r new es' fs'
      → f ≡ common_face (edge_at es is r) (edge_at es is (acw_about es p r))
      → (f * 5 + 5 ≤ length fs') × (get_or fs' (f * 5 + 1) 0 * 3 + 3 ≤ length new)
  face-between-fits p r f h e =
      let l : f < h.faces = rw e (h.fit.common-below p r h.below) in
      (h.fit.new-fit.face-row f l, h.fit.new-fit.face-place f l)
