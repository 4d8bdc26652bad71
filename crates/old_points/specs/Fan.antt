-- The terms of an edge about a point by the intervals that the code keeps from one edge to the next. Here es and is are the tables of edges
-- and intervals, ep and fp what weighs for an edge and the face point of a face, as in specs/OldPoint.antt of `position_rules`.
--     fan_about es is p r       C2 and C1 of the edge r about p, its interval, A1
--     edge_weight_in, terms_in    `edge_weight` and `radial_terms` by them, A2 and the next edge
--     BetweenFits              the edge r, the next one, the face between them and the new points of r and of that face are there
use Rattle.std.specs.Prelude.{List, ℕ, ◌+◌, ◌*◌, ◌≤◌, get_or, length, Float}
use Rattle.std.specs.Float.{nan, binary64}
use Rattle.std.specs.Float.Ieee.{add, mul, of_bits}
use Rattle.positions.specs.declared.Position.{Position}
use Rattle.t_spline.specs.Edge.{common_face}
use Rattle.tables.specs.Layout.{position_width, edge_width, dest_word, face_width, first_corner_word}
use Rattle.tables.specs.Records.{edge_at}
use Rattle.position_rules.specs.declared.WeightedSum.{WeightedSum}
use Rattle.position_rules.specs.Intervals.{A1, C1, C2}
use Rattle.position_rules.specs.Sums.{with_term}
use Rattle.position_rules.specs.Fits.{EdgeFits}
use Rattle.old_points.specs.declared.Fan.{Fan}

abbrev pub fan_about : List ℕ → List Float → ℕ → ℕ → Fan
fan_about es is p r = record { c2 = C2 es is p r; c1 = C1 es is p r; d = get_or is r nan; a1 = A1 es is p r }

abbrev pub edge_weight_in : Fan → Float → Float
edge_weight_in fan a2 =
    mul binary64 (mul binary64 (of_bits binary64 0x3fe0000000000000) (add binary64 fan.a1 fan.c1)) (add binary64 a2 fan.c2)

abbrev pub terms_in : List ℕ → List Float → (ℕ → Position) → (ℕ → Position) → ℕ → ℕ → Fan → Float → WeightedSum → WeightedSum
terms_in es is ep fp r next fan a2 s =
    with_term (with_term s (ep r) (edge_weight_in fan a2)) (fp (common_face (edge_at es is r) (edge_at es is next)))
    (mul binary64 fan.a1 fan.d)

pub record BetweenFits (es : List ℕ) (is : List Float) (r next : ℕ) (new : List Float) (es' fs' : List ℕ) : Type 0 where
  pub edge-fits : EdgeFits es is r
  pub next_fits : EdgeFits es is next
  pub edge_row : r * edge_width + edge_width ≤ length es'
  pub edge-place : get_or es' (r * edge_width + dest_word) 0 * position_width + position_width ≤ length new
  pub face-row : common_face (edge_at es is r) (edge_at es is next) * face_width + face_width ≤ length fs'
  pub face-place :
      get_or fs' (common_face (edge_at es is r) (edge_at es is next) * face_width + first_corner_word) 0 * position_width + position_width ≤ length new
