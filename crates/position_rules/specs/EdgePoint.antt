-- The edge point (document 01, "Edge point", equations 13 to 15). Here ps, es and is are the tables of positions, edges and
-- intervals, and fp f is the face point of face f.
--     share                a part of a denominator, 0 if the denominator is small
--     shares is edge       aL and aR: the sums of the neighbours on either side over twice the sum of all four
--     middle               m: both ends weighted, or the midpoint if the denominator is small
--     edge_middle           m of edge e from o to t, each end weighted by d + A2 + C2 about that end
--     edge_middle_of         m of edge e
--     blend                m (1 - aR - aL) + aL times the left face point + aR times the right one
--     edge_point            the edge point of edge e
--     weighted_point ed     what the rule for old points weighs for edge e in the edition ed: "equation 16 weights equation 15's m"
--                          (document 02, §5) in the second, the edge point in the first
use Rattle.std.specs.Prelude.{cond, List, ℕ, get_or, Float}
use Rattle.std.specs.Float.{nan, binary64}
use Rattle.std.specs.Float.Ieee.{add, sub, mul, div, of_bits}
use Rattle.positions.specs.declared.Position.{Position}
use Rattle.positions.specs.Position.{plus, product, quotient, small}
use Rattle.t_spline.specs.declared.TnurccEdge.{TnurccEdge}
use Rattle.edge_ends.specs.declared.TnurccConnection.{TnurccConnection}
use Rattle.edge_ends.specs.declared.TnurccConnection.TheVariants.{LeftCw, LeftAcw, RightCw, RightAcw}
use Rattle.t_spline.specs.Edge.{connection_of}
use Rattle.tables.specs.Records.{position_at, edge_at}
use Rattle.refined_meshes.specs.declared.Edition.{Edition}
use Rattle.refined_meshes.specs.declared.Edition.TheVariants.{First, Second}
use Rattle.position_rules.specs.declared.Shares.{Shares}
use Rattle.position_rules.specs.Intervals.{three_terms}

abbrev pub share : Float → Float → Float
share a den = cond (small den) (of_bits binary64 0) (div binary64 a den)

abbrev pub neighbour : List Float → TnurccEdge → TnurccConnection → Float
neighbour is edge con = get_or is (connection_of edge con) nan

-- LeftCw + LeftAcw + RightCw + RightAcw, times 2
abbrev pub twice_neighbours : List Float → TnurccEdge → Float
twice_neighbours is edge =
    mul binary64
    (add binary64 (add binary64 (add binary64 (neighbour is edge LeftCw) (neighbour is edge LeftAcw)) (neighbour is edge RightCw)) (neighbour is edge RightAcw))
    (of_bits binary64 0x4000000000000000)

unfoldable pub shares : List Float → TnurccEdge → Shares
shares is edge =
    record {
      left = share (add binary64 (neighbour is edge LeftAcw) (neighbour is edge LeftCw)) (twice_neighbours is edge);
      right = share (add binary64 (neighbour is edge RightAcw) (neighbour is edge RightCw)) (twice_neighbours is edge);
    }

-- o at the weight wo and t at the weight wt
abbrev pub middle : Position → Float → Position → Float → Position
middle o wo t wt =
    cond (small (add binary64 wo wt)) (product (plus o t) (of_bits binary64 0x3fe0000000000000))
    (quotient (plus (product o wo) (product t wt)) (add binary64 wo wt))

unfoldable pub edge_middle : List Float → List ℕ → List Float → ℕ → ℕ → ℕ → Position
edge_middle ps es is o t e = middle (position_at ps o) (three_terms es is o e) (position_at ps t) (three_terms es is t e)

-- from the origin of edge e to its destination
abbrev pub edge_middle_of : List Float → List ℕ → List Float → ℕ → Position
edge_middle_of ps es is e = edge_middle ps es is (edge_at es is e).origin (edge_at es is e).dest e

abbrev pub blend : Position → Shares → Position → Position → Position
blend m a left right =
    plus (plus (product m (sub binary64 (sub binary64 (of_bits binary64 0x3ff0000000000000) a.right) a.left)) (product left a.left))
    (product right a.right)

unfoldable pub edge_point : List Float → List ℕ → List Float → (ℕ → Position) → ℕ → Position
edge_point ps es is fp e =
    let edge : TnurccEdge = edge_at es is e in
    blend (edge_middle_of ps es is e) (shares is edge) (fp edge.face_left) (fp edge.face_right)

abbrev pub weighted_point : Edition → List Float → List ℕ → List Float → (ℕ → Position) → ℕ → Position
weighted_point First ps es is fp e = edge_point ps es is fp e
weighted_point Second ps es is fp e = edge_middle_of ps es is e
