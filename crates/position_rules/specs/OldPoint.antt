-- The old point (document 01, "Old point", equations 16 to 19). Here es and is are the tables of edges and intervals, ep e is
-- what weighs for edge e (its edge point or its m, by the edition), fp f the face point of face f.
--     radial_edge es p s i      the i-th edge about p, anticlockwise from s
--     edge_weight               0.5 (A1 + C1) (A2 + C2) of an edge
--     face_weight               A1 of an edge times C1 of the next one
--     radial_sum                S and W: the terms of the edges from 0 to n - 1, each with the next one
--     moved                    where a point of the valence v goes
--     old_point                 where the point p goes
use Rattle.std.specs.Prelude.{cond, List, ℕ, ◌+◌, ◌*◌, pos, get_or, Float}
use Rattle.std.specs.Float.Ieee.{add, sub, mul, div, of_bits, of_int}
use Rattle.std.specs.Float.{binary64}
use Rattle.positions.specs.declared.Position.{Position}
use Rattle.positions.specs.Position.{zeros, plus, product, quotient, small}
use Rattle.t_spline.specs.Edge.{common_face}
use Rattle.tables.specs.Layout.{point_width, start_word}
use Rattle.tables.specs.Records.{position_at, edge_at}
use Rattle.refined_meshes.specs.Turns.{turns}
use Rattle.position_rules.specs.declared.WeightedSum.{WeightedSum}
use Rattle.position_rules.specs.Intervals.{acw_about, A1, A2, C1, C2}
use Rattle.position_rules.specs.Sums.{with_term}

unfoldable pub radial_edge : List ℕ → ℕ → ℕ → ℕ → ℕ
radial_edge es p s i = turns i (λ _ e. acw_about es p e) s

unfoldable pub edge_weight : List ℕ → List Float → ℕ → ℕ → Float
edge_weight es is p r =
    mul binary64
    (mul binary64 (of_bits binary64 0x3fe0000000000000) (add binary64 (A1 es is p r) (C1 es is p r)))
    (add binary64 (A2 es is p r) (C2 es is p r))

unfoldable pub face_weight : List ℕ → List Float → ℕ → ℕ → ℕ → Float
face_weight es is p r next = mul binary64 (A1 es is p r) (C1 es is p next)

-- the terms of the edge r and of the face between it and the next edge
unfoldable pub radial_terms : List ℕ → List Float → (ℕ → Position) → (ℕ → Position) → ℕ → ℕ → WeightedSum → WeightedSum
radial_terms es is ep fp p r s =
    let next : ℕ = acw_about es p r in
    with_term (with_term s (ep r) (edge_weight es is p r)) (fp (common_face (edge_at es is r) (edge_at es is next))) (face_weight es is p r next)

abbrev pub no_edges : WeightedSum
no_edges = record { sum = zeros; weight = of_bits binary64 0 }

unfoldable pub radial_sum : List ℕ → List Float → (ℕ → Position) → (ℕ → Position) → ℕ → ℕ → ℕ → WeightedSum
radial_sum es is ep fp p start n = turns n (λ i s. radial_terms es is ep fp p (radial_edge es p start i) s) no_edges

-- the old place times (v - 3) / v, plus S times 3 over v times W; the old place if W is small
abbrev pub moved : Position → Float → WeightedSum → Position
moved place v s =
    cond (small s.weight) place
    (plus (product place (div binary64 (sub binary64 v (of_bits binary64 0x4008000000000000)) v))
    (quotient (product s.sum (of_bits binary64 0x4008000000000000)) (mul binary64 v s.weight)))

-- ps and ws are the tables of positions and of points
unfoldable pub old_point : List Float → List ℕ → List ℕ → List Float → (ℕ → Position) → (ℕ → Position) → ℕ → Position
old_point ps ws es is ep fp p =
    let v : ℕ = get_or ws (p * point_width) 0 in
    moved (position_at ps p) (of_int binary64 (pos v)) (radial_sum es is ep fp p (get_or ws (p * point_width + start_word) 0) v)
