-- The face point (document 01, "Face point"). Here ps, es and is are the tables of positions, edges and intervals; the border
-- of the face is given by its points pt 0, pt 1, .. and its edges ed 0, ed 1, .., both going on round the face: the edge ed i
-- joins pt i and pt (i + 1).
--     six_terms             d, A2, C2 of one edge about a point, then of another edge about another point
--     window_weight         the weight of the window p0 .. p4 that begins at place i
--     window_sum            the sums over the first windows
--     face_point_over        the weighted sum of the middle points p2 over the sum of the weights, of n windows
--     face_point_about       the face point of the face that a walk went about
--     face_point_in m ne f   the face point of face f, by the walk about it along the edges below ne
use Rattle.std.specs.Prelude.{List, map, ℕ, ◌+◌, get_or, length, Float}
use Rattle.std.specs.Float.{nan, binary64}
use Rattle.std.specs.Float.Ieee.{add, mul, neg, of_bits}
use Rattle.positions.specs.declared.Position.{Position}
use Rattle.positions.specs.Position.{zeros, quotient}
use Rattle.perimeters.specs.Places.{around}
use Rattle.tables.specs.Mesh.{Mesh}
use Rattle.tables.specs.Records.{position_at}
use Rattle.audited_meshes.specs.Folds.{again}
use Rattle.audited_meshes.specs.Walks.{face_walk, edges_of, first_point}
use Rattle.refined_meshes.specs.Turns.{turns}
use Rattle.position_rules.specs.declared.WeightedSum.{WeightedSum}
use Rattle.position_rules.specs.Intervals.{A2, C2, three_terms}
use Rattle.position_rules.specs.Sums.{with_term}

unfoldable pub six_terms : List ℕ → List Float → ℕ → ℕ → ℕ → ℕ → Float
six_terms es is p e q g =
    add binary64 (add binary64 (add binary64 (three_terms es is p e) (get_or is g nan)) (A2 es is q g)) (C2 es is q g)

-- p2p3 about p3, then p0p1 about p0; times p1p2 about p1, then p3p4 about p4
unfoldable pub window_weight : List ℕ → List Float → (ℕ → ℕ) → (ℕ → ℕ) → ℕ → Float
window_weight es is pt ed i =
    mul binary64
    (six_terms es is (pt (i + 3)) (ed (i + 2)) (pt i) (ed i))
    (six_terms es is (pt (i + 1)) (ed (i + 1)) (pt (i + 4)) (ed (i + 3)))

-- The Rust sums the weights from -0, the positions from +0.
abbrev pub no_windows : WeightedSum
no_windows = record { sum = zeros; weight = neg (of_bits binary64 0) }

unfoldable pub window_sum : List Float → List ℕ → List Float → (ℕ → ℕ) → (ℕ → ℕ) → ℕ → WeightedSum
window_sum ps es is pt ed n = turns n (λ i s. with_term s (position_at ps (pt (i + 2))) (window_weight es is pt ed i)) no_windows

abbrev pub over_weight : WeightedSum → Position
over_weight s = quotient s.sum s.weight

unfoldable pub face_point_over : List Float → List ℕ → List Float → (ℕ → ℕ) → (ℕ → ℕ) → ℕ → Position
face_point_over ps es is pt ed n = over_weight (window_sum ps es is pt ed n)

-- the points of the border followed by the first four again, and its edges round to the start
unfoldable pub face_point_about : Mesh → ℕ → List ℕ → Position
face_point_about m f es =
    let bp : List ℕ = again 4 (map (first_point m f) es) in
    face_point_over m.positions m.edges m.intervals (λ j. get_or bp j 0) (λ j. get_or es (around (length es) j) 0) (length es)

unfoldable pub face_point_in : Mesh → ℕ → ℕ → Position
face_point_in m ne f = face_point_about m f (edges_of (face_walk m ne f))
