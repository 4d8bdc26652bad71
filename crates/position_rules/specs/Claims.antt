-- What is proved of the position rules, as types.
--     FacePointTables      the face point looks at the tables of positions, edges, intervals and faces alone
--     WindowEdges          the edges of a face point's windows are the ones between their points: of all edges, the border's own edge
--                          alone touches two consecutive points
--     WeightedPointStands  where the face points stand in their places, the rule for edges gives the edge points, and m likewise
--     OldPointStands       where face points and what weighs for the edges stand in their places, the rule for old points gives the
--                          old points
--     WeightedFinite       where an edge point is finite, so is what weighs for the edge: a step that puts m into the edge point's row
--                          meets no number that is not finite but where the edge point is not finite either
--     JoiningFits          where the face point is finite, every joining interval of the face is finite with the sign bit clear: it is
--                          the sum of the intervals next to an edge of the border, each whole or halved, or a quarter of such a sum
--     RadialRound          the edges of the rule for old points are those that the walk about the point passes, once round
use Rattle.std.specs.Prelude.{◌≡◌, true, List, map, ◌⊎◌, ◌↔◌, ℕ, ◌+◌, ◌≤◌, ◌<◌, T, get_or, length, Float}
use Rattle.std.specs.Float.Ieee.{add, mul, fits, of_bits}
use Rattle.std.specs.Float.{binary64}
use Rattle.perimeters.specs.Places.{around}
use Rattle.positions.specs.Position.{finite_position}
use Rattle.tables.specs.Mesh.{Mesh, none, start, interval}
use Rattle.audited_meshes.specs.Walks.{back, face_walk, point_walk, first_point, Touches}
use Rattle.audited_meshes.specs.Audit.{interval_fit}
use Rattle.audited_meshes.specs.Audited.{Audited}
use Rattle.position_rules.specs.FacePoint.{face_point_in}
use Rattle.audited_meshes.specs.Folds.{again}
use Rattle.tables.specs.Parts.{without_points}
use Rattle.refined_meshes.specs.declared.Edition.{Edition}
use Rattle.position_rules.specs.EdgePoint.{weighted_point}
use Rattle.position_rules.specs.OldPoint.{radial_edge, old_point}
use Rattle.position_rules.specs.Rules.{edge_point_in, weighted_in, old_point_in}
use Rattle.position_rules.specs.Places.{edge_point_at, face_point_at}

abbrev pub FacePointTables : Type 0
FacePointTables =
    (m : Mesh) (ne f : ℕ) → face_point_in (without_points m.positions m.edges m.intervals m.faces) ne f ≡ face_point_in m ne f

abbrev pub border_point : Mesh → ℕ → List ℕ → ℕ → ℕ
border_point m f es j = get_or (again 4 (map (first_point m f) es)) j 0

-- the edges ed 0 .. ed (n + 2) of a border of n edges
abbrev pub WindowEdges : Type 0
WindowEdges =
    (m : Mesh) (np ne nf f : ℕ) (es : List ℕ) → Audited m np ne nf → f < nf → face_walk m ne f ≡ back es
    → (j e : ℕ) → j < length es + 3 → e < ne
    → (Touches m (border_point m f es j) e × Touches m (border_point m f es (j + 1)) e) ↔ (e ≡ get_or es (around (length es) j) 0)

-- the points of all faces and of all edges stand in the tables of the refined mesh
abbrev pub FacePointsStand : Mesh → ℕ → ℕ → List Float → List ℕ → Type 0
FacePointsStand m ne nf new fs' = (f : ℕ) → f < nf → face_point_at new fs' f ≡ face_point_in m ne f

abbrev pub WeightedPointsStand : Edition → Mesh → ℕ → List Float → List ℕ → Type 0
WeightedPointsStand ed m ne new es' = (e : ℕ) → e < ne → edge_point_at new es' e ≡ weighted_in ed m ne e

abbrev pub WeightedPointStands : Type 0
WeightedPointStands =
    (ed : Edition) (m : Mesh) (np ne nf : ℕ) (new : List Float) (fs' : List ℕ) → Audited m np ne nf → FacePointsStand m ne nf new fs'
    → (e : ℕ) → e < ne → weighted_point ed m.positions m.edges m.intervals (face_point_at new fs') e ≡ weighted_in ed m ne e

abbrev pub OldPointStands : Type 0
OldPointStands =
    (ed : Edition) (m : Mesh) (np ne nf : ℕ) (new : List Float) (es' fs' : List ℕ) → Audited m np ne nf → nf ≤ none
    → FacePointsStand m ne nf new fs' → WeightedPointsStand ed m ne new es'
    → (p : ℕ) → p < np
    → old_point m.positions m.points m.edges m.intervals (edge_point_at new es') (face_point_at new fs') p ≡ old_point_in ed m ne p

abbrev pub WeightedFinite : Type 0
WeightedFinite =
    (ed : Edition) (m : Mesh) (ne e : ℕ) → finite_position (edge_point_in m ne e) ≡ true → finite_position (weighted_in ed m ne e) ≡ true

abbrev pub RadialRound : Type 0
RadialRound =
    (m : Mesh) (ne k p : ℕ) (es : List ℕ) → point_walk m ne k p ≡ back es
    → ((i : ℕ) → i < length es → radial_edge m.edges p (start m p) i ≡ get_or es i 0)
    × (radial_edge m.edges p (start m p) (length es) ≡ start m p)

-- whole, or halved by an earlier visit
abbrev pub WholeOrHalf : Float → Float → Type 0
WholeOrHalf d x = (x ≡ d) ⊎ (x ≡ mul binary64 d (of_bits binary64 0x3fe0000000000000))

-- The edge between them is the one at the place after w. The tables hold binary64 numbers: of others it is not true.
abbrev pub JoiningFits : Type 0
JoiningFits =
    (m : Mesh) (np ne nf f : ℕ) (es : List ℕ) (w : ℕ) (next previous : Float) → Audited m np ne nf
    → ((e : ℕ) → T (fits binary64 (interval m e))) → f < nf → face_walk m ne f ≡ back es → w < length es
    → WholeOrHalf (interval m (get_or es (around (length es) (w + 2)) 0)) next → WholeOrHalf (interval m (get_or es w 0)) previous
    → finite_position (face_point_in m ne f) ≡ true → interval_fit (add binary64 next previous) ≡ true
