-- Perimeters and faces, as the code answers them, and what their code asks of what it is lent.
--     face_state_of m r         the definition's ring of the tables m and of the code's ring r
--     face_state_at m k         the definition's ring before the first place, while k edges stand
--     turned_state m r              the ring after a turn, or its ground, with the tables m as they stand then
--     state_at m k             the state of the tables m in which k edges stand
--     faced_state m r             the state after a face, or its ground, with the tables m as they stand then
--     ListedRoom              there is a row and a link for as many edges as points are listed, and an interval beside each
--     ListedFrom              n points from the place a on are listed and in range
--     Sided                   face f has its four sides, of n points in all, and as many are listed from the place a on
--     Closing                 the first edge of a ring and the one before are edges
--     SomeStand               the links are those of the edges that stand, at most so many
--     TurnStands, FaceStands  what holds of tables and links after a turn, and after a face
use Rattle.std.specs.Prelude.{◌≡◌, true, List, [], ℕ, ◌+◌, ◌*◌, ◌≤◌, ◌<◌, Float, length, Result, Ok, Err}
use Rattle.built_meshes.specs.declared.Ground.{Ground}
use Rattle.tables.specs.Layout.{edge_width}
use Rattle.tables.specs.Mesh.{Mesh}
use Rattle.built_meshes.specs.Lists.{size, general_limits}
use Rattle.built_meshes.specs.Faces.{listed_in_range}
use Rattle.built_meshes.specs.Perimeters.{BuildState, FaceState, Progress, on, stopped}
use Rattle.building_tests.specs.Lent.{lists}
use Rattle.edge_buckets.specs.Buckets.{buckets}
use Rattle.edge_search.specs.Chains.{Standing}
use Rattle.building_faces.specs.declared.RingEdges.{RingEdges}

abbrev pub face_state_of : Mesh → RingEdges → FaceState
face_state_of m r = record { mesh = m; edges = r.edges; first = r.first; before = r.before }

abbrev pub face_state_at : Mesh → ℕ → FaceState
face_state_at m k = record { mesh = m; edges = k; first = 0; before = 0 }

abbrev pub turned_state : Mesh → Result RingEdges Ground → Progress FaceState
turned_state m (Ok r) = on (face_state_of m r)
turned_state m (Err g) = stopped g m

abbrev pub state_at : Mesh → ℕ → BuildState
state_at m k = record { mesh = m; edges = k }

abbrev pub faced_state : Mesh → Result ℕ Ground → Progress BuildState
faced_state m (Ok k) = on (state_at m k)
faced_state m (Err g) = stopped g m

pub record ListedRoom (ls : List ℕ) (be : List Float) (es : List ℕ) (is : List Float) (ch : List ℕ) : Type 0 where
  pub edge-rows : length ls * edge_width ≤ length es
  pub interval-rows : length ls ≤ length is
  pub link-rows : buckets + length ls ≤ length ch
  pub few : length ls ≤ general_limits.listed
  pub beside : length be ≡ length ls

pub record ListedFrom (np : ℕ) (ls : List ℕ) (a n : ℕ) : Type 0 where
  pub within : a + n ≤ length ls
  pub points : listed_in_range (lists [] [] ls []) np a n ≡ true

pub record Sided (ss ls : List ℕ) (f a n : ℕ) : Type 0 where
  pub sides : f * 4 + 4 ≤ length ss
  pub is-size : n ≡ size (lists [] ss [] []) f
  pub within : a + n ≤ length ls

pub record Closing (r : RingEdges) : Type 0 where
  pub first_edge : r.first < r.edges
  pub before-edge : r.before < r.edges

abbrev pub SomeStand : ℕ → List ℕ → List ℕ → List ℕ → ℕ → Type 0
SomeStand np pts es ch most = (k : ℕ) × Standing np pts es ch k × (k ≤ most)

-- `most` edges may stand after it
abbrev pub TurnStands : ℕ → List ℕ → List ℕ → List ℕ → ℕ → Result RingEdges Ground → Type 0
TurnStands np pts es ch most (Ok r) = Standing np pts es ch r.edges × (r.edges ≤ most) × Closing r
TurnStands np pts es ch most (Err g) = SomeStand np pts es ch most

abbrev pub FaceStands : ℕ → List ℕ → List ℕ → List ℕ → ℕ → Result ℕ Ground → Type 0
FaceStands np pts es ch most (Ok k) = Standing np pts es ch k × (k ≤ most)
FaceStands np pts es ch most (Err g) = SomeStand np pts es ch most
