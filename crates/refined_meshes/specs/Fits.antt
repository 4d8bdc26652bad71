-- That every row which the visits store fits into the scratch tables.
--     StateRoom P E F s         the tables have P rows of points, E of edges and F of faces
--     RoomFor np ne nf s        they have the rows of the refinement of a mesh of np points, ne edges and nf faces
--     split_some m np ne f i s   the state of a visit of the face f in s before place i, its face point taken
--     ring_at m np ne f s        what the visit of the face f in s reads once its perimeter is split
--     VisitFits m np ne nf f s  the stores of the visit of the face f in s fit into np + ne + nf points, 4 ne edges and 2 ne faces
--     VisitsFit                 the claim: so it is with every visit
--     AllTaken                  the claim: all rows are taken after the visits
use Rattle.std.specs.Prelude.{◌≡◌, List, ℕ, ◌+◌, ◌-◌, ◌*◌, ◌≤◌, ◌<◌, length, get_or}
use Rattle.tables.specs.Layout.{point_width, edge_width, face_width, longest_perimeter}
use Rattle.tables.specs.Mesh.{Mesh, point_rows, edge_rows, face_rows}
use Rattle.audited_meshes.specs.Walks.{edges_of, passed, face_walk, first_point}
use Rattle.audited_meshes.specs.Rows.{HoldsClosed}
use Rattle.refined_meshes.specs.State.{State, edge_of, take_rows, copied}
use Rattle.refined_meshes.specs.Ring.{Ring}
use Rattle.refined_meshes.specs.Order.{EachOnce}
use Rattle.refined_meshes.specs.Visits.{found_on, split_all, ring_of, visits, refined_rows}

pub record StateRoom (P E F : ℕ) (s : State) : Type 0 where
  pub points-room : P * point_width ≤ length s.points
  pub edges_room : E * edge_width ≤ length s.edges
  pub intervals-room : E ≤ length s.intervals
  pub faces-room : F * face_width ≤ length s.faces

abbrev pub RoomFor : ℕ → ℕ → ℕ → State → Type 0
RoomFor np ne nf s = StateRoom (np + ne + nf) (4 * ne) (2 * ne) s

abbrev pub split_some : Mesh → ℕ → ℕ → ℕ → ℕ → State → State
split_some m np ne f i s = split_all np (edges_of (face_walk m ne f)) i (take_rows 1 0 0 s)

abbrev pub ring_at : Mesh → ℕ → ℕ → ℕ → State → Ring
ring_at m np ne f s =
    let es = edges_of (face_walk m ne f) in
    let n = passed (face_walk m ne f) in
    ring_of m f es n s.points_taken (found_on es n s) (split_some m np ne f n s)

pub record VisitFits (m : Mesh) (np ne nf f : ℕ) (s : State) : Type 0 where
  pub face-below : f < nf
  pub faces-less : nf ≤ 2 * ne
  pub size_low : 3 ≤ passed (face_walk m ne f)
  pub size-high : passed (face_walk m ne f) ≤ longest_perimeter
  pub edge-below : (i : ℕ) → i < passed (face_walk m ne f) → get_or (edges_of (face_walk m ne f)) i 0 < ne
  pub room : RoomFor np ne nf s
  pub centre-fits : s.points_taken < np + ne + nf
  -- before each place, and the rows of an edge that is split there
  pub split-room : (i : ℕ) → i ≤ passed (face_walk m ne f) → RoomFor np ne nf (split_some m np ne f i s)
  pub mid-fits :
      (i : ℕ) → i < passed (face_walk m ne f) → (edge_of (split_some m np ne f i s) (get_or (edges_of (face_walk m ne f)) i 0)).dest < np
      → (split_some m np ne f i s).points_taken < np + ne + nf
  pub half-fits :
      (i : ℕ) → i < passed (face_walk m ne f) → (edge_of (split_some m np ne f i s) (get_or (edges_of (face_walk m ne f)) i 0)).dest < np
      → (split_some m np ne f i s).edges_taken < 4 * ne
  -- the rows of the ring
  pub joins-fit : (ring_at m np ne f s).joins_from + passed (face_walk m ne f) ≤ 4 * ne
  pub faces-fit : (ring_at m np ne f s).faces_from + (passed (face_walk m ne f) - 1) ≤ 2 * ne
  pub first_fits : (i : ℕ) → i < passed (face_walk m ne f) → get_or (ring_at m np ne f s).firsts i 0 < 4 * ne
  pub second_fits : (i : ℕ) → i < passed (face_walk m ne f) → get_or (ring_at m np ne f s).seconds i 0 < 4 * ne
  pub mids-fit : (i : ℕ) → i < passed (face_walk m ne f) → get_or (ring_at m np ne f s).mids i 0 < np + ne + nf
  pub points-fit : (i : ℕ) → i < passed (face_walk m ne f) → first_point m f (get_or (edges_of (face_walk m ne f)) i 0) < np

abbrev pub VisitsFit : Type 0
VisitsFit =
    (m : Mesh) (np ne nf : ℕ) (h : HoldsClosed m np ne nf) (order : List ℕ) → EachOnce nf order → (t : Mesh)
    → np + ne + nf ≤ point_rows t → 4 * ne ≤ edge_rows t → 2 * ne ≤ face_rows t
    → (k : ℕ) → k < nf → VisitFits m np ne nf (get_or order k 0) (visits m np ne k order (copied m np ne nf t))

-- the rows taken after all visits
pub record Taken (np ne nf : ℕ) (s : State) : Type 0 where
  pub points-taken : s.points_taken ≡ np + ne + nf
  pub edges-taken : s.edges_taken ≡ 4 * ne
  pub faces-taken : s.faces_taken ≡ 2 * ne
  pub room : RoomFor np ne nf s

abbrev pub AllTaken : Type 0
AllTaken =
    (m : Mesh) (np ne nf : ℕ) (h : HoldsClosed m np ne nf) (order : List ℕ) → EachOnce nf order → (t : Mesh)
    → np + ne + nf ≤ point_rows t → 4 * ne ≤ edge_rows t → 2 * ne ≤ face_rows t
    → Taken np ne nf (refined_rows m np ne nf order t)
