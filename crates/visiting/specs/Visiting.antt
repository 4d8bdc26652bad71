-- What must hold so that every row that a visit reads or writes is there.
--     bare m                   the mesh m with its tables of edges and faces alone, which are all that a visit looks at
--     RowsThere m np ne nf     the tables of m hold the rows of np points, ne edges and nf faces, positions aside
--     Ceilings np ne nf        a mesh with these counts is below the ceilings of document 01 once it is refined
--     PlacesLent hs gs ms      the arrays lent for what stands at the places of a perimeter have their length, whatever they hold
--     RingFits oe pe rows ..   the ring with these rows, of the split perimeter pe, finds its rows and has room in the scratch tables
--     AlongFits oe np f pe n s   the visit of the face f in s along the perimeter pe of n edges finds its rows and has room
--     EachVisitFits ..         every visit in the order finds its rows and has room
use Rattle.std.specs.Prelude.{◌≡◌, List, ℕ, ◌+◌, ◌-◌, ◌*◌, ◌≤◌, ◌<◌, length, get_or, Float}
use Rattle.tables.specs.Layout.{point_width, edge_width, face_width, longest_perimeter, point_ceiling, edge_ceiling, face_ceiling}
use Rattle.tables.specs.Mesh.{Mesh}
use Rattle.tables.specs.Parts.{face_tables}
use Rattle.refined_meshes.specs.State.{State, take_rows}
use Rattle.refined_meshes.specs.Visits.{split_all, visits}
use Rattle.refined_meshes.specs.Fits.{VisitFits}
use Rattle.splitting.specs.Scratch.{InRows, SplitRoom}
use Rattle.ring_rows.specs.declared.RingRows.{RingRows}
use Rattle.ring_rows.specs.Rings.{Small, EdgesThere}
use Rattle.refined_meshes.specs.Ring.{first_half_of, second_half_of}

abbrev pub bare : Mesh → Mesh
bare m = face_tables m.edges m.faces

pub record RowsThere (m : Mesh) (np ne nf : ℕ) : Type 0 where
  pub points : np * point_width ≤ length m.points
  pub edges : ne * edge_width ≤ length m.edges
  pub intervals : ne ≤ length m.intervals
  pub faces : nf * face_width ≤ length m.faces

pub record Ceilings (np ne nf : ℕ) : Type 0 where
  pub points : np + ne + nf ≤ point_ceiling
  pub edges : 4 * ne ≤ edge_ceiling
  pub faces : 2 * ne ≤ face_ceiling

pub record PlacesLent (hs gs ms : List ℕ) : Type 0 where
  pub firsts : length hs ≡ longest_perimeter
  pub seconds : length gs ≡ longest_perimeter
  pub mids : length ms ≡ longest_perimeter

pub record RingFits (oe pe : List ℕ) (rows : RingRows) (ps es : List ℕ) (is : List Float) (fs : List ℕ) : Type 0 where
  pub small : Small rows
  pub centre : rows.centre * point_width + point_width ≤ length ps
  pub joins : (rows.joins + rows.size) * edge_width ≤ length es
  pub intervals : rows.joins + rows.size ≤ length is
  pub face : rows.face * face_width + face_width ≤ length fs
  pub faces : (rows.faces + (rows.size - 1)) * face_width ≤ length fs
  pub mesh-rows : EdgesThere oe pe rows.size
  pub edge-rows : EdgesThere es pe rows.size
  pub firsts : (i : ℕ) → i < rows.size → first_half_of oe es rows.face (get_or pe i 0) * edge_width + edge_width ≤ length es
  pub seconds : (i : ℕ) → i < rows.size → second_half_of oe es rows.face (get_or pe i 0) * edge_width + edge_width ≤ length es

pub record AlongFits (oe : List ℕ) (np f : ℕ) (pe : List ℕ) (n : ℕ) (s : State) : Type 0 where
  pub some-places : 0 < n
  pub few-places : n ≤ longest_perimeter
  pub mesh-rows : EdgesThere oe pe n
  pub rows : (i : ℕ) → i < n → InRows s.edges s.intervals (get_or pe i 0)
  pub old-points : np * point_width ≤ length s.points
  pub centre : s.points_taken * point_width + point_width ≤ length s.points
  pub few-points : s.points_taken < point_ceiling
  pub room :
      SplitRoom s.points s.edges s.intervals (split_all np pe n (take_rows 1 0 0 s)).points_taken ((split_all np pe n (take_rows 1 0 0 s)).edges_taken + n)
  pub face : f * face_width + face_width ≤ length s.faces
  pub face-below : f < face_ceiling
  pub faces : (s.faces_taken + (n - 1)) * face_width ≤ length s.faces
  pub few-faces : s.faces_taken + n ≤ 65537
  pub firsts : (i : ℕ) → i < n → first_half_of oe (split_all np pe n (take_rows 1 0 0 s)).edges f (get_or pe i 0) * edge_width + edge_width ≤ length s.edges
  pub seconds : (i : ℕ) → i < n → second_half_of oe (split_all np pe n (take_rows 1 0 0 s)).edges f (get_or pe i 0) * edge_width + edge_width ≤ length s.edges

pub record EachVisitFits (m : Mesh) (np ne nf : ℕ) (order : List ℕ) (s : State) : Type 0 where
  pub ceilings : Ceilings np ne nf
  pub edges : ne * edge_width ≤ length m.edges
  pub faces : nf * face_width ≤ length m.faces
  pub ordered : nf ≤ length order
  pub each : (k : ℕ) → k < nf → VisitFits m np ne nf (get_or order k 0) (visits m np ne k order s)
