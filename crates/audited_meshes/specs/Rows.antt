-- Tables that hold a closed mesh over bounded numbers.
--     place k                  the place of a face's corner as a number
--     corner_word c             the word for a corner: its point number, or the none mark
--     Stands m t               the words of the mesh t over bounded numbers stand in the tables m
--     Fit m np ne nf           what the audit asks beyond a mesh: counts that fit the lent rows, numbers and marks
--     HoldsClosed m np ne nf   a closed mesh stands in the tables, and the rest fits
use Rattle.std.specs.Prelude.{◌≡◌, true, ◌⊎◌, ℕ, ◌≤◌, ◌<◌}
use Rattle.std.proofs.Math.Option.{Option, some}
use Rattle.std.proofs.Math.Option
use Rattle.std.specs.Float.Ieee.Scale.{finite}
use Rattle.closed_meshes.specs.Mesh.{MeshOver, Place, place0, place1, place2, place3}
use Rattle.closed_meshes.specs.Closed.{Closed}
use Rattle.closed_meshes.specs.Renumbering.{Row}
use Rattle.tables.specs.Mesh.{Mesh, none, x, y, z, valence, start, mark, origin, dest, left_face}
use Rattle.tables.specs.Mesh.{right_face, left_cw, left_acw, right_cw, right_acw, interval, face_start, corner, point_rows, edge_rows, face_rows}
use Rattle.audited_meshes.specs.Audit.{interval_fit}

abbrev pub place : Place → ℕ
place place0 = 0
place place1 = 1
place place2 = 2
place place3 = 3

abbrev pub corner_word : {np : ℕ} → Option (Row np) → ℕ
corner_word Option.none = none
corner_word (some p) = p.0

pub record Stands (m : Mesh) {np ne nf : ℕ} (t : MeshOver (Row np) (Row ne) (Row nf)) : Type 0 where
  pub valence-stands : (p : Row np) → valence m p.0 ≡ t.valence p
  pub start-stands : (p : Row np) → start m p.0 ≡ (t.start p).0
  pub origin-stands : (e : Row ne) → origin m e.0 ≡ (t.origin e).0
  pub dest-stands : (e : Row ne) → dest m e.0 ≡ (t.dest e).0
  pub left_face-stands : (e : Row ne) → left_face m e.0 ≡ (t.left e).0
  pub right_face-stands : (e : Row ne) → right_face m e.0 ≡ (t.right e).0
  pub left_cw-stands : (e : Row ne) → left_cw m e.0 ≡ (t.left_cw e).0
  pub left_acw-stands : (e : Row ne) → left_acw m e.0 ≡ (t.left_acw e).0
  pub right_cw-stands : (e : Row ne) → right_cw m e.0 ≡ (t.right_cw e).0
  pub right_acw-stands : (e : Row ne) → right_acw m e.0 ≡ (t.right_acw e).0
  pub face_start-stands : (f : Row nf) → face_start m f.0 ≡ (t.face_start f).0
  pub corner-stands : (f : Row nf) (k : Place) → corner m f.0 (place k) ≡ corner_word (t.corner f k)

pub record Fit (m : Mesh) (np ne nf : ℕ) : Type 0 where
  pub points-fit : np ≤ point_rows m
  pub edges_fit : ne ≤ edge_rows m
  pub faces-fit : nf ≤ face_rows m
  pub x-finite : (p : ℕ) → p < np → finite (x m p) ≡ true
  pub y-finite : (p : ℕ) → p < np → finite (y m p) ≡ true
  pub z-finite : (p : ℕ) → p < np → finite (z m p) ≡ true
  pub interval-fit : (e : ℕ) → e < ne → interval_fit (interval m e) ≡ true
  pub mark-fit : (p : ℕ) → p < np → (mark m p ≡ 0) ⊎ (mark m p ≡ 1)

pub record HoldsClosed (m : Mesh) (np ne nf : ℕ) : Type 0 where
  pub mesh : MeshOver (Row np) (Row ne) (Row nf)
  pub stands : Stands m mesh
  pub closed : Closed mesh
  pub fit : Fit m np ne nf
