-- Two meshes in tables that are one but for the numbers of their rows.
--     Renumbered m np ne nf m' np' ne' nf'   the mesh of m with the counts np, ne, nf stands in m' with other row numbers
--     Kept m m' i                            the isomorphism i of the meshes in m and m' keeps start edges, positions and intervals
--     walk_to g w                             the walk w with its edges renumbered by g
--     found_to g r                            the edge found, renumbered by g
use Rattle.std.specs.Prelude.{◌≡◌, map, ℕ, ◌<◌, Option, Some, None}
use Rattle.closed_meshes.specs.Mesh.{MeshOver}
use Rattle.closed_meshes.specs.Renumbering.{Isomorphism, KeepsStarts, Row}
use Rattle.tables.specs.Mesh.{Mesh, valence, start, origin, dest, left_face, right_face, left_cw, left_acw, right_cw, right_acw, interval, face_start}
use Rattle.tables.specs.Records.{position_at}
use Rattle.audited_meshes.specs.Walks.{Walk, back, lost}

-- Rows go to rows, no two to one; the tables m' may hold other rows besides. Marks and corners are free: no rule looks at them.
pub record Renumbered (m : Mesh) (np ne nf : ℕ) (m' : Mesh) (np' ne' nf' : ℕ) : Type 0 where
  -- the new number of a point, of an edge, of a face
  pub point : ℕ → ℕ
  pub edge : ℕ → ℕ
  pub face : ℕ → ℕ
  pub point-below : (p : ℕ) → p < np → point p < np'
  pub edge-below : (e : ℕ) → e < ne → edge e < ne'
  pub face-below : (f : ℕ) → f < nf → face f < nf'
  pub point-once : (p q : ℕ) → p < np → q < np → point p ≡ point q → p ≡ q
  pub edge-once : (e i : ℕ) → e < ne → i < ne → edge e ≡ edge i → e ≡ i
  pub face-once : (f g : ℕ) → f < nf → g < nf → face f ≡ face g → f ≡ g
  -- Every word of a row that is a row number goes along, start edges too.
  pub valence-goes : (p : ℕ) → p < np → valence m' (point p) ≡ valence m p
  pub start-goes : (p : ℕ) → p < np → start m' (point p) ≡ edge (start m p)
  pub origin-goes : (e : ℕ) → e < ne → origin m' (edge e) ≡ point (origin m e)
  pub dest-goes : (e : ℕ) → e < ne → dest m' (edge e) ≡ point (dest m e)
  pub left_face-goes : (e : ℕ) → e < ne → left_face m' (edge e) ≡ face (left_face m e)
  pub right_face-goes : (e : ℕ) → e < ne → right_face m' (edge e) ≡ face (right_face m e)
  pub left_cw-goes : (e : ℕ) → e < ne → left_cw m' (edge e) ≡ edge (left_cw m e)
  pub left_acw-goes : (e : ℕ) → e < ne → left_acw m' (edge e) ≡ edge (left_acw m e)
  pub right_cw-goes : (e : ℕ) → e < ne → right_cw m' (edge e) ≡ edge (right_cw m e)
  pub right_acw-goes : (e : ℕ) → e < ne → right_acw m' (edge e) ≡ edge (right_acw m e)
  pub face_start-goes : (f : ℕ) → f < nf → face_start m' (face f) ≡ edge (face_start m f)
  -- Positions and intervals are the same.
  pub position-same : (p : ℕ) → p < np → position_at m'.positions (point p) ≡ position_at m.positions p
  pub interval-same : (e : ℕ) → e < ne → interval m' (edge e) ≡ interval m e

pub record Kept
    (m m' : Mesh) {np ne nf np' ne' nf' : ℕ} {t : MeshOver (Row np) (Row ne) (Row nf)} {t' : MeshOver (Row np') (Row ne') (Row nf')}
    (i : Isomorphism t t') : Type 0
  where
    pub starts-kept : KeepsStarts i
    pub position-kept : (p : Row np) → position_at m'.positions (i.points.to p).0 ≡ position_at m.positions p.0
    pub interval-kept : (e : Row ne) → interval m' (i.edges.to e).0 ≡ interval m e.0

abbrev pub walk_to : (ℕ → ℕ) → Walk → Walk
walk_to g (back es) = back (map g es)
walk_to g lost = lost

abbrev pub found_to : (ℕ → ℕ) → Option ℕ → Option ℕ
found_to g (Some e) = Some (g e)
found_to g None = None
