-- What a step of an edition makes of a closed mesh: its refinement on kinds (`refined` of `closed_meshes`) under some numbering of the
-- new rows.
--     found m t order d          the interval of d's edge as found on arriving at d's face
--     joint m t ed c order d     the interval of the joining edge to the midpoint of d's edge, in the edition ed
--     Highest                    the highest row of the destination halves that end in an old point
--     StartOfOld                 what the start edge of an old point is in the first edition
--     OldStart ed ..             what it is in the edition ed
--     mid_start_edge ed e              the start edge of the midpoint of e
--     centre_start ed c f         the start edge of the face point of f
--     Refines ed m t c order m'  the tables m' hold the refinement, in the edition ed, of the closed mesh t, which stands in the tables m
--     VisitsRefine               the claim: visits in an order that names each face once, and what the edition settles after them, make
--                                the refinement
use Rattle.std.specs.Prelude.{◌≡◌, cond, List, ◌⊎◌, ◌≢◌, ℕ, ◌+◌, ◌*◌, ◌≤◌, ltb, Float}
use Rattle.std.specs.Float.Ieee.{add}
use Rattle.std.specs.Float.{binary64}
use Rattle.closed_meshes.specs.Mesh.{MeshOver, Dart, edge, flip, face}
use Rattle.closed_meshes.specs.Closed.{Closed}
use Rattle.closed_meshes.specs.Refinement.{old, mid, face_point, NewEdge, org, dst, join, first_half, refined}
use Rattle.closed_meshes.specs.Renumbering.{Isomorphism, Touching, Row}
use Rattle.tables.specs.Mesh.{Mesh, start, mark, dest, interval, face_start, corner, point_rows, edge_rows, face_rows}
use Rattle.audited_meshes.specs.Rows.{Stands, HoldsClosed}
use Rattle.refined_meshes.specs.declared.Edition.{Edition}
use Rattle.refined_meshes.specs.declared.Edition.TheVariants.{First, Second}
use Rattle.refined_meshes.specs.State.{with_positions}
use Rattle.refined_meshes.specs.Split.{half}
use Rattle.refined_meshes.specs.Order.{EachOnce, turn_in}
use Rattle.refined_meshes.specs.Settled.{quarter, settled_rows}

module _ (m : Mesh) {np ne nf : ℕ} (t : MeshOver (Row np) (Row ne) (Row nf)) where
  -- It is found halved exactly if the face across comes earlier in the order.
  abbrev pub found : List ℕ → Dart (Row ne) → Float
  found order d =
      cond (ltb (turn_in order (face t (flip d)).0) (turn_in order (face t d).0)) (half (interval m (edge d).0)) (interval m (edge d).0)

  -- The next plus the previous perimeter interval; or a quarter of their sum, each whole as before the step, whatever the order.
  abbrev pub joint : Edition → Closed t → List ℕ → Dart (Row ne) → Float
  joint First c order d = add binary64 (found order (c.next d)) (found order (c.prev d))
  joint Second c order d = quarter (interval m (edge (c.next d)).0) (interval m (edge (c.prev d)).0)

-- The start edge w of the old point p is the highest-numbered destination half that ends in it; it is unchanged if none does.
pub record Highest {np ne nf : ℕ} (t : MeshOver (Row np) (Row ne) (Row nf)) (half_row : Row ne → ℕ) (p : Row np) (w : ℕ) : Type 0 where
  pub last : Row ne
  pub ends-here : t.dest last ≡ p
  pub is_last : w ≡ half_row last
  pub highest : (e : Row ne) → t.dest e ≡ p → half_row e ≤ half_row last

abbrev pub StartOfOld : {np ne nf : ℕ} → MeshOver (Row np) (Row ne) (Row nf) → (Row ne → ℕ) → Row np → ℕ → ℕ → Type 0
StartOfOld {np} {ne} t half_row p before w = (((e : Row ne) → t.dest e ≢ p) × (w ≡ before)) ⊎ Highest t half_row p w

-- In the second edition it is the half of the old start edge at the point: "a split changes the far point's start edge only if that was
-- the edge split, and then to its new half" (document 02, §6).
abbrev pub OldStart : Edition → {np ne nf : ℕ} (t : MeshOver (Row np) (Row ne) (Row nf)) → Closed t → (NewEdge (Row ne) → ℕ) → Row np → ℕ → ℕ → Type 0
OldStart First t c row p before w = StartOfOld t (λ e. row (dst e)) p before w
OldStart Second t c row p before w = w ≡ row (first_half (c.point_dart p))

-- "A midpoint starts at its destination half" (document 02, §7); the first edition leaves the origin half.
abbrev pub mid_start_edge : {ne : ℕ} → Edition → Row ne → NewEdge (Row ne)
mid_start_edge First e = org e
mid_start_edge Second e = dst e

-- "A face point at the joining edge for its face's old start edge"; the first edition leaves that of the last place of its perimeter.
abbrev pub centre_start : {np ne nf : ℕ} {t : MeshOver (Row np) (Row ne) (Row nf)} → Edition → Closed t → Row nf → NewEdge (Row ne)
centre_start First c f = join (c.prev (c.face_dart f))
centre_start Second c f = join (c.face_dart f)

pub record Refines (ed : Edition) (m : Mesh) {np ne nf : ℕ} (t : MeshOver (Row np) (Row ne) (Row nf)) (c : Closed t) (order : List ℕ) (m' : Mesh) : Type 0 where
  -- The rows of m' are a mesh that is the refinement on kinds, up to their numbering; their start edges touch them.
  pub mesh : MeshOver (Row (np + ne + nf)) (Row (4 * ne)) (Row (2 * ne))
  pub stands : Stands m' mesh
  pub numbering : Isomorphism (refined t c) mesh
  pub touching : Touching mesh
  -- Old points and origin halves keep their rows, and the first new face of a face takes its row.
  pub old_row : (p : Row np) → (numbering.points.to (old p)).0 ≡ p.0
  pub origin-row : (e : Row ne) → (numbering.edges.to (org e)).0 ≡ e.0
  pub first-row : (f : Row nf) → (numbering.faces.to (c.face_dart f)).0 ≡ f.0
  -- The midpoint of an edge is the destination of its row, the face point of a face the first corner of its row.
  pub mid_row : (e : Row ne) → dest m' e.0 ≡ (numbering.points.to (mid e)).0
  pub centre-row : (f : Row nf) → corner m' f.0 0 ≡ (numbering.points.to (face_point f)).0
  -- Old marks stay and new points get mark 0.
  pub old-mark : (p : Row np) → mark m' p.0 ≡ mark m p.0
  pub mid-mark : (e : Row ne) → mark m' (numbering.points.to (mid e)).0 ≡ 0
  pub centre-mark : (f : Row nf) → mark m' (numbering.points.to (face_point f)).0 ≡ 0
  -- Both halves get d times 0.5, and joining edges their intervals by the edition.
  pub origin-interval : (e : Row ne) → interval m' e.0 ≡ half (interval m e.0)
  pub destination-interval : (e : Row ne) → interval m' (numbering.edges.to (dst e)).0 ≡ half (interval m e.0)
  pub join-interval : (d : Dart (Row ne)) → interval m' (numbering.edges.to (join d)).0 ≡ joint m t ed c order d
  -- Start edges of points by the edition; a new face's is the half that its walk takes from its old point.
  pub old-start : (p : Row np) → OldStart ed t c (λ x. (numbering.edges.to x).0) p (start m p.0) (start m' p.0)
  pub mid_start : (e : Row ne) → start m' (numbering.points.to (mid e)).0 ≡ (numbering.edges.to (mid_start_edge ed e)).0
  pub centre-start : (f : Row nf) → start m' (numbering.points.to (face_point f)).0 ≡ (numbering.edges.to (centre_start ed c f)).0
  pub face-start : (d : Dart (Row ne)) → face_start m' (numbering.faces.to d).0 ≡ (numbering.edges.to (first_half d)).0

abbrev pub VisitsRefine : Type 0
VisitsRefine =
    (ed : Edition) (m : Mesh) (np ne nf : ℕ) (h : HoldsClosed m np ne nf) (order : List ℕ) → EachOnce nf order → (t : Mesh)
    → np + ne + nf ≤ point_rows t → 4 * ne ≤ edge_rows t → 2 * ne ≤ face_rows t
    → (ps : List Float) → Refines ed m h.mesh h.closed order (with_positions ps (settled_rows ed m np ne nf order t))
