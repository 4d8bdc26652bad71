-- What goes along when the rows of an audited mesh are renumbered, and what stays the same.
--     Followed r               all of it, for the renumbering r
--     RulesFollow              the claim: it holds of every renumbering of an audited mesh
--     NumberOf g b             g is the bijection b of rows, on their numbers
--     IsomorphismRenumbers     the claim: an isomorphism of closed meshes that keeps start edges and numbers is a renumbering
--     SameNew h h' i           the new positions of two closed meshes are the same under the isomorphism i
--     SamePositions            the claim: under such an isomorphism all new positions are the same in both editions, finite in the one
--                              mesh exactly if they are in the other
use Rattle.std.specs.Prelude.{◌≡◌, ℕ, ◌+◌, ◌<◌, ◌≤◌, get_or, Some}
use Rattle.positions.specs.declared.Position.{Position}
use Rattle.positions.specs.Position.{finite_position}
use Rattle.t_spline.specs.Edge.{common_face}
use Rattle.closed_meshes.specs.Renumbering.{Bijection, Isomorphism, Row}
use Rattle.tables.specs.Mesh.{Mesh, none, start, origin, dest}
use Rattle.tables.specs.Records.{edge_at}
use Rattle.audited_meshes.specs.Walks.{acw_of_face, cw_of_face, first_point, face_walk, point_walk}
use Rattle.audited_meshes.specs.Audited.{Audited}
use Rattle.audited_meshes.specs.Rows.{HoldsClosed}
use Rattle.walks.specs.Border.{border}
use Rattle.walks.specs.Neighbour.{edge_to_point}
use Rattle.refined_meshes.specs.declared.Edition.{Edition}
use Rattle.position_rules.specs.Intervals.{acw_about, cw_about, A1, A2, C1, C2, three_terms}
use Rattle.position_rules.specs.FacePoint.{face_point_in}
use Rattle.position_rules.specs.EdgePoint.{edge_middle, edge_point}
use Rattle.position_rules.specs.OldPoint.{radial_edge, old_point}
use Rattle.position_rules.specs.Rules.{edge_point_in, old_point_in}
use Rattle.renumbered_meshes.specs.Renumbered.{Renumbered, Kept, walk_to, found_to}

pub record Followed {m : Mesh} {np ne nf : ℕ} {m' : Mesh} {np' ne' nf' : ℕ} (r : Renumbered m np ne nf m' np' ne' nf') : Type 0 where
  -- One step about a point and about a face goes along.
  pub acw-about : (p e : ℕ) → p < np → e < ne → acw_about m'.edges (r.point p) (r.edge e) ≡ r.edge (acw_about m.edges p e)
  pub cw-about : (p e : ℕ) → p < np → e < ne → cw_about m'.edges (r.point p) (r.edge e) ≡ r.edge (cw_about m.edges p e)
  pub acw-of-face : (f e : ℕ) → f < nf → e < ne → acw_of_face m' (r.face f) (r.edge e) ≡ r.edge (acw_of_face m f e)
  pub cw-of-face : (f e : ℕ) → f < nf → e < ne → cw_of_face m' (r.face f) (r.edge e) ≡ r.edge (cw_of_face m f e)
  pub first-point : (f e : ℕ) → f < nf → e < ne → first_point m' (r.face f) (r.edge e) ≡ r.point (first_point m f e)
  -- So do walks, and the edge to a neighbour.
  pub face-walk : (f : ℕ) → f < nf → face_walk m' ne' (r.face f) ≡ walk_to r.edge (face_walk m ne f)
  pub point-walk : (k p : ℕ) → p < np → point_walk m' ne' k (r.point p) ≡ walk_to r.edge (point_walk m ne k p)
  pub edge_to : (k p q : ℕ) → p < np → q < np → edge_to_point m' ne' k (r.point p) (r.point q) ≡ found_to r.edge (edge_to_point m ne k p q)
  pub radial-edge :
      (p i : ℕ) → p < np →
      radial_edge m'.edges (r.point p) (start m' (r.point p)) i ≡ r.edge (radial_edge m.edges p (start m p) i)
  -- Borders: as many edges, and the edges and points at each place.
  pub border-size : (f : ℕ) → f < nf → (border m' ne' (r.face f)).passed ≡ (border m ne f).passed
  pub border-edge :
      (f j n : ℕ) → f < nf → (border m ne f).passed ≡ Some n → j < n →
      get_or (border m' ne' (r.face f)).edges j 0 ≡ r.edge (get_or (border m ne f).edges j 0)
  pub border-point :
      (f j n : ℕ) → f < nf → (border m ne f).passed ≡ Some n → j < n + 4 →
      get_or (border m' ne' (r.face f)).points j 0 ≡ r.point (get_or (border m ne f).points j 0)
  -- The intervals about the ends of an edge are the same.
  pub a1 : (p e : ℕ) → p < np → e < ne → A1 m'.edges m'.intervals (r.point p) (r.edge e) ≡ A1 m.edges m.intervals p e
  pub c1 : (p e : ℕ) → p < np → e < ne → C1 m'.edges m'.intervals (r.point p) (r.edge e) ≡ C1 m.edges m.intervals p e
  pub a2 : (p e : ℕ) → p < np → e < ne → A2 m'.edges m'.intervals (r.point p) (r.edge e) ≡ A2 m.edges m.intervals p e
  pub c2 : (p e : ℕ) → p < np → e < ne → C2 m'.edges m'.intervals (r.point p) (r.edge e) ≡ C2 m.edges m.intervals p e
  pub three-terms :
      (p e : ℕ) → p < np → e < ne →
      three_terms m'.edges m'.intervals (r.point p) (r.edge e) ≡ three_terms m.edges m.intervals p e
  -- The face between an edge about a point and the next one goes along.
  pub common-face :
      (p e : ℕ) → p < np → e < ne →
      common_face (edge_at m'.edges m'.intervals (r.edge e))
      (edge_at m'.edges m'.intervals (acw_about m'.edges (r.point p) (r.edge e)))
      ≡ r.face (common_face (edge_at m.edges m.intervals e) (edge_at m.edges m.intervals (acw_about m.edges p e)))
  -- The face points are the same, and so is m of equation 15.
  pub face-point : (f : ℕ) → f < nf → face_point_in m' ne' (r.face f) ≡ face_point_in m ne f
  pub edge-middle :
      (e : ℕ) → e < ne →
      edge_middle m'.positions m'.edges m'.intervals (origin m' (r.edge e)) (dest m' (r.edge e)) (r.edge e)
      ≡ edge_middle m.positions m.edges m.intervals (origin m e) (dest m e) e
  -- The edge points are the same where the face points are, the old points where the points of edges and faces are, whichever these are.
  pub edge-point :
      (fp fp' : ℕ → Position) → ((f : ℕ) → f < nf → fp' (r.face f) ≡ fp f) → (e : ℕ) → e < ne →
      edge_point m'.positions m'.edges m'.intervals fp' (r.edge e) ≡ edge_point m.positions m.edges m.intervals fp e
  pub old-point :
      (ep ep' fp fp' : ℕ → Position) → ((e : ℕ) → e < ne → ep' (r.edge e) ≡ ep e) → ((f : ℕ) → f < nf → fp' (r.face f) ≡ fp f) →
      (p : ℕ) → p < np →
      old_point m'.positions m'.points m'.edges m'.intervals ep' fp' (r.point p)
      ≡ old_point m.positions m.points m.edges m.intervals ep fp p

-- No face has the number of the none mark.
abbrev pub RulesFollow : Type 0
RulesFollow =
    (m : Mesh) (np ne nf : ℕ) (m' : Mesh) (np' ne' nf' : ℕ) → Audited m np ne nf → nf ≤ none → nf' ≤ none →
    (r : Renumbered m np ne nf m' np' ne' nf') → Followed r

abbrev pub NumberOf : {n n' : ℕ} → (ℕ → ℕ) → Bijection (Row n) (Row n') → Type 0
NumberOf {n} g b = (x : Row n) → g x.0 ≡ (b.to x).0

abbrev pub IsomorphismRenumbers : Type 0
IsomorphismRenumbers =
    (m : Mesh) (np ne nf : ℕ) (m' : Mesh) (np' ne' nf' : ℕ) (h : HoldsClosed m np ne nf) (h' : HoldsClosed m' np' ne' nf')
    (i : Isomorphism h.mesh h'.mesh) → Kept m m' i →
    (r : Renumbered m np ne nf m' np' ne' nf') × NumberOf r.point i.points × NumberOf r.edge i.edges × NumberOf r.face i.faces

-- Both meshes are audited, and no face of either has the number of the none mark.
pub record SameNew
    {m : Mesh} {np ne nf : ℕ} {m' : Mesh} {np' ne' nf' : ℕ} (h : HoldsClosed m np ne nf) (h' : HoldsClosed m' np' ne' nf')
    (i : Isomorphism h.mesh h'.mesh) : Type 0
  where
    pub face-points : (f : Row nf) → face_point_in m' ne' (i.faces.to f).0 ≡ face_point_in m ne f.0
    pub edge-points : (e : Row ne) → edge_point_in m' ne' (i.edges.to e).0 ≡ edge_point_in m ne e.0
    pub old-points : (ed : Edition) (p : Row np) → old_point_in ed m' ne' (i.points.to p).0 ≡ old_point_in ed m ne p.0
    pub face-finite : (f : Row nf) → finite_position (face_point_in m' ne' (i.faces.to f).0) ≡ finite_position (face_point_in m ne f.0)
    pub edge-finite : (e : Row ne) → finite_position (edge_point_in m' ne' (i.edges.to e).0) ≡ finite_position (edge_point_in m ne e.0)
    pub old-finite :
        (ed : Edition) (p : Row np) → finite_position (old_point_in ed m' ne' (i.points.to p).0) ≡ finite_position (old_point_in ed m ne p.0)

abbrev pub SamePositions : Type 0
SamePositions =
    (m : Mesh) (np ne nf : ℕ) (m' : Mesh) (np' ne' nf' : ℕ) (h : HoldsClosed m np ne nf) (h' : HoldsClosed m' np' ne' nf')
    (i : Isomorphism h.mesh h'.mesh) → Kept m m' i → nf ≤ none → nf' ≤ none → SameNew h h' i
