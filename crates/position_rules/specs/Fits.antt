-- What the rules ask of the tables so that every row that they read is there. All of it holds of a mesh that passes the audit.
--     EdgesFit es is ne        the edges below ne are there, and so are their neighbours
--     EdgeFits es is e         the edge e is one of such edges
--     BorderFits es is bs n    the n edges bs of a border are there, 3 to 64 of them
--     PointsFit ps bp n        the n + 4 points bp of a border are there
--     CornersTurn es pt bs n   about the point pt j between two edges of a border, a step clockwise goes to the next one, one anticlockwise back
--     FacePointFits            what the face point asks; MiddleFits, EdgePointFits, OldPointFits likewise
--     NewPointsFit             the places of the new points are there
--     PlacesFit, RadialFits    the edges about a point are there, the faces between them, and the new points of both
--     TurnsBack es p s         about p, from the edge s on, a step clockwise goes back to the edge before
use Rattle.std.specs.Prelude.{◌≡◌, List, ℕ, ◌+◌, ◌*◌, ◌≤◌, ◌<◌, get_or, length, Float}
use Rattle.t_spline.specs.declared.TnurccEdge.{TnurccEdge}
use Rattle.t_spline.specs.Edge.{common_face}
use Rattle.perimeters.specs.Places.{next_place}
use Rattle.tables.specs.Layout.{position_width, point_width, start_word, edge_width, face_width, first_corner_word, longest_perimeter}
use Rattle.tables.specs.Layout.{dest_word, left_face_word, right_face_word, left_cw_word, left_acw_word, right_cw_word, right_acw_word}
use Rattle.tables.specs.Records.{edge_at}
use Rattle.audited_meshes.specs.Walks.{back, face_walk, first_point}
use Rattle.tables.specs.Parts.{face_tables}
use Rattle.position_rules.specs.Intervals.{acw_about, cw_about}
use Rattle.position_rules.specs.OldPoint.{radial_edge}

pub record EdgesFit (es : List ℕ) (is : List Float) (ne : ℕ) : Type 0 where
  pub words : ne * edge_width ≤ length es
  pub numbers : ne ≤ length is
  pub left_cw-below : (e : ℕ) → e < ne → get_or es (e * edge_width + left_cw_word) 0 < ne
  pub left_acw-below : (e : ℕ) → e < ne → get_or es (e * edge_width + left_acw_word) 0 < ne
  pub right_cw-below : (e : ℕ) → e < ne → get_or es (e * edge_width + right_cw_word) 0 < ne
  pub right_acw-below : (e : ℕ) → e < ne → get_or es (e * edge_width + right_acw_word) 0 < ne

pub record EdgeFits (es : List ℕ) (is : List Float) (e : ℕ) : Type 0 where
  pub rows : ℕ
  pub fit : EdgesFit es is rows
  pub below : e < rows

-- the n edges bs of a border, 3 to 64 of them
pub record BorderFits (es : List ℕ) (is : List Float) (bs : List ℕ) (n : ℕ) : Type 0 where
  pub rows : ℕ
  pub fit : EdgesFit es is rows
  pub at-least-3 : 3 ≤ n
  pub at-most-64 : n ≤ longest_perimeter
  pub edges-below : (j : ℕ) → j < n → get_or bs j 0 < rows

-- the four neighbours of an edge have intervals
pub record NeighboursFit (is : List Float) (edge : TnurccEdge) : Type 0 where
  pub left_cw-there : get_or edge.connections 0 0 < length is
  pub left_acw-there : get_or edge.connections 1 0 < length is
  pub right_cw-there : get_or edge.connections 2 0 < length is
  pub right_acw-there : get_or edge.connections 3 0 < length is

-- the edge e and its ends
pub record MiddleFits (ps : List Float) (es : List ℕ) (is : List Float) (e : ℕ) : Type 0 where
  pub edge-fits : EdgeFits es is e
  pub origin-there : get_or es (e * edge_width) 0 * position_width + position_width ≤ length ps
  pub dest-there : get_or es (e * edge_width + dest_word) 0 * position_width + position_width ≤ length ps

-- the edge e, its ends, and the points of its two faces
pub record EdgePointFits (ps : List Float) (es : List ℕ) (is new : List Float) (fs' : List ℕ) (e : ℕ) : Type 0 where
  pub edge-fits : EdgeFits es is e
  pub origin-there : get_or es (e * edge_width) 0 * position_width + position_width ≤ length ps
  pub dest-there : get_or es (e * edge_width + dest_word) 0 * position_width + position_width ≤ length ps
  pub left-row : get_or es (e * edge_width + left_face_word) 0 * face_width + face_width ≤ length fs'
  pub left-place :
      get_or fs' (get_or es (e * edge_width + left_face_word) 0 * face_width + first_corner_word) 0 * position_width + position_width ≤ length new
  pub right-row : get_or es (e * edge_width + right_face_word) 0 * face_width + face_width ≤ length fs'
  pub right-place :
      get_or fs' (get_or es (e * edge_width + right_face_word) 0 * face_width + first_corner_word) 0 * position_width + position_width ≤ length new

-- the n + 4 points bp of a border, the first four again
pub record PointsFit (ps : List Float) (bp : List ℕ) (n : ℕ) : Type 0 where
  pub points-there : (j : ℕ) → j < n + 4 → get_or bp j 0 * position_width + position_width ≤ length ps

-- of the n edges bs of a border, pt j is the point between the one at the place j and the next
pub record CornersTurn (es : List ℕ) (pt : ℕ → ℕ) (bs : List ℕ) (n : ℕ) : Type 0 where
  pub goes_on : (j : ℕ) → j < n → cw_about es (pt j) (get_or bs j 0) ≡ get_or bs (next_place n j) 0
  pub goes_back : (j : ℕ) → j < n → acw_about es (pt j) (get_or bs (next_place n j) 0) ≡ get_or bs j 0

-- the face f, with the edges of its border, their ends and the points between them
pub record FacePointFits (ps : List Float) (es : List ℕ) (is : List Float) (fs : List ℕ) (ne f : ℕ) : Type 0 where
  pub fit : EdgesFit es is ne
  pub origin-there : (e : ℕ) → e < ne → get_or es (e * edge_width) 0 * position_width + position_width ≤ length ps
  pub dest-there : (e : ℕ) → e < ne → get_or es (e * edge_width + dest_word) 0 * position_width + position_width ≤ length ps
  pub face-there : f * face_width + face_width ≤ length fs
  pub border : List ℕ
  pub walked : face_walk (face_tables es fs) ne f ≡ back border
  pub at-least-3 : 3 ≤ length border
  pub at-most-64 : length border ≤ longest_perimeter
  pub edges-below : (j : ℕ) → j < length border → get_or border j 0 < ne
  pub corners :
      CornersTurn es (λ j. first_point (face_tables es fs) f (get_or border (next_place (length border) j) 0)) border (length border)

-- the places of the new points: of the edge point of each edge and of the face point of each face
pub record NewPointsFit (ne nf : ℕ) (new : List Float) (es' fs' : List ℕ) : Type 0 where
  pub edge_row : (e : ℕ) → e < ne → e * edge_width + edge_width ≤ length es'
  pub edge-place : (e : ℕ) → e < ne → get_or es' (e * edge_width + dest_word) 0 * position_width + position_width ≤ length new
  pub face-row : (f : ℕ) → f < nf → f * face_width + face_width ≤ length fs'
  pub face-place :
      (f : ℕ) → f < nf → get_or fs' (f * face_width + first_corner_word) 0 * position_width + position_width ≤ length new

-- with the edges about a point, and the face between two of them
pub record PlacesFit (es : List ℕ) (is : List Float) (ne nf : ℕ) (new : List Float) (es' fs' : List ℕ) : Type 0 where
  pub fit : EdgesFit es is ne
  pub new-fit : NewPointsFit ne nf new es' fs'
  pub common-below : (p r : ℕ) → r < ne → common_face (edge_at es is r) (edge_at es is (acw_about es p r)) < nf

-- the edge r is one of such edges
pub record RadialFits (es : List ℕ) (is : List Float) (r : ℕ) (new : List Float) (es' fs' : List ℕ) : Type 0 where
  pub edges : ℕ
  pub faces : ℕ
  pub fit : PlacesFit es is edges faces new es' fs'
  pub below : r < edges

-- about p, from the edge s on, a step clockwise from an edge goes back to the one before
pub record TurnsBack (es : List ℕ) (p s : ℕ) : Type 0 where
  pub goes_back : (i : ℕ) → cw_about es p (radial_edge es p s (i + 1)) ≡ radial_edge es p s i

-- the point p and its start edge
pub record OldPointFits (ps : List Float) (ws es : List ℕ) (is new : List Float) (es' fs' : List ℕ) (p : ℕ) : Type 0 where
  pub place-there : p * position_width + position_width ≤ length ps
  pub words-there : p * point_width + point_width ≤ length ws
  pub radial-fits : RadialFits es is (get_or ws (p * point_width + start_word) 0) new es' fs'
  pub turns-back : TurnsBack es p (get_or ws (p * point_width + start_word) 0)
