-- The audit as propositions: the clauses of document 01's paragraph "Audit", in its order.
--     Borders m f e                    face f is on a side of edge e
--     SameEnds m e i                   the edges e and i join the same two points, in either direction
--     Passes step On s e es            the walk from e passes the edges es in turn, each of which is On, and then meets s
--     EdgeInRange                      the references of one edge are in range
--     AcwLinks, CwLinks                what the anticlockwise and the clockwise links must do
--     FaceWalked, PointWalked          the clauses on the walk about one face, about one point
--     Audited m np ne nf               all of it
use Rattle.std.specs.Prelude.{◌≡◌, true, List, [], ◌∷◌, map, ◌⊎◌, ◌≢◌, ℕ, ◌≤◌, ◌<◌, length}
use Rattle.std.specs.Float.Ieee.Scale.{finite}
use Rattle.tables.specs.Layout.{longest_perimeter}
use Rattle.tables.specs.Mesh.{Mesh, none, x, y, z, valence, start, mark, origin, dest, left_face}
use Rattle.tables.specs.Mesh.{right_face, left_cw, left_acw, right_cw, right_acw, interval, face_start, corner, point_rows, edge_rows, face_rows}
use Rattle.audited_meshes.specs.Folds.{occurrences, Distinct}
use Rattle.audited_meshes.specs.Walks.{acw_of_face, cw_of_face, acw_of_point, first_point, Touches}
use Rattle.audited_meshes.specs.Audit.{interval_fit}

abbrev pub Borders : Mesh → ℕ → ℕ → Type 0
Borders m f e = (left_face m e ≡ f) ⊎ (right_face m e ≡ f)

abbrev pub SameEnds : Mesh → ℕ → ℕ → Type 0
SameEnds m e i = ((origin m e ≡ origin m i) × (dest m e ≡ dest m i)) ⊎ ((origin m e ≡ dest m i) × (dest m e ≡ origin m i))

pub data Passes (step : ℕ → ℕ) (On : ℕ → Type 0) (s : ℕ) : ℕ → List ℕ → Type 0 where
  last : {e : ℕ} → On e → step e ≡ s → Passes step On s e (e ∷ [])
  more : {e : ℕ} {es : List ℕ} → On e → step e ≢ s → Passes step On s (step e) es → Passes step On s e (e ∷ es)

pub record EdgeInRange (m : Mesh) (np ne nf e : ℕ) : Type 0 where
  pub origin-in-range : origin m e < np
  pub dest-in-range : dest m e < np
  pub left_face-in-range : left_face m e < nf
  pub right_face-in-range : right_face m e < nf
  pub left_cw-in-range : left_cw m e < ne
  pub left_acw-in-range : left_acw m e < ne
  pub right_cw-in-range : right_cw m e < ne
  pub right_acw-in-range : right_acw m e < ne

-- a touches the point p, borders the face f and links back to e by its clockwise link on that face's side
pub record AcwLinks (m : Mesh) (e p f a : ℕ) : Type 0 where
  pub touches-end : Touches m p a
  pub borders-face : Borders m f a
  pub links-back : cw_of_face m f a ≡ e

-- c borders the face f and links back to e by its anticlockwise link on that face's side
pub record CwLinks (m : Mesh) (e f c : ℕ) : Type 0 where
  pub borders-face : Borders m f c
  pub links-back : acw_of_face m f c ≡ e

pub record FaceWalked (m : Mesh) (ne f : ℕ) : Type 0 where
  pub edges : List ℕ
  pub passes : Passes (acw_of_face m f) (λ e. (e < ne) × Borders m f e) (face_start m f) (face_start m f) edges
  pub each-once : (e : ℕ) → e < ne → Borders m f e → occurrences e edges ≡ 1
  pub no-point-twice : Distinct (map (first_point m f) edges)
  pub at-least-3 : 3 ≤ length edges
  pub at-most-64 : length edges ≤ longest_perimeter

pub record PointWalked (m : Mesh) (ne p : ℕ) : Type 0 where
  pub edges : List ℕ
  pub passes : Passes (acw_of_point m p) (λ e. (e < ne) × Touches m p e) (start m p) (start m p) edges
  pub each-once : (e : ℕ) → e < ne → Touches m p e → occurrences e edges ≡ 1
  pub at-least-2 : 2 ≤ length edges
  pub is-valence : length edges ≡ valence m p

pub record Audited (m : Mesh) (np ne nf : ℕ) : Type 0 where
  -- Counts fit the lent rows.
  pub points-fit : np ≤ point_rows m
  pub edges_fit : ne ≤ edge_rows m
  pub faces-fit : nf ≤ face_rows m
  -- All references are in range.
  pub start-in-range : (p : ℕ) → p < np → start m p < ne
  pub edge-in-range : (e : ℕ) → e < ne → EdgeInRange m np ne nf e
  pub face_start-in-range : (f : ℕ) → f < nf → face_start m f < ne
  -- Coordinates and intervals are finite, intervals with sign bit clear.
  pub x-finite : (p : ℕ) → p < np → finite (x m p) ≡ true
  pub y-finite : (p : ℕ) → p < np → finite (y m p) ≡ true
  pub z-finite : (p : ℕ) → p < np → finite (z m p) ≡ true
  pub interval-fit : (e : ℕ) → e < ne → interval_fit (interval m e) ≡ true
  -- Ends of an edge differ, its faces differ, no two edges join the same two points.
  pub ends-differ : (e : ℕ) → e < ne → origin m e ≢ dest m e
  pub sides-differ : (e : ℕ) → e < ne → left_face m e ≢ right_face m e
  pub one-edge : (e i : ℕ) → e < ne → i < ne → SameEnds m e i → e ≡ i
  -- LeftAcw touches the far end, borders the left face and links back; RightAcw likewise at the near end and right face;
  -- LeftCw and RightCw invert these.
  pub left-acw : (e : ℕ) → e < ne → AcwLinks m e (dest m e) (left_face m e) (left_acw m e)
  pub right-acw : (e : ℕ) → e < ne → AcwLinks m e (origin m e) (right_face m e) (right_acw m e)
  pub left-cw : (e : ℕ) → e < ne → CwLinks m e (left_face m e) (left_cw m e)
  pub right-cw : (e : ℕ) → e < ne → CwLinks m e (right_face m e) (right_cw m e)
  -- The walks about faces and points.
  pub face-walked : (f : ℕ) → f < nf → FaceWalked m ne f
  pub point-walked : (p : ℕ) → p < np → PointWalked m ne p
  -- A corner is a point number or the none mark, a mark is 0 or 1.
  pub corner-fit : (f k : ℕ) → f < nf → k < 4 → (corner m f k < np) ⊎ (corner m f k ≡ none)
  pub mark-fit : (p : ℕ) → p < np → (mark m p ≡ 0) ⊎ (mark m p ≡ 1)
