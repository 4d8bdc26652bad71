-- Walks about faces and points, over tables of any content. "A walk takes one step anticlockwise about a point or face until
-- it meets its start; a walk's answer also gives the number of edges passed" (document 01).
--     borders m f e            face f is on a side of edge e
--     touches m p e, Touches   point p is an end of edge e, as a test and as a proposition
--     acw_of_face m f e          the edge one step anticlockwise about face f from edge e, which borders it
--     cw_of_face m f e           the edge one step clockwise
--     acw_of_point m p e         the edge one step anticlockwise about point p from edge e, which touches it
--     first_point m f e         the point from which a walk about face f goes along e: the origin on the left side, the
--                              destination on the right
--     Walk                     back es: it met its start after the edges es; lost: it left the rows, lost its face or its
--                              point, or did not meet its start within its bound
--     edges_of w, passed w      the edges that a walk passed before it met its start, and their number; none if it is lost
--     walk step on s ..        the walk by one step, along edges that pass the test `on`, until it meets s
--     face_walk m ne f          the walk about face f from its start edge, along the edges below ne, of at most 64 edges
--     point_walk m ne k p       the walk about point p from its start edge, along the edges below ne, of at most k edges
use Rattle.std.specs.Prelude.{◌≡◌, Bool, true, false, ◌&&◌, ◌||◌, cond, List, [], ◌∷◌, ◌⊎◌, ℕ, zero, suc, eqb, ltb, length}
use Rattle.tables.specs.Layout.{longest_perimeter}
use Rattle.tables.specs.Mesh.{Mesh, origin, dest, left_face, right_face, left_cw, left_acw, right_cw, right_acw, start, face_start}

abbrev pub borders : Mesh → ℕ → ℕ → Bool
borders m f e = eqb (left_face m e) f || eqb (right_face m e) f

abbrev pub touches : Mesh → ℕ → ℕ → Bool
touches m p e = eqb (origin m e) p || eqb (dest m e) p

abbrev pub Touches : Mesh → ℕ → ℕ → Type 0
Touches m p e = (origin m e ≡ p) ⊎ (dest m e ≡ p)

-- LeftAcw on the left side, RightAcw on the right
abbrev pub acw_of_face : Mesh → ℕ → ℕ → ℕ
acw_of_face m f e = cond (eqb (left_face m e) f) (left_acw m e) (right_acw m e)

-- LeftCw on the left side, RightCw on the right
abbrev pub cw_of_face : Mesh → ℕ → ℕ → ℕ
cw_of_face m f e = cond (eqb (left_face m e) f) (left_cw m e) (right_cw m e)

-- LeftCw at the origin, RightCw at the destination
abbrev pub acw_of_point : Mesh → ℕ → ℕ → ℕ
acw_of_point m p e = cond (eqb (origin m e) p) (left_cw m e) (right_cw m e)

abbrev pub first_point : Mesh → ℕ → ℕ → ℕ
first_point m f e = cond (eqb (left_face m e) f) (origin m e) (dest m e)

pub data Walk : Type 0 where
  back : List ℕ → Walk
  lost : Walk

abbrev pub edges_of : Walk → List ℕ
edges_of (back es) = es
edges_of lost = []

abbrev pub passed : Walk → ℕ
passed w = length (edges_of w)

-- the walk that passes e first
abbrev pub pass : ℕ → Walk → Walk
pass e (back es) = back (e ∷ es)
pass e lost = lost

-- The rest of a walk that may still pass k edges and has come to e; `met` says whether the walk has met its start, `here`
-- whether e is an edge that it may pass.
unfoldable pub walk : (ℕ → ℕ) → (ℕ → Bool) → ℕ → ℕ → Bool → Bool → ℕ → Walk
walk step on s zero true here e = back []
walk step on s zero false here e = lost
walk step on s (suc k) true here e = back []
walk step on s (suc k) false false e = lost
walk step on s (suc k) false true e = pass e (walk step on s k (eqb (step e) s) (on (step e)) (step e))

unfoldable pub face_walk : Mesh → ℕ → ℕ → Walk
unfolding walk
face_walk m ne f =
    let on : ℕ → Bool = λ e. ltb e ne && borders m f e in
    walk (acw_of_face m f) on (face_start m f) longest_perimeter false (on (face_start m f)) (face_start m f)

unfoldable pub point_walk : Mesh → ℕ → ℕ → ℕ → Walk
unfolding walk
point_walk m ne k p =
    let on : ℕ → Bool = λ e. ltb e ne && touches m p e in
    walk (acw_of_point m p) on (start m p) k false (on (start m p)) (start m p)
