-- The audit: whether tables of any content, with the counts np, ne, nf of points, edges and faces, are a closed mesh. It is
-- document 01's paragraph "Audit", clause by clause in its order, as tests that compute.
--     edge_in_range                      the references of one edge are in range
--     in_range                          all references are in range
--     interval_fit                      a finite number with its sign bit clear
--     numbers_fit                       coordinates and intervals finite, intervals with sign bit clear
--     same_ends                         two edges join the same two points
--     edges_differ                      ends of an edge differ, its faces differ, no two edges join the same two points
--     acw_links                         an edge touches a point, borders a face and links back to e by its clockwise link there
--     cw_links                          an edge borders a face and links back to e by its anticlockwise link there
--     linked                           the four links of one edge
--     face_walked                       the clause on the walk about one face
--     point_walked                      the clause on the walk about one point
--     corners_fit                       a corner is a point number or the none mark
--     marks_fit                         a point's extraordinary mark is 0 or 1
--     audit                            all of it
use Rattle.std.specs.Prelude.{Bool, false, not, ◌&&◌, ◌||◌, map, ℕ, eqb, ltb, leb, length, Float}
use Rattle.std.specs.Float.{nan, inf, fin}
use Rattle.std.specs.Float.Ieee.Scale.{finite}
use Rattle.tables.specs.Layout.{position_width, point_width, edge_width, face_width, longest_perimeter}
use Rattle.tables.specs.Mesh.{Mesh, none, x, y, z, valence, start, mark, origin, dest, left_face, right_face, left_cw, left_acw, right_cw, right_acw, interval, face_start, corner}
use Rattle.tables.specs.Counted.{counts_of, rows_for}
use Rattle.audited_meshes.specs.Folds.{every, occurrences, distinct}
use Rattle.audited_meshes.specs.Walks.{Walk, back, lost, borders, touches, acw_of_face, cw_of_face, first_point, face_walk, point_walk}

unfoldable pub edge_in_range : Mesh → ℕ → ℕ → ℕ → ℕ → Bool
edge_in_range m np ne nf e =
    ltb (origin m e) np && ltb (dest m e) np && ltb (left_face m e) nf && ltb (right_face m e) nf
    && ltb (left_cw m e) ne && ltb (left_acw m e) ne && ltb (right_cw m e) ne && ltb (right_acw m e) ne

unfoldable pub in_range : Mesh → ℕ → ℕ → ℕ → Bool
unfolding every edge_in_range
in_range m np ne nf =
    every np (λ p. ltb (start m p) ne) && every ne (λ e. edge_in_range m np ne nf e) && every nf (λ f. ltb (face_start m f) ne)

abbrev pub interval_fit : Float → Bool
interval_fit nan = false
interval_fit (inf s) = false
interval_fit (fin s n k) = not s

unfoldable pub numbers_fit : Mesh → ℕ → ℕ → Bool
unfolding every
numbers_fit m np ne = every np (λ p. finite (x m p) && finite (y m p) && finite (z m p)) && every ne (λ e. interval_fit (interval m e))

-- in either direction
abbrev pub same_ends : Mesh → ℕ → ℕ → Bool
same_ends m e i =
    eqb (origin m e) (origin m i) && eqb (dest m e) (dest m i) || eqb (origin m e) (dest m i) && eqb (dest m e) (origin m i)

unfoldable pub edges_differ : Mesh → ℕ → Bool
unfolding every
edges_differ m ne =
    every ne (λ e. not (eqb (origin m e) (dest m e))) && every ne (λ e. not (eqb (left_face m e) (right_face m e)))
    && every ne (λ e. every e (λ i. not (same_ends m e i)))

abbrev pub acw_links : Mesh → ℕ → ℕ → ℕ → ℕ → Bool
acw_links m e p f a = touches m p a && borders m f a && eqb (cw_of_face m f a) e

abbrev pub cw_links : Mesh → ℕ → ℕ → ℕ → Bool
cw_links m e f c = borders m f c && eqb (acw_of_face m f c) e

-- LeftAcw at the far end and on the left face, RightAcw at the near end and on the right face; LeftCw and RightCw invert these
unfoldable pub linked : Mesh → ℕ → Bool
linked m e =
    acw_links m e (dest m e) (left_face m e) (left_acw m e) && acw_links m e (origin m e) (right_face m e) (right_acw m e)
    && cw_links m e (left_face m e) (left_cw m e) && cw_links m e (right_face m e) (right_cw m e)

-- each edge of the face once and no point twice, 3 to 64 edges
unfoldable pub face_walked : Mesh → ℕ → ℕ → Walk → Bool
unfolding every occurrences distinct
face_walked m ne f (back es) =
    every ne (λ e. not (borders m f e) || eqb (occurrences e es) 1) && distinct (map (first_point m f) es)
    && leb 3 (length es) && leb (length es) longest_perimeter
face_walked m ne f lost = false

-- each of its edges once, and their number, at least 2, is its valence
unfoldable pub point_walked : Mesh → ℕ → ℕ → Walk → Bool
unfolding every occurrences
point_walked m ne p (back es) =
    every ne (λ e. not (touches m p e) || eqb (occurrences e es) 1) && leb 2 (length es) && eqb (length es) (valence m p)
point_walked m ne p lost = false

unfoldable pub corners_fit : Mesh → ℕ → ℕ → Bool
unfolding every
corners_fit m np nf = every nf (λ f. every 4 (λ k. ltb (corner m f k) np || eqb (corner m f k) none))

unfoldable pub marks_fit : Mesh → ℕ → Bool
unfolding every
marks_fit m np = every np (λ p. eqb (mark m p) 0 || eqb (mark m p) 1)

-- a walk about a point that passes each of its edges once passes at most ne edges
unfoldable pub audit : Mesh → ℕ → ℕ → ℕ → Bool
unfolding rows_for in_range numbers_fit edges_differ every linked face_walked face_walk point_walked point_walk corners_fit marks_fit
audit m np ne nf =
    rows_for (counts_of np ne nf) m && in_range m np ne nf && numbers_fit m np ne && edges_differ m ne && every ne (λ e. linked m e)
    && every nf (λ f. face_walked m ne f (face_walk m ne f)) && every np (λ p. point_walked m ne p (point_walk m ne ne p))
    && corners_fit m np nf && marks_fit m np
