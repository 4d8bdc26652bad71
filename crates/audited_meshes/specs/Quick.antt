-- The audit in the form that code makes it: near linear in the mesh, with no memory but locals.
--     point_fit edge_fit face_fit     the tests of one row
--     face_back w                   the walk about a face came back after at least 3 edges, and passed no point twice
--     point_back v w                the walk about a point came back after v edges
--     alone m ne e p q ..          no edge among the next k about point p joins p and q, but for e
--     one_edge m ne e               no other edge joins the two ends of e, seen from the end of smaller valence
--     quick m np ne nf             the whole test
-- The sizes of all faces add up to 2 ne, and so do the valences: each walk passes each edge at most once, so this says that
-- each passes all of its edges. The valences are added up first, which bounds all the walks about points together.
use Rattle.std.specs.Prelude.{Bool, true, false, not, ◌&&◌, ◌||◌, cond, map, ℕ, zero, suc, ◌*◌, eqb, ltb, leb, length}
use Rattle.std.specs.Float.Ieee.Scale.{finite}
use Rattle.tables.specs.Mesh.{Mesh, none, x, y, z, valence, start, mark, origin, dest, left_face, right_face, interval, face_start, corner}
use Rattle.tables.specs.Counted.{counts_of, rows_for}
use Rattle.closed_meshes.specs.Renumbering.{sum_to}
use Rattle.audited_meshes.specs.Folds.{every, distinct}
use Rattle.audited_meshes.specs.Walks.{Walk, back, lost, passed, touches, acw_of_point, first_point, face_walk, point_walk}
use Rattle.audited_meshes.specs.Audit.{edge_in_range, interval_fit, linked}

unfoldable pub point_fit : Mesh → ℕ → ℕ → Bool
point_fit m ne p =
    ltb (start m p) ne && (finite (x m p) && finite (y m p) && finite (z m p)) && leb 2 (valence m p)
    && (eqb (mark m p) 0 || eqb (mark m p) 1)

unfoldable pub edge_fit : Mesh → ℕ → ℕ → ℕ → ℕ → Bool
unfolding edge_in_range linked
edge_fit m np ne nf e =
    edge_in_range m np ne nf e && interval_fit (interval m e) && not (eqb (origin m e) (dest m e))
    && not (eqb (left_face m e) (right_face m e)) && linked m e

unfoldable pub face_fit : Mesh → ℕ → ℕ → ℕ → Bool
unfolding every
face_fit m np ne f = ltb (face_start m f) ne && every 4 (λ k. ltb (corner m f k) np || eqb (corner m f k) none)

unfoldable pub face_back : Mesh → ℕ → Walk → Bool
unfolding distinct
face_back m f (back es) = leb 3 (length es) && distinct (map (first_point m f) es)
face_back m f lost = false

unfoldable pub point_back : ℕ → Walk → Bool
point_back v (back es) = eqb (length es) v
point_back v lost = false

-- i is an edge below ne, and e itself or no edge at q
abbrev pub free : Mesh → ℕ → ℕ → ℕ → ℕ → Bool
free m ne e q i = ltb i ne && (eqb i e || not (touches m q i))

-- the rest of the test, with k edges to go and the walk at i; `ok` says whether i is free
unfoldable pub alone : Mesh → ℕ → ℕ → ℕ → ℕ → ℕ → Bool → ℕ → Bool
alone m ne e p q zero ok i = true
alone m ne e p q (suc k) false i = false
alone m ne e p q (suc k) true i = alone m ne e p q k (free m ne e q (acw_of_point m p i)) (acw_of_point m p i)

-- the test about all edges of p
unfoldable pub alone_at : Mesh → ℕ → ℕ → ℕ → ℕ → Bool
unfolding alone
alone_at m ne e p q = alone m ne e p q (valence m p) (free m ne e q (start m p)) (start m p)

unfoldable pub one_edge : Mesh → ℕ → ℕ → Bool
unfolding alone_at
one_edge m ne e =
    cond (leb (valence m (origin m e)) (valence m (dest m e))) (alone_at m ne e (origin m e) (dest m e)) (alone_at m ne e (dest m e) (origin m e))

unfoldable pub quick : Mesh → ℕ → ℕ → ℕ → Bool
unfolding rows_for every sum_to point_fit edge_fit face_fit face_back face_walk point_back point_walk one_edge
quick m np ne nf =
    rows_for (counts_of np ne nf) m && every np (λ p. point_fit m ne p) && every ne (λ e. edge_fit m np ne nf e) && every nf (λ f. face_fit m np ne f)
    && eqb (sum_to np (λ p. valence m p)) (2 * ne)
    && every nf (λ f. face_back m f (face_walk m ne f)) && eqb (sum_to nf (λ f. passed (face_walk m ne f))) (2 * ne)
    && every np (λ p. point_back (valence m p) (point_walk m ne (valence m p) p))
    && every ne (λ e. one_edge m ne e)
