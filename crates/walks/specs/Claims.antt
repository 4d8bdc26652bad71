-- What is proved of walks, as types.
--     perimeter_size m ne f     how many edges below ne border face f
--     CountIsPerimeter         on an audited mesh the walk about a face passes as many edges as border it
--     CountIsValence           on an audited mesh the walk about a point, of at least as many edges, passes its valence
--     first_passing test es     the first of the edges es that passes the test
--     FirstFound               along a walk that comes back, the edge to a neighbour is the first of its edges that touches it
use Rattle.std.specs.Prelude.{◌≡◌, Bool, List, [], ◌∷◌, ℕ, ◌≤◌, ◌<◌, Option, Some, None}
use Rattle.tables.specs.Mesh.{Mesh, valence}
use Rattle.closed_meshes.specs.Renumbering.{sum_to}
use Rattle.audited_meshes.specs.Folds.{one_if}
use Rattle.audited_meshes.specs.Walks.{back, borders, touches, face_walk, point_walk}
use Rattle.audited_meshes.specs.Audited.{Audited}
use Rattle.walks.specs.Steps.{passed_by}
use Rattle.walks.specs.Neighbour.{found_if, edge_to_point}

unfoldable pub perimeter_size : Mesh → ℕ → ℕ → ℕ
unfolding sum_to
perimeter_size m ne f = sum_to ne (λ e. one_if (borders m f e))

abbrev pub CountIsPerimeter : Type 0
CountIsPerimeter = (m : Mesh) (np ne nf f : ℕ) → Audited m np ne nf → f < nf → passed_by (face_walk m ne f) ≡ Some (perimeter_size m ne f)

abbrev pub CountIsValence : Type 0
CountIsValence =
    (m : Mesh) (np ne nf k p : ℕ) → Audited m np ne nf → p < np → valence m p ≤ k → passed_by (point_walk m ne k p) ≡ Some (valence m p)

abbrev pub first_passing : (ℕ → Bool) → List ℕ → Option ℕ
first_passing test [] = None
first_passing test (e ∷ es) = found_if (test e) e (first_passing test es)

abbrev pub FirstFound : Type 0
FirstFound =
    (m : Mesh) (ne k p q : ℕ) (es : List ℕ) → point_walk m ne k p ≡ back es → edge_to_point m ne k p q ≡ first_passing (touches m q) es
