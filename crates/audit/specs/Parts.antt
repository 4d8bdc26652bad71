-- The tests of a mesh, put together from their parts (`audit_tests`, `audit_edges`, `face_rows`, `audit_faces`).
--     rows_fit ..              the tests of single rows
--     walks_fit ..             the sums and the walks
use Rattle.std.specs.Prelude.{Bool, ◌&&◌, List, [], ℕ, ◌*◌, eqb, Float}
use Rattle.closed_meshes.specs.Renumbering.{sum_to}
use Rattle.tables.specs.Mesh.{valence}
use Rattle.audited_meshes.specs.Folds.{every}
use Rattle.audited_meshes.specs.Walks.{face_walk, point_walk}
use Rattle.audited_meshes.specs.Quick.{point_fit, edge_fit, face_fit, face_back, point_back, one_edge}
use Rattle.tables.specs.Parts.{face_tables, point_tables, position_tables, edge_tables}
use Rattle.audit_tests.specs.Parts.{walk_fits, faces_walked}

unfoldable pub rows_fit : List Float → List ℕ → List ℕ → List Float → List ℕ → ℕ → ℕ → ℕ → Bool
unfolding every point_fit edge_fit face_fit
rows_fit xs ps es is fs np ne nf =
    every np (λ p. point_fit (position_tables xs ps) ne p) && every ne (λ e. edge_fit (edge_tables es is) np ne nf e)
    && every nf (λ f. face_fit (face_tables [] fs) np ne f)

unfoldable pub walks_fit : List ℕ → List ℕ → List ℕ → ℕ → ℕ → ℕ → Bool
unfolding every sum_to face_back face_walk point_back point_walk one_edge
walks_fit ps es fs np ne nf =
    eqb (sum_to np (λ p. valence (point_tables ps []) p)) (2 * ne) && faces_walked (face_tables es fs) ne nf (2 * ne)
    && every np (λ p. walk_fits (point_tables ps es) ne p) && every ne (λ e. one_edge (point_tables ps es) ne e)
