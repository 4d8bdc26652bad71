-- The parts of the quick test, each over the tables that it looks at.
--     walk_fits m ne p         the walk about point p comes back after its valence
--     new_among ps n q         q stands at none of the first n places of ps
--     differ_at ks i j         other numbers stand at the places i and j
--     face_size m ne f         how many edges the walk about face f passes, if it comes back after at least 3 and passes no point
--                             twice
--     faces_walked m ne nf t   the walks about the first nf faces come back so, and their lengths add up to t
use Rattle.std.specs.Prelude.{Option, Some, None, Bool, not, ◌&&◌, cond, List, ℕ, eqb, get_or}
use Rattle.closed_meshes.specs.Renumbering.{sum_to}
use Rattle.tables.specs.Mesh.{Mesh, valence}
use Rattle.audited_meshes.specs.Folds.{every}
use Rattle.audited_meshes.specs.Walks.{passed, face_walk, point_walk}
use Rattle.audited_meshes.specs.Quick.{face_back, point_back}

abbrev pub walk_fits : Mesh → ℕ → ℕ → Bool
walk_fits m ne p = point_back (valence m p) (point_walk m ne (valence m p) p)

abbrev pub new_among : List ℕ → ℕ → ℕ → Bool
new_among ps n q = every n (λ a. not (eqb (get_or ps a 0) q))

abbrev pub differ_at : List ℕ → ℕ → ℕ → Bool
differ_at ks i j = not (eqb (get_or ks i 0) (get_or ks j 0))

abbrev pub face_size : Mesh → ℕ → ℕ → Option ℕ
face_size m ne f = cond (face_back m f (face_walk m ne f)) (Some (passed (face_walk m ne f))) None

abbrev pub faces_walked : Mesh → ℕ → ℕ → ℕ → Bool
faces_walked m ne nf t = every nf (λ f. face_back m f (face_walk m ne f)) && eqb (sum_to nf (λ f. passed (face_walk m ne f))) t
