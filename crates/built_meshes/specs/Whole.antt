-- What is asked and done when all faces stand: grounds 20, 21 and 22, then positions and marks.
--     no_missing_face           every edge has a face on its right: else ground 20
--     every_edged              every point has an edge: else 21
--     no_missed_edge            no walk about a point, from its start edge, passes fewer edges than its valence: else 22
--     whole_verdict m np ne    the first of these grounds that holds of the tables
--     marked k ws             the table of points with the first k points marked: 1 if the valence is not 4
--     finished l m            the tables when all is built
use Rattle.std.specs.Prelude.{Bool, not, cond, List, ℕ, zero, suc, ◌+◌, ◌*◌, eqb, ltb, get_or, set, Result, Ok, Err, ⊤}
use Rattle.built_meshes.specs.declared.Ground.{Ground}
use Rattle.tables.specs.Layout.{position_width, point_width, mark_word}
use Rattle.tables.specs.Mesh.{Mesh, none, valence, right_face, mesh_of}
use Rattle.tables.specs.Rows.{over}
use Rattle.audited_meshes.specs.Folds.{every}
use Rattle.audited_meshes.specs.Walks.{passed, point_walk}
use Rattle.built_meshes.specs.Lists.{Lists, points_of}
use Rattle.built_meshes.specs.declared.Ground.TheVariants.{MissingFace, NoEdge, MissedEdge}

unfoldable pub no_missing_face : Mesh → ℕ → Bool
unfolding every
no_missing_face m ne = every ne (λ e. not (eqb (right_face m e) none))

unfoldable pub every_edged : Mesh → ℕ → Bool
unfolding every
every_edged m np = every np (λ p. not (eqb (valence m p) 0))

unfoldable pub no_missed_edge : Mesh → ℕ → ℕ → Bool
unfolding every point_walk
no_missed_edge m np ne = every np (λ p. not (ltb (passed (point_walk m ne (valence m p) p)) (valence m p)))

unfoldable pub whole_verdict : Mesh → ℕ → ℕ → Result ⊤ Ground
unfolding no_missing_face every_edged no_missed_edge
whole_verdict m np ne =
    cond (not (no_missing_face m ne)) (Err MissingFace)
    (cond (not (every_edged m np)) (Err NoEdge)
    (cond (not (no_missed_edge m np ne)) (Err MissedEdge) (Ok tt)))

abbrev pub mark_of : ℕ → ℕ
mark_of v = cond (eqb v 4) 0 1

unfoldable pub marked : ℕ → List ℕ → List ℕ
marked zero ws = ws
marked (suc k) ws = let before = marked k ws in set before (k * point_width + mark_word) (mark_of (get_or before (k * point_width) 0))

unfoldable pub finished : Lists → Mesh → Mesh
unfolding marked over
finished l m =
    mesh_of (over (points_of l * position_width) l.coordinates m.positions) (marked (points_of l) m.points) m.edges m.intervals m.faces
