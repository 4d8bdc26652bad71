-- The positions of the points after a step, put into their rows once all faces are visited: the face points, then what weighs for the
-- edges at old points, then the old points, each kind in number order. In the first edition edge points weigh; in the second m does, and
-- the edge points are put over it at the end. Here m is the mesh before the step, and s the scratch tables after the visits.
--     face_point_row s f, edge_point_row s e   the row of the face point of f, of the edge point of e
--     Placing                              the table of new positions so far, or the word that one was not finite
--     put p a ps                           what a rule answered, put into row p of the table ps
--     placed_by n row rule r                the positions rule 0, rule 1, .., rule (n - 1) put into row 0, row 1, ..; each rule reads
--                                          the table that the one before left, and the first that is not finite ends it
--     face_point_rule weighted_rule old_point_rule      the rules, over the table of new positions so far
--     placed_over ed m c s r                the edge points put over what weighed for the edges
--     placed_all ed m c s ps                all of it, begun with the table ps
use Rattle.std.specs.Prelude.{List, [], ◌∷◌, ℕ, zero, suc, ◌+◌, ◌*◌, get_or, Float}
use Rattle.positions.specs.declared.Position.{Position}
use Rattle.positions.specs.declared.Placed.{Placed}
use Rattle.positions.specs.declared.Placed.TheVariants.{At, NotFinite}
use Rattle.positions.specs.Position.{placed_at}
use Rattle.tables.specs.Layout.{position_width, edge_width, dest_word, face_width, first_corner_word}
use Rattle.tables.specs.Mesh.{Mesh}
use Rattle.tables.specs.Rows.{put_row}
use Rattle.tables.specs.declared.Counts.{Counts}
use Rattle.refined_meshes.specs.declared.Edition.{Edition}
use Rattle.refined_meshes.specs.declared.Edition.TheVariants.{First, Second}
use Rattle.refined_meshes.specs.State.{State}
use Rattle.position_rules.specs.FacePoint.{face_point_in}
use Rattle.position_rules.specs.EdgePoint.{weighted_point}
use Rattle.position_rules.specs.OldPoint.{old_point}
use Rattle.position_rules.specs.Places.{edge_point_at, face_point_at}

-- corner 0 of the new face in row f
abbrev pub face_point_row : State → ℕ → ℕ
face_point_row s f = get_or s.faces (f * face_width + first_corner_word) 0

-- the destination of the origin half in row e
abbrev pub edge_point_row : State → ℕ → ℕ
edge_point_row s e = get_or s.edges (e * edge_width + dest_word) 0

pub data Placing : Type 0 where
  so_far : List Float → Placing
  not_finite : Placing

abbrev pub put : ℕ → Placed → List Float → Placing
put p (At x y z) ps = so_far (put_row ps (p * position_width) (x ∷ y ∷ z ∷ []))
put p NotFinite ps = not_finite

abbrev pub put_next : ℕ → (List Float → Position) → Placing → Placing
put_next p rule (so_far ps) = put p (placed_at (rule ps)) ps
put_next p rule not_finite = not_finite

unfoldable pub placed_by : ℕ → (ℕ → ℕ) → (ℕ → List Float → Position) → Placing → Placing
placed_by zero row rule r = r
placed_by (suc n) row rule r = put_next (row n) (rule n) (placed_by n row rule r)

-- read from the mesh alone
abbrev pub face_point_rule : Mesh → Counts → ℕ → List Float → Position
face_point_rule m c f ps = face_point_in m c.edges f

-- read from the mesh and the face points: in the first edition the edge point
abbrev pub weighted_rule : Edition → Mesh → State → ℕ → List Float → Position
weighted_rule ed m s e ps = weighted_point ed m.positions m.edges m.intervals (face_point_at ps s.faces) e

-- read from the mesh, what weighs for the edges, and the face points
abbrev pub old_point_rule : Mesh → State → ℕ → List Float → Position
old_point_rule m s p ps =
    old_point m.positions m.points m.edges m.intervals (edge_point_at ps s.edges) (face_point_at ps s.faces) p

abbrev pub placed_over : Edition → Mesh → Counts → State → Placing → Placing
placed_over First m c s r = r
placed_over Second m c s r = placed_by c.edges (edge_point_row s) (weighted_rule First m s) r

unfoldable pub placed_all : Edition → Mesh → Counts → State → List Float → Placing
unfolding placed_by
placed_all ed m c s ps =
    placed_over ed m c s
    (placed_by c.points (λ p. p) (old_point_rule m s)
    (placed_by c.edges (edge_point_row s) (weighted_rule ed m s) (placed_by c.faces (face_point_row s) (face_point_rule m c) (so_far ps))))
