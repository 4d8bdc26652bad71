-- The starred pieces of document 01: lists to build from, whether they are refined too, and the numbers that must be answered.
--     Piece                  one of them
--     answers x              what building answers, and what the step in numbered order answers where the piece asks for it
--     pieces                 their list, in document 01's order
--     AsFiled                every piece is answered as document 01 says
-- A piece that passes a ground is accepted. All intervals are 1 where nothing else is said.
use Rattle.std.specs.Prelude.{◌≡◌, List, [], ◌∷◌, ◌++◌, map, ℕ, ◌*◌, replicate, Result, Ok, Err}
use Rattle.built_meshes.specs.declared.Ground.{Ground}
use Rattle.tables.specs.Layout.{position_width, point_width, edge_width, face_width}
use Rattle.tables.specs.Mesh.{Mesh, mesh_of}
use Rattle.tables.specs.declared.Counts.{Counts}
use Rattle.built_meshes.specs.Lists.{Lists, general_limits, rows_of}
use Rattle.built_meshes.specs.Answers.{built_numbers}
use Rattle.built_meshes.specs.Building.{BuildOutcome, build}
use Rattle.building_claims.specs.Pieces.{unit, two, nought, tiny, above_tiny, cube, back_to_back, even}
use Rattle.built_meshes.specs.declared.Version.TheVariants.{One}
use Rattle.refined_meshes.specs.declared.Edition.TheVariants.{First}
use Rattle.steps.specs.Step.{step_numbers, refined_counts, step}
use Rattle.runs.specs.Runs.{numbered}

-- ---- pieces

pub data Asked : Type 0 where
  to_build : Asked
  to_refine : Asked

pub record Piece : Type 0 where
  pub lists : Lists
  pub asked : Asked
  pub expected : List (List ℕ)

-- tables of so many rows, all words 7, all numbers 2
abbrev pub used : Counts → Mesh
used c =
    mesh_of (replicate (c.points * position_width) two) (replicate (c.points * point_width) 7) (replicate (c.edges * edge_width) 7)
    (replicate c.edges two) (replicate (c.faces * face_width) 7)

abbrev pub step_answers : BuildOutcome → Mesh → List (List ℕ)
step_answers o t = stepped_if o.answer o.tables t
  where
    stepped_if : Result Counts Ground → Mesh → Mesh → List (List ℕ)
    stepped_if (Ok c) m t = built_numbers (Ok c) ∷ step_numbers (step First m c (numbered c.faces) t).answer ∷ []
    stepped_if (Err g) m t = built_numbers (Err g) ∷ []

-- The rows that ground 4 counts are twice the edges of an accepted mesh, so that a step from as many has room too.
unfoldable pub answers_to : Asked → Lists → List (List ℕ)
answers_to to_build l = built_numbers (build general_limits l (used (rows_of l))).answer ∷ []
answers_to to_refine l = step_answers (build general_limits l (used (refined_counts (rows_of l)))) (used (refined_counts (rows_of l)))

abbrev pub answers : Piece → List (List ℕ)
answers x = answers_to x.asked x.lists

abbrev pub build_piece : Lists → List ℕ → Piece
build_piece l ns = record { lists = l; asked = to_build; expected = ns ∷ [] }

abbrev pub refine_piece : Lists → List ℕ → List ℕ → Piece
refine_piece l ns ks = record { lists = l; asked = to_refine; expected = ns ∷ ks ∷ [] }

-- two triangles, side sums 1, 1, 2, 0 each
abbrev pub triangles : Lists
triangles = back_to_back 3 (1 ∷ 1 ∷ 1 ∷ 0 ∷ []) (unit ∷ unit ∷ two ∷ [])

abbrev pub cube_of_noughts : Lists
cube_of_noughts =
    record {
      version = cube.version;
      coordinates = cube.coordinates;
      sides = cube.sides;
      firsts = cube.firsts;
      listed = cube.listed;
      intervals = replicate 24 nought;
    }

unfoldable pub pieces : List Piece
pieces =
    -- no points, no faces: accepted
    build_piece (record { version = One; coordinates = []; sides = []; firsts = []; listed = []; intervals = [] }) (0 ∷ 0 ∷ 0 ∷ [])
    -- n = 2: 10
    ∷ build_piece (back_to_back 2 (1 ∷ 0 ∷ 1 ∷ 0 ∷ []) (unit ∷ unit ∷ [])) (10 ∷ [])
    -- n = 3 and 64: pass
    ∷ build_piece triangles (3 ∷ 3 ∷ 2 ∷ [])
    ∷ build_piece (even 32) (64 ∷ 64 ∷ 2 ∷ [])
    -- 65: 10
    ∷ build_piece (back_to_back 65 (33 ∷ 0 ∷ 32 ∷ 0 ∷ []) (nought ∷ replicate 64 unit)) (10 ∷ [])
    -- sums 1, 2, 2, 1 pass 13
    ∷ build_piece (back_to_back 4 (1 ∷ 1 ∷ 1 ∷ 1 ∷ []) (unit ∷ two ∷ two ∷ unit ∷ [])) (4 ∷ 4 ∷ 2 ∷ [])
    -- sums t, 0, 0, 0 pass
    ∷ build_piece (back_to_back 4 (1 ∷ 1 ∷ 1 ∷ 1 ∷ []) (tiny ∷ nought ∷ nought ∷ nought ∷ [])) (4 ∷ 4 ∷ 2 ∷ [])
    -- the next binary64 above t: 13
    ∷ build_piece (back_to_back 4 (1 ∷ 1 ∷ 1 ∷ 1 ∷ []) (above_tiny ∷ nought ∷ nought ∷ nought ∷ [])) (13 ∷ [])
    -- two triangles back to back: 3, 3, 2 become 8, 12, 6
    ∷ refine_piece triangles (3 ∷ 3 ∷ 2 ∷ []) (8 ∷ 12 ∷ 6 ∷ [])
    -- the cube's counts
    ∷ refine_piece cube (8 ∷ 12 ∷ 6 ∷ []) (26 ∷ 48 ∷ 24 ∷ [])
    -- the cube with all intervals 0: 33
    ∷ refine_piece cube_of_noughts (8 ∷ 12 ∷ 6 ∷ []) (33 ∷ [])
    ∷ []

abbrev pub AsFiled : Type 0
AsFiled = map answers pieces ≡ map (λ x. x.expected) pieces
