-- Building: every set of lists becomes a mesh in the lent tables, or meets the first ground that holds.
--     face_passed, faces_from   one face with its tests, and k faces from face f on
--     all_faces l m            all faces, from tables whose counted rows are zero
--     BuildOutcome            the answer, and the tables afterwards
--     build c l m             building from the lists l in the lent tables m, within the limits c
-- Grounds 2 to 4 leave the tables as they are, the others leave the counted rows zero; rows beyond are never touched.
use Rattle.std.specs.Prelude.{Bool, true, false, ℕ, zero, suc, ◌+◌, Result, Ok, Err, ⊤}
use Rattle.tables.specs.declared.Counts.{Counts}
use Rattle.tables.specs.Mesh.{Mesh}
use Rattle.tables.specs.Counted.{rows_for, zeroed_rows}
use Rattle.built_meshes.specs.Lists.{Lists, points_of, faces_of, rows_of, size, counts_fit, listed_fit}
use Rattle.tables.specs.declared.Sizes.{Sizes}
use Rattle.built_meshes.specs.Faces.{face_verdict}
use Rattle.built_meshes.specs.Perimeters.{BuildState, Progress, on, stopped, perimeter}
use Rattle.built_meshes.specs.Whole.{whole_verdict, finished}
use Rattle.built_meshes.specs.declared.Ground.{Ground}
use Rattle.built_meshes.specs.declared.Ground.TheVariants.{OverCounts, UnfitNumber, FewRows}

-- ---- the faces

unfoldable pub face_if : Lists → ℕ → ℕ → BuildState → Result ⊤ Ground → Progress BuildState
unfolding perimeter
face_if l f a s (Ok tt) = perimeter l f a s
face_if l f a s (Err g) = stopped g s.mesh

-- face f, whose listed points stand from a on
unfoldable pub face_passed : Lists → ℕ → ℕ → BuildState → Progress BuildState
unfolding face_if face_verdict
face_passed l f a s = face_if l f a s (face_verdict l (points_of l) f a)

unfoldable pub faces_from : ℕ → Lists → ℕ → ℕ → Progress BuildState → Progress BuildState
unfolding face_passed
faces_from zero l f a r = r
faces_from (suc k) l f a (on s) = faces_from k l (suc f) (a + size l f) (face_passed l f a s)
faces_from (suc k) l f a (stopped g m) = stopped g m

pub record BuildOutcome : Type 0 where
  pub answer : Result Counts Ground
  pub tables : Mesh

abbrev pub build_refusal : Ground → Mesh → BuildOutcome
build_refusal g m = record { answer = Err g; tables = m }

-- what is answered of the state s in which all faces stand
unfoldable pub whole_if : Lists → Mesh → BuildState → Result ⊤ Ground → BuildOutcome
unfolding zeroed_rows finished
whole_if l m s (Ok tt) =
    record { answer = Ok (record { points = points_of l; edges = s.edges; faces = faces_of l }); tables = finished l s.mesh }
whole_if l m s (Err g) = build_refusal g (zeroed_rows (rows_of l) m)

unfoldable pub answered : Lists → Mesh → Progress BuildState → BuildOutcome
unfolding zeroed_rows whole_if whole_verdict
answered l m (on s) = whole_if l m s (whole_verdict s.mesh (points_of l) s.edges)
answered l m (stopped g t) = build_refusal g (zeroed_rows (rows_of l) m)

unfoldable pub all_faces : Lists → Mesh → Progress BuildState
unfolding faces_from zeroed_rows
all_faces l m = faces_from (faces_of l) l 0 0 (on (record { mesh = zeroed_rows (rows_of l) m; edges = 0 }))

unfoldable pub build_if : Bool → Bool → Bool → Lists → Mesh → BuildOutcome
unfolding answered all_faces
build_if false numbers rows l m = build_refusal OverCounts m
build_if true false rows l m = build_refusal UnfitNumber m
build_if true true false l m = build_refusal FewRows m
build_if true true true l m = answered l m (all_faces l m)

unfoldable pub build : Sizes → Lists → Mesh → BuildOutcome
unfolding counts_fit listed_fit rows_for build_if
build c l m = build_if (counts_fit c l) (listed_fit l) (rows_for (rows_of l) m) l m
