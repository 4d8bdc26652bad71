-- What the program `refine` writes for the bytes of a text (document 01, "Mesh text").
--     zero_tables              the tables that it lends, and its scratch: zeros, with rows for 256 points, 512 edges and 256 faces
--     output_bytes             how many bytes are lent for an output
--     place_line ps            where point 0 is, by the table of positions ps
--     ground_line ns           the line of a ground, by document 01's numbers of the answer
--     step_lines c a ps        the lines after a step of a mesh with the counts c, by its answer and the positions that it left
--     numbered_step c m        the step of the mesh with the counts c in the tables m, in the first edition, its faces visited in numbered order
--     output s                the whole output
--     OutputWritten           how many bytes are written, and the lent bytes afterwards
--     refine s out            the output at the front of the bytes out that are lent
use Rattle.std.specs.Prelude.{List, [], ◌∷◌, ◌++◌, ℕ, zero, suc, ◌*◌, length, replicate, Float, Result, Ok, Err}
use Rattle.std.proofs.lemmas.List.Edits.{sets}
use Rattle.std.specs.Float.Ieee.{of_bits, to_bits}
use Rattle.std.specs.Float.{binary64}
use Rattle.tables.specs.Layout.{position_width, point_width, edge_width, face_width}
use Rattle.tables.specs.Mesh.{Mesh, mesh_of}
use Rattle.tables.specs.Records.{position_at}
use Rattle.tables.specs.declared.Counts.{Counts}
use Rattle.building_tests.specs.declared.Bounds.TheVariants.{Refine}
use Rattle.text_meshes.specs.TextBuilding.{build_text}
use Rattle.text_meshes.specs.TextBuilding as text
use Rattle.text_meshes.specs.declared.TextRefusal.{TextRefusal}
use Rattle.text_meshes.specs.declared.TextRefusal.TheVariants.{NotText, Refused}
use Rattle.refined_meshes.specs.declared.Edition.TheVariants.{First}
use Rattle.steps.specs.Step.{step, StepOutcome}
use Rattle.steps.specs.Step as steps
use Rattle.steps.specs.declared.StepRefusal.{StepRefusal}
use Rattle.runs.specs.Runs.{numbered}
use Rattle.mesh_answers.specs.Lines.{mesh_line, step_line, at_line, refused_line}

abbrev pub output_bytes : ℕ
output_bytes = 256

unfoldable pub zero_tables : Mesh
zero_tables =
    mesh_of (replicate (256 * position_width) (of_bits binary64 0)) (replicate (256 * point_width) 0) (replicate (512 * edge_width) 0)
    (replicate 512 (of_bits binary64 0)) (replicate (256 * face_width) 0)

abbrev pub place_line : List Float → List ℕ
place_line ps =
    at_line (to_bits binary64 (position_at ps 0).x) (to_bits binary64 (position_at ps 0).y) (to_bits binary64 (position_at ps 0).z)

-- left out of a mesh with no points
abbrev pub point_lines : ℕ → List Float → List ℕ
point_lines zero ps = []
point_lines (suc n) ps = place_line ps

abbrev pub ground_line : List ℕ → List ℕ
ground_line [] = []
ground_line (g ∷ ns) = refused_line g

abbrev pub step_lines : Counts → Result Counts StepRefusal → List Float → List ℕ
step_lines c (Ok c') ps = step_line c'.points c'.edges c'.faces ++ point_lines c.points ps
step_lines c (Err g) ps = ground_line (steps.step_numbers (Err g))

abbrev pub lines_of : Counts → StepOutcome → List ℕ
lines_of c o = step_lines c o.answer o.tables.positions

unfoldable pub numbered_step : Counts → Mesh → StepOutcome
unfolding step numbered zero_tables
numbered_step c m = step First m c (numbered c.faces) zero_tables

-- by the answer of building, and the tables m that it left
unfoldable pub output_if : Result Counts TextRefusal → Mesh → List ℕ
unfolding numbered_step
output_if (Ok c) m = mesh_line c.points c.edges c.faces ++ lines_of c (numbered_step c m)
output_if (Err NotText) m = ground_line (text.text_numbers (Err NotText))
output_if (Err (Refused g)) m = ground_line (text.text_numbers (Err (Refused g)))

-- by the tables m
unfoldable pub output_from : List ℕ → Mesh → List ℕ
unfolding build_text output_if
output_from s m = let o = build_text Refine s m in output_if o.answer o.tables

unfoldable pub output : List ℕ → List ℕ
unfolding output_from zero_tables
output s = output_from s zero_tables

pub record OutputWritten : Type 0 where
  pub count : ℕ
  pub out : List ℕ

unfoldable pub refine : List ℕ → List ℕ → OutputWritten
unfolding output
refine s out = record { count = length (output s); out = sets out 0 (output s) }
