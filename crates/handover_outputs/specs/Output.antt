-- What the program `handover` writes for the bytes of a text (document 02, §1), in the tables and within the limits of `refine`.
--     listed_bytes a l         what is written for the listing l, by the answer of writing it
--     listed m c out          what is written to the lent bytes out for a mesh in the tables m with the counts c
--     stepped_bytes a m out    the same after a step, by its answer and the tables m that it left
--     handover_from s m out    what is written for the text s, by the tables m
--     handover_output s out    the whole output
--     writing_if fits xs out   the bytes xs at the front of the bytes out, if these are enough; else nothing is written
--     handover s out          the output at the front of the bytes that are lent; nothing where these are fewer than output_bytes
use Rattle.std.specs.Prelude.{Bool, true, false, List, ℕ, leb, length, Result, Ok, Err}
use Rattle.std.proofs.lemmas.List.Edits.{sets}
use Rattle.tables.specs.Mesh.{Mesh}
use Rattle.tables.specs.declared.Counts.{Counts}
use Rattle.building_tests.specs.declared.Bounds.TheVariants.{Refine}
use Rattle.text_meshes.specs.TextBuilding.{text_numbers, build_text}
use Rattle.text_meshes.specs.declared.TextRefusal.{TextRefusal}
use Rattle.text_meshes.specs.declared.TextRefusal.TheVariants.{NotText, Refused}
use Rattle.steps.specs.Step.{step_numbers, StepOutcome}
use Rattle.steps.specs.declared.StepRefusal.{StepRefusal}
use Rattle.mesh_answers.specs.Lines.{refused_line}
use Rattle.listings.specs.Handing.{listing_of, write_listing, writing_number}
use Rattle.listings.specs.declared.WritingRefusal.{WritingRefusal}
use Rattle.refine_outputs.specs.Output.{output_bytes, zero_tables, ground_line, numbered_step}
use Rattle.refine_outputs.specs.Output as refine

abbrev pub listed_bytes : Result ℕ WritingRefusal → List ℕ → List ℕ
listed_bytes (Ok n) l = l
listed_bytes (Err g) l = refused_line (writing_number (Err g))

unfoldable pub listed : Mesh → Counts → List ℕ → List ℕ
unfolding write_listing
listed m c out = listed_bytes (write_listing m c out).answer (listing_of m c)

unfoldable pub stepped_bytes : Result Counts StepRefusal → Mesh → List ℕ → List ℕ
unfolding listed
stepped_bytes (Ok c) m out = listed m c out
stepped_bytes (Err g) m out = ground_line (step_numbers (Err g))

-- by the outcome of the step
abbrev pub refined_bytes : StepOutcome → List ℕ → List ℕ
refined_bytes o out = stepped_bytes o.answer o.tables out

-- by the answer of building, and the tables m that it left
unfoldable pub built_bytes : Result Counts TextRefusal → Mesh → List ℕ → List ℕ
unfolding numbered_step stepped_bytes
built_bytes (Ok c) m out = refined_bytes (numbered_step c m) out
built_bytes (Err NotText) m out = ground_line (text_numbers (Err NotText))
built_bytes (Err (Refused g)) m out = ground_line (text_numbers (Err (Refused g)))

unfoldable pub handover_from : List ℕ → Mesh → List ℕ → List ℕ
unfolding build_text built_bytes
handover_from s m out = let o = build_text Refine s m in built_bytes o.answer o.tables out

unfoldable pub handover_output : List ℕ → List ℕ → List ℕ
unfolding handover_from zero_tables
handover_output s out = handover_from s zero_tables out

abbrev pub writing_if : Bool → List ℕ → List ℕ → refine.OutputWritten
writing_if true xs out = record { count = length xs; out = sets out 0 xs }
writing_if false xs out = record { count = 0; out = out }

unfoldable pub handover : List ℕ → List ℕ → refine.OutputWritten
unfolding handover_output
handover s out = writing_if (leb output_bytes (length out)) (handover_output s out) out
