-- What is claimed of the output of the program `handover`.
--     LongText               of a text of more than 16,384 bytes the output is the ground 2, whatever the bytes are
--     OutputFits             no more bytes are written than are lent
use Rattle.std.specs.Prelude.{◌≡◌, List, ℕ, ◌≤◌, ◌<◌, length}
use Rattle.text_meshes.specs.TextBuilding.{refine_bytes}
use Rattle.mesh_answers.specs.Lines.{refused_line}
use Rattle.handover_outputs.specs.Output.{handover_output, handover}

abbrev pub LongText : Type 0
LongText = (s out : List ℕ) → refine_bytes < length s → handover_output s out ≡ refused_line 2

abbrev pub OutputFits : Type 0
OutputFits = (s out : List ℕ) → (handover s out).count ≤ length (handover s out).out
