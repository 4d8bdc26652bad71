-- What is claimed of the numbers of bytes that are read and written.
--     LongText               of a text of more than 16,384 bytes the output is the ground 2, whatever the bytes are
--     OutputFits             the bytes that are lent, 256, hold every output
use Rattle.std.specs.Prelude.{◌≡◌, List, ℕ, ◌≤◌, ◌<◌, length}
use Rattle.text_meshes.specs.TextBuilding.{refine_bytes}
use Rattle.mesh_answers.specs.Lines.{refused_line}
use Rattle.refine_outputs.specs.Output.{output_bytes, output}

abbrev pub LongText : Type 0
LongText = (s : List ℕ) → refine_bytes < length s → output s ≡ refused_line 2

abbrev pub OutputFits : Type 0
OutputFits = (s : List ℕ) → length (output s) ≤ output_bytes
