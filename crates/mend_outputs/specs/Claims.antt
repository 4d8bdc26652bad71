-- What is claimed of the output of the program `mend`.
--     LongText               of a text of more than mend_bytes the output is the ground 2, whatever the bytes are
use Rattle.std.specs.Prelude.{◌≡◌, List, ℕ, ◌<◌, length}
use Rattle.mesh_answers.specs.Lines.{refused_line}
use Rattle.mend_outputs.specs.Output.{mend_bytes, mend_output}

abbrev pub LongText : Type 0
LongText = (s : List ℕ) → mend_bytes < length s → mend_output s ≡ refused_line 2
