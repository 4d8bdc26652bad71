-- What the program `mend` writes for the bytes of a text (document 02, §8).
--     mend_bytes               the most bytes of a text that it takes; no text within the limits of building has as many
--     mended_bytes r s         the bytes written, by the number r of the mender's answer and the text s that it left
--     mend_output s            the whole output
use Rattle.std.specs.Prelude.{Bool, true, false, List, ℕ, zero, suc, ltb, length}
use Rattle.mesh_answers.specs.Lines.{refused_line}
use Rattle.mended_texts.specs.Mending.{mend_text}
use Rattle.station_mending.specs.Told.{MendingTold, mended}

abbrev pub mend_bytes : ℕ
mend_bytes = 1048576

abbrev pub mended_bytes : ℕ → List ℕ → List ℕ
mended_bytes zero s = s
mended_bytes (suc n) s = refused_line (suc n)

abbrev pub told_bytes : MendingTold → List ℕ
told_bytes o = mended_bytes o.answer o.text

-- by whether the text is too long
unfoldable pub mend_output_if : Bool → List ℕ → List ℕ
unfolding mend_text
mend_output_if true s = refused_line 2
mend_output_if false s = told_bytes (mended (mend_text s))

unfoldable pub mend_output : List ℕ → List ℕ
unfolding mend_output_if
mend_output s = mend_output_if (ltb mend_bytes (length s)) s
