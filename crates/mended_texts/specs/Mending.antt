-- The mender's answer to a text of any bytes, and what it leaves of the text.
--     text_mending_number r     the number of an answer: 0, or that of the ground
--     MendOutcome             the answer, and the text afterwards
--     mending_of r s t              the outcome for the text s, which says t, by the answer r to its lists
--     mend_version v s t       that for a text of the version v: version 1 is refused
--     mend_form s x            that for a text which was read as x
--     mend_text s              the mending of the text s
-- Every refusal leaves the text as it is.
use Rattle.std.specs.Prelude.{List, ℕ, Result, Ok, Err, ⊤}
use Rattle.text_numbers.specs.Form.{Parsed, parsed, unparsed}
use Rattle.mesh_text.specs.Text.{text, TextMesh}
use Rattle.built_meshes.specs.Lists.{general_limits}
use Rattle.built_meshes.specs.Answers.{ground_number}
use Rattle.built_meshes.specs.declared.Version.{Version}
use Rattle.built_meshes.specs.declared.Version.TheVariants.{One, Two}
use Rattle.text_meshes.specs.TextBuilding.{lists_of}
use Rattle.mesh_printing.specs.Printing.{printed_text}
use Rattle.mended_lists.specs.Parts.{faces_turned}
use Rattle.mended_lists.specs.Mending.{mending}
use Rattle.mended_lists.specs.declared.Unmended.{Unmended}
use Rattle.mended_lists.specs.declared.Unmended.TheVariants as Lists
use Rattle.mended_texts.specs.Turning.{turned_text}
use Rattle.mended_texts.specs.declared.TextMending.{TextMending}
use Rattle.mended_texts.specs.declared.TextMending.TheVariants.{Mended, NotText, Refused, Twisted}

abbrev pub text_mending_number : TextMending → ℕ
text_mending_number Mended = 0
text_mending_number NotText = 1
text_mending_number (Refused g) = ground_number g
text_mending_number Twisted = 44

pub record MendOutcome : Type 0 where
  pub answer : TextMending
  pub text : List ℕ

abbrev pub mending_of : Result ⊤ Unmended → List ℕ → TextMesh → MendOutcome
mending_of (Ok tt) s t = record { answer = Mended; text = printed_text (turned_text (faces_turned (lists_of t)) t) }
mending_of (Err (Lists.Refused g)) s t = record { answer = Refused g; text = s }
mending_of (Err Lists.Twisted) s t = record { answer = Twisted; text = s }

abbrev pub mend_version : Version → List ℕ → TextMesh → MendOutcome
mend_version One s t = record { answer = NotText; text = s }
mend_version Two s t = mending_of (mending general_limits (lists_of t)) s t

abbrev pub mend_form : List ℕ → Parsed TextMesh → MendOutcome
mend_form s (parsed t n) = mend_version t.version s t
mend_form s unparsed = record { answer = NotText; text = s }

unfoldable pub mend_text : List ℕ → MendOutcome
unfolding text mending faces_turned
mend_text s = mend_form s (text s)
