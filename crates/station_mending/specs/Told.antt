-- What the C function of the mender answers and leaves.
--     MendingTold             the number of the answer, and the text afterwards
--     mended o                the outcome o of mending a text, as it is told
use Rattle.std.specs.Prelude.{List, ℕ}
use Rattle.mended_texts.specs.Mending.{text_mending_number, MendOutcome}

pub record MendingTold : Type 0 where
  pub answer : ℕ
  pub text : List ℕ

abbrev pub mended : MendOutcome → MendingTold
mended o = record { answer = text_mending_number o.answer; text = o.text }
