-- What the C functions of the listing answer and leave.
--     WritingTold          the answer of writing, the length and the output afterwards
--     told_writing n o      the outcome o of writing, if the length was n
--     ReadingTold          the answer of reading, the array of counts and the tables afterwards
--     told_reading xs o     the outcome o of reading, if the array of counts was xs
use Rattle.std.specs.Prelude.{List, ℕ}
use Rattle.tables.specs.Mesh.{Mesh}
use Rattle.listings.specs.Handing.{WritingOutcome, ReadingOutcome, writing_number, reading_number}
use Rattle.listing_answers.specs.Answers.{length_after, counts_read}

pub record WritingTold : Type 0 where
  pub answer : ℕ
  pub count : ℕ
  pub text : List ℕ

abbrev pub told_writing : ℕ → WritingOutcome → WritingTold
told_writing n o = record { answer = writing_number o.answer; count = length_after n o.answer; text = o.text }

pub record ReadingTold : Type 0 where
  pub answer : ℕ
  pub counts : List ℕ
  pub tables : Mesh

abbrev pub told_reading : List ℕ → ReadingOutcome → ReadingTold
told_reading xs o = record { answer = reading_number o.answer; counts = counts_read xs o.answer; tables = o.tables }
