-- The fields that stand side by side in a table, as they are written in a line.
--     part xs b k            the k elements from b on
--     word_fields ws b k      the words there, each after a space
--     number_fields xs b k    the bits of the numbers there, each after a space
use Rattle.std.specs.Prelude.{List, ℕ, take, drop, Float}
use Rattle.mesh_lines.specs.Grammar.{flat}
use Rattle.mesh_answers.specs.Lines.{number_field, bits_field}
use Rattle.listings.specs.Handing.{bits_of}

abbrev pub part : {A : Type 0} → List A → ℕ → ℕ → List A
part xs b k = take k (drop b xs)

abbrev pub word_fields : List ℕ → ℕ → ℕ → List ℕ
word_fields ws b k = flat number_field (part ws b k)

abbrev pub number_fields : List Float → ℕ → ℕ → List ℕ
number_fields xs b k = flat (λ (v : Float). bits_field (bits_of v)) (part xs b k)
