-- What is told of an answer. An answer of the library has its numbers (`built_numbers`, `text_numbers` and `step_numbers`):
-- three are the counts of an accepted mesh, one is that of a ground. The depth finder's answer has one (`number_of` of `crossings`).
--     counts_in xs             the counts that stand in an array of three words: points, edges, faces
--     answer_of ns             the one number that is answered: 0 for counts, else that of the ground
--     counts_written xs ns     the array xs of counts afterwards: it is written only where the answer is 0
--     counts_told xs a         the same by the answer a
--     edge_after xs r          the array xs of one edge after the answer r of the depth finder: likewise
use Rattle.std.specs.Prelude.{Result, Ok, Err, List, [], ◌∷◌, ℕ, get_or, set}
use Rattle.crossings.specs.declared.NoCrossing.{NoCrossing}
use Rattle.crossings.specs.declared.NoCrossing.TheVariants.{NotFiniteDepth, NotClosed, Nowhere}
use Rattle.tables.specs.Rows.{put_row}
use Rattle.tables.specs.declared.Counts.{Counts}

abbrev pub counts_in : List ℕ → Counts
counts_in xs = record { points = get_or xs 0 0; edges = get_or xs 1 0; faces = get_or xs 2 0 }

abbrev pub answer_of : List ℕ → ℕ
answer_of [] = 0
answer_of (g ∷ []) = g
answer_of (p ∷ e ∷ ns) = 0

abbrev pub counts_written : List ℕ → List ℕ → List ℕ
counts_written xs [] = xs
counts_written xs (g ∷ []) = xs
counts_written xs (p ∷ e ∷ ns) = put_row xs 0 (p ∷ e ∷ ns)

abbrev pub counts_told : {E : Type 0} → List ℕ → Result Counts E → List ℕ
counts_told xs (Ok c) = put_row xs 0 (c.points ∷ c.edges ∷ c.faces ∷ [])
counts_told xs (Err g) = xs

abbrev pub edge_after : List ℕ → Result ℕ NoCrossing → List ℕ
edge_after xs (Ok e) = set xs 0 e
edge_after xs (Err NotFiniteDepth) = xs
edge_after xs (Err NotClosed) = xs
edge_after xs (Err Nowhere) = xs
