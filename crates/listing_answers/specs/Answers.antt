-- What is written for a C caller beside the answer of writing or reading a listing.
--     length_after n a      the length n afterwards: it is written only where the answer is 0
--     counts_read xs a      the array xs of counts afterwards: it is written only where the answer is 0
use Rattle.std.specs.Prelude.{List, [], ◌∷◌, ℕ, Result, Ok, Err}
use Rattle.tables.specs.Rows.{put_row}
use Rattle.tables.specs.declared.Counts.{Counts}
use Rattle.listings.specs.declared.WritingRefusal.{WritingRefusal}
use Rattle.listings.specs.declared.ListingRefusal.{ListingRefusal}

abbrev pub length_after : ℕ → Result ℕ WritingRefusal → ℕ
length_after n (Ok k) = k
length_after n (Err g) = n

abbrev pub counts_read : List ℕ → Result Counts ListingRefusal → List ℕ
counts_read xs (Ok c) = put_row xs 0 (c.points ∷ c.edges ∷ c.faces ∷ [])
counts_read xs (Err g) = xs
