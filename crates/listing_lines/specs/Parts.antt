-- How the parts of the reader, and the scan of the whole listing, answer. The contract of the reader names none of this.
--     last_word v x        the last of the words that were found, v if they are none, and the place after them
--     same ws             words as they are
--     row_numbers row_words r what a row puts into the tables
--     rows_total x           the answer to what a scan of the whole found
--     Listing s           the text is a listing
--     positions_listed points_listed edges_listed intervals_listed faces_listed t     what the rows put into each table
use Rattle.std.specs.Prelude.{◌≡◌, List, map, ℕ, length, Float, Option, Some, None}
use Rattle.text_numbers.specs.Form.{Parsed, parsed, if_parsed}
use Rattle.text_numbers.specs.Numbers.{float}
use Rattle.listings.specs.Printing.{ListedRow, ListedRows, last}
use Rattle.listings.specs.Grammar.{listing}
use Rattle.listings.specs.Handing.{numbers_in, words_in}
use Rattle.tables.specs.declared.Counts.{Counts}

abbrev pub last_word : ℕ → Parsed (List ℕ) → Option (ℕ × ℕ)
last_word v x = if_parsed (λ ws n. Some (last v ws, n)) None x

abbrev pub same : List ℕ → List ℕ
same ws = ws

abbrev pub row_numbers : ListedRow → List Float
row_numbers r = map float r.numbers

abbrev pub row_words : ListedRow → List ℕ
row_words r = r.words

abbrev pub rows_total : Parsed ListedRows → Option Counts
rows_total x = if_parsed (λ t n. Some (record { points = length t.points; edges = length t.edges; faces = length t.faces })) None x

abbrev pub Listing : List ℕ → Type 0
Listing s = (t : ListedRows) × (n : ℕ) × (listing s ≡ parsed t n)

abbrev pub positions_listed : ListedRows → List Float
positions_listed t = numbers_in t.points

abbrev pub points_listed : ListedRows → List ℕ
points_listed t = words_in t.points

abbrev pub edges_listed : ListedRows → List ℕ
edges_listed t = words_in t.edges

abbrev pub intervals_listed : ListedRows → List Float
intervals_listed t = numbers_in t.edges

abbrev pub faces_listed : ListedRows → List ℕ
faces_listed t = words_in t.faces
