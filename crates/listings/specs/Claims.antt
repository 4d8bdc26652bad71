-- What is claimed of the handover listing.
--     ListingExactly        a text is the listing of rows exactly if they fit and it is their printing
--     NotListingExactly    40 is answered exactly if no rows that fit have this printing
--     ReadsRows             the printing of rows that fit meets 2, 4, 30 or is read, by the tests of read_rows, in this order
--     RefusalsLeave         40, 2 and 4 leave the tables as they are
--     Held m                 the words of the tables are below 2^32, and the numbers are binary64 numbers
--     ReadBack              reading the listing of a mesh gives its rows and counts, every bit, and touches no further row
--     WrittenBack           writing a mesh that was read gives the bytes that were read
use Rattle.std.specs.Prelude.{◌≡◌, true, List, ◌↔◌, ℕ, ◌<◌, T, get_or, Ok, Err}
use Rattle.std.specs.Float.{nan, binary64}
use Rattle.std.specs.Float.Ieee.{fits}
use Rattle.tables.specs.Mesh.{Mesh}
use Rattle.tables.specs.declared.Counts.{Counts}
use Rattle.tables.specs.Counted.{rows_for, first_rows, over_rows}
use Rattle.steps.specs.Step.{within_ceilings}
use Rattle.text_numbers.specs.Form.{parsed}
use Rattle.listings.specs.Printing.{ListedRows, FitRows, printed}
use Rattle.listings.specs.Grammar.{listing}
use Rattle.listings.specs.Handing.{listing_of, listed_counts, with_listing, passes_audit, read_rows, read_listing}
use Rattle.listings.specs.declared.ListingRefusal.TheVariants as ListingRefusal

abbrev pub ListingExactly : Type 0
ListingExactly = (s : List ℕ) (t : ListedRows) → ((n : ℕ) × (listing s ≡ parsed t n)) ↔ (FitRows t × (s ≡ printed t))

abbrev pub NotListingExactly : Type 0
NotListingExactly =
    (s : List ℕ) (m : Mesh) → ((read_listing s m).answer ≡ Err ListingRefusal.NotListing) ↔ ((t : ListedRows) → FitRows t → s ≡ printed t → ⊥)

abbrev pub ReadsRows : Type 0
ReadsRows =
    (t : ListedRows) (m : Mesh) → FitRows t →
    read_listing (printed t) m
    ≡ read_rows (within_ceilings (listed_counts t)) (rows_for (listed_counts t) m) (passes_audit (with_listing t m) (listed_counts t)) t m

abbrev pub RefusalsLeave : Type 0
RefusalsLeave =
    (s : List ℕ) (m : Mesh) →
    (((read_listing s m).answer ≡ Err ListingRefusal.NotListing) → (read_listing s m).tables ≡ m)
    × (((read_listing s m).answer ≡ Err ListingRefusal.OverCeilings) → (read_listing s m).tables ≡ m)
    × (((read_listing s m).answer ≡ Err ListingRefusal.NoRoom) → (read_listing s m).tables ≡ m)

-- what the elements of lent slices are
pub record Held (m : Mesh) : Type 0 where
  pub positions : (i : ℕ) → T (fits binary64 (get_or m.positions i nan))
  pub points : (i : ℕ) → get_or m.points i 0 < 4294967296
  pub edges : (i : ℕ) → get_or m.edges i 0 < 4294967296
  pub intervals : (i : ℕ) → T (fits binary64 (get_or m.intervals i nan))
  pub faces : (i : ℕ) → get_or m.faces i 0 < 4294967296

abbrev pub ReadBack : Type 0
ReadBack =
    (m m' : Mesh) (c : Counts) → Held m → passes_audit m c ≡ true → within_ceilings c ≡ true → rows_for c m' ≡ true →
    read_listing (listing_of m c) m' ≡ record { answer = Ok c; tables = over_rows c (first_rows c m) m' }

abbrev pub WrittenBack : Type 0
WrittenBack = (s : List ℕ) (m : Mesh) (c : Counts) → (read_listing s m).answer ≡ Ok c → listing_of (read_listing s m).tables c ≡ s
