-- What is told of a listing that was written or read. Assumes nothing.
use mathlib.Core.Path.{◌≡◌, ap, ◌∙◌}
use mathlib.Core.List.{List}
use Prim.Native.Nat.{ℕ}
use Rattle.std.specs.Prelude.{Result}
use Rattle.tables.specs.Mesh.{Mesh}
use Rattle.tables.specs.declared.Counts.{Counts}
use Rattle.listings.specs.Handing.{WritingOutcome, ReadingOutcome, writing_number, reading_number, write_listing}
use Rattle.listings.specs.declared.WritingRefusal.{WritingRefusal}
use Rattle.listings.specs.declared.ListingRefusal.{ListingRefusal}
use Rattle.listing_answers.specs.Answers.{length_after, counts_read}
use Rattle.station_listings.specs.Told.{told_writing, told_reading}

-- a is the answer of writing, out what it left
pub written-told : (n : ℕ) (m : Mesh) (text : List ℕ) {c c' : Counts} {out : List ℕ} {a : Result ℕ WritingRefusal} {r k : ℕ} → c ≡ c'
    → record { answer = a; text = out } ≡ write_listing m c text → r ≡ writing_number a → k ≡ length_after n a
    → record { answer = r; count = k; text = out } ≡ told_writing n (write_listing m c' text)
written-told n m text {c} {c'} {out} {a} {r} {k} ec e er ek =
    (λ i. record { answer = er i; count = ek i; text = out }) ∙ ap (told_writing n) e ∙ ap (λ (d : Counts). told_writing n (write_listing m d text)) ec

-- a is the answer of reading, m what it left
pub read_told : (xs : List ℕ) {o : ReadingOutcome} {a : Result Counts ListingRefusal} {m : Mesh} {r : ℕ} {ys : List ℕ}
    → record { answer = a; tables = m } ≡ o → r ≡ reading_number a → ys ≡ counts_read xs a
    → record { answer = r; counts = ys; tables = m } ≡ told_reading xs o
read_told xs {o} {a} {m} {r} {ys} e er ey = (λ i. record { answer = er i; counts = ey i; tables = m }) ∙ ap (told_reading xs) e
