-- What is told of a listing that was read. Assumes nothing.
use mathlib.Core.Path.{◌≡◌, sym, ap, ◌∙◌}
use mathlib.Core.List.{List, [], ◌∷◌}
use Prim.Native.Nat.{ℕ}
use Rattle.std.specs.Prelude.{Result, Ok}
use Rattle.tables.specs.Rows.{put_row}
use Rattle.tables.specs.declared.Counts.{Counts}
use Rattle.listings.specs.declared.ListingRefusal.{ListingRefusal}
use Rattle.listings.specs.declared.ListingRefusal.TheVariants as ListingRefusal
use Rattle.listing_answers.specs.Answers.{counts_read}

-- the counts c of an answer that is `Read c`, written into the array xs
pub counts-stored : (xs : List ℕ) {ys : List ℕ} {a : Result Counts ListingRefusal} {c : Counts} → a ≡ Ok c → ys ≡ put_row xs 0 (c.points ∷ c.edges ∷ c.faces ∷ [])
    → ys ≡ counts_read xs a
counts-stored xs {ys} {a} {c} e q = q ∙ ap (counts_read xs) (sym e)
