-- The claims about the handover listing hold. Assumes nothing.
use mathlib.Core.Path.{◌≡◌, refl, sym, ap, ◌∙◌}
use mathlib.Core.Bool.{Bool, true, false}
use mathlib.Core.List.{List}
use Prim.Native.Nat.{ℕ}
use native.Mathlib.Omega.{arith}
use lib.ListN.{length}
use Rattle.std.specs.Prelude.{Ok, Err}
use Rattle.tables.specs.Mesh.{Mesh}
use Rattle.tables.specs.declared.Counts.{Counts}
use Rattle.audited_meshes.proofs.Audited.{audit-is-audited}
use Rattle.steps.proofs.Rows.{room-of-rows}
use Rattle.tables.specs.Counted.{rows_for, zeroed_rows}
use Rattle.steps.specs.Step.{within_ceilings}
use Rattle.text_numbers.specs.Form.{Parsed, parsed, unparsed}
use Rattle.listings.specs.Printing.{ListedRows, FitRows, printed}
use Rattle.listings.specs.Grammar.{listing}
use Rattle.listings.specs.Handing.{listing_rows, listing_of, listed_counts, with_listing, passes_audit, ReadingOutcome, read_rows, read_found, read_listing}
use Rattle.listings.specs.Claims.{ListingExactly, NotListingExactly, ReadsRows, RefusalsLeave, ReadBack, WrittenBack}
use Rattle.listings.specs.declared.ListingRefusal.{ListingRefusal}
use Rattle.listings.specs.declared.ListingRefusal.TheVariants as ListingRefusal
use Rattle.listings.proofs.ReadBack.{rows_fit, counts-rows, stored-rows, audited-again, room_of}
use Rattle.listings.proofs.WrittenBack.{rows-again}
use Rattle.listings.proofs.Whole.{printed-of-listing, listing-at}

pub listing-exactly : ListingExactly
listing-exactly s t = (λ h. printed-of-listing s t h.0 h.1, λ h. listing-at s t h.0 h.1)

-- rows that were found are never answered by 40
found-is-read : (a b c : Bool) (t : ListedRows) (m : Mesh) → (read_rows a b c t m).answer ≡ Err ListingRefusal.NotListing → ⊥
found-is-read false b c t m e = let z : ◌≡◌ {A = ℕ} 0 1 = cc in omega arith
found-is-read true false c t m e = let z : ◌≡◌ {A = ℕ} 0 1 = cc in omega arith
found-is-read true true false t m e = let z : ◌≡◌ {A = ℕ} 0 1 = cc in omega arith
found-is-read true true true t m e = let z : ◌≡◌ {A = ℕ} 0 1 = cc in omega arith

-- nothing was found where 40 is answered
none-of-answer : (x : Parsed ListedRows) (m : Mesh) → (read_found x m).answer ≡ Err ListingRefusal.NotListing → x ≡ unparsed
unfolding read_found
none-of-answer (parsed t n) m e =
    absurd (found-is-read (within_ceilings (listed_counts t)) (rows_for (listed_counts t) m) (passes_audit (with_listing t m) (listed_counts t)) t m e)
none-of-answer unparsed m e = refl

answer-of-none : (x : Parsed ListedRows) (m : Mesh) → x ≡ unparsed → (read_found x m).answer ≡ Err ListingRefusal.NotListing
unfolding read_found
answer-of-none x m e = rw e

-- nothing is found where no rows have this printing
none_found : (s : List ℕ) (x : Parsed ListedRows) → listing s ≡ x → ((t : ListedRows) → FitRows t → s ≡ printed t → ⊥) → x ≡ unparsed
none_found s (parsed t n) e h = let (f, p) = printed-of-listing s t n e in absurd (h t f p)
none_found s unparsed e h = refl

found-not-none : (t : ListedRows) (n : ℕ) → parsed t n ≡ unparsed → ⊥
found-not-none t n e = let z : ◌≡◌ {A = ℕ} 0 1 = cc in omega arith

pub not-listing-exactly : NotListingExactly
not-listing-exactly s m = (
  λ e t f p. let (n, g) = listing-at s t f p in found-not-none t n (sym g ∙ none-of-answer (listing s) m e),
  λ h. answer-of-none (listing s) m (none_found s (listing s) refl h),
)

pub reads-rows : ReadsRows
unfolding read_found
reads-rows t m f = let (n, e) = listing-at (printed t) t f refl in rw e

-- what the answers leave
module _ (m : Mesh) where
  over-leaves : (a b c : Bool) (t : ListedRows) → (read_rows a b c t m).answer ≡ Err ListingRefusal.OverCeilings → (read_rows a b c t m).tables ≡ m
  over-leaves false b c t e = refl
  over-leaves true false c t e = refl
  over-leaves true true false t e = absurd (let z : ◌≡◌ {A = ℕ} 0 1 = cc in omega arith)
  over-leaves true true true t e = absurd (let z : ◌≡◌ {A = ℕ} 0 1 = cc in omega arith)

  room-leaves : (a b c : Bool) (t : ListedRows) → (read_rows a b c t m).answer ≡ Err ListingRefusal.NoRoom → (read_rows a b c t m).tables ≡ m
  room-leaves false b c t e = refl
  room-leaves true false c t e = refl
  room-leaves true true false t e = absurd (let z : ◌≡◌ {A = ℕ} 0 1 = cc in omega arith)
  room-leaves true true true t e = absurd (let z : ◌≡◌ {A = ℕ} 0 1 = cc in omega arith)

  leaves : (x : Parsed ListedRows)
      → (((read_found x m).answer ≡ Err ListingRefusal.NotListing) → (read_found x m).tables ≡ m)
      × (((read_found x m).answer ≡ Err ListingRefusal.OverCeilings) → (read_found x m).tables ≡ m)
      × (((read_found x m).answer ≡ Err ListingRefusal.NoRoom) → (read_found x m).tables ≡ m)
  unfolding read_found
  leaves unparsed = (λ e. refl, λ e. refl, λ e. refl)
  leaves (parsed t n) =
      let a = within_ceilings (listed_counts t) in
      let b = rows_for (listed_counts t) m in
      let c = passes_audit (with_listing t m) (listed_counts t) in
      (λ e. absurd (found-is-read a b c t m e), over-leaves a b c t, room-leaves a b c t)

pub refusals-leave : RefusalsLeave
refusals-leave s m = leaves m (listing s)

-- rows that pass the three tests are read
pub accepted : (a b d : Bool) (t : ListedRows) (m : Mesh) → a ≡ true → b ≡ true → d ≡ true
    → read_rows a b d t m ≡ record { answer = Ok (listed_counts t); tables = with_listing t m }
accepted a b d t m ea eb ed = rw (ea, eb, ed)

pub read_back : ReadBack
read_back m m' c h ea ew er =
    let a = (audit-is-audited m c.points c.edges c.faces).0 ea in
    let r = room-of-rows c m a.points-fit a.edges_fit a.faces-fit in
    let st = stored-rows m m' c h r (room_of c m' er) in
    let ea' = audited-again m m' c h r (room_of c m' er) ea in
    let t = listing_rows m c in
    let ec = counts-rows m c h in
    reads-rows t m' (rows_fit m c h a)
    ∙ accepted (within_ceilings (listed_counts t)) (rows_for (listed_counts t) m') (passes_audit (with_listing t m') (listed_counts t)) t m'
    (ap within_ceilings ec ∙ ew) (ap (λ (k : Counts). rows_for k m') ec ∙ er)
    (ap (passes_audit (with_listing t m')) ec ∙ ap (λ (n : Mesh). passes_audit n c) st ∙ ea')
    ∙ (λ i. record { answer = Ok (ec i); tables = st i })

-- rows that were read, by the three tests
read-written : (s : List ℕ) (t : ListedRows) (m : Mesh) (c : Counts) (n : ℕ) → listing s ≡ parsed t n → (a b d : Bool)
    → rows_for (listed_counts t) m ≡ b → passes_audit (with_listing t m) (listed_counts t) ≡ d → (read_rows a b d t m).answer ≡ Ok c
    → listing_of (read_rows a b d t m).tables c ≡ s
read-written s t m c n es false b d eb ed e = absurd (let z : ◌≡◌ {A = ℕ} 0 1 = cc in omega arith)
read-written s t m c n es true false d eb ed e = absurd (let z : ◌≡◌ {A = ℕ} 0 1 = cc in omega arith)
read-written s t m c n es true true false eb ed e = absurd (let z : ◌≡◌ {A = ℕ} 0 1 = cc in omega arith)
read-written s t m c n es true true true eb ed e =
    let ec : listed_counts t ≡ c = cc in
    let (f, p) = printed-of-listing s t n es in
    let a = (audit-is-audited (with_listing t m) (length t.points) (length t.edges) (length t.faces)).0 ed in
    ap (listing_of (with_listing t m)) (sym ec) ∙ ap printed (rows-again t m f (room_of (listed_counts t) m eb) a) ∙ sym p

pub written_back : WrittenBack
unfolding read_found
written_back s m c e = go (listing s) refl e
  where
    go : (x : Parsed ListedRows) → listing s ≡ x → (read_found x m).answer ≡ Ok c → listing_of (read_found x m).tables c ≡ s
    go (parsed t n) es g =
        read-written s t m c n es (within_ceilings (listed_counts t)) (rows_for (listed_counts t) m) (passes_audit (with_listing t m) (listed_counts t)) refl refl g
    go unparsed es g = absurd (let z : ◌≡◌ {A = ℕ} 0 1 = cc in omega arith)
