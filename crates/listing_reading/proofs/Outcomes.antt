-- Reading a listing into tables m: r is the answer for its counts c; the tables xs, ps, es, ds and fs are what the
-- second scan leaves.
use mathlib.Core.List.{List, [], ◌∷◌, ◌++◌, map}
use mathlib.Core.Path.{◌≡◌, refl, sym, ap, ◌∙◌}
use mathlib.Core.Bool.{Bool, true, false}
use Prim.Native.Nat.{ℕ, suc, ◌+◌, ◌*◌, ◌≤◌}
use native.Mathlib.Omega.{arith}
use lib.ListN.{length, set, drop, replicate}
use lib.Seq.{sets, drop-set-lt}
use lib.Ieee.{Float, binary64, of_bits}
use Rattle.std.specs.Prelude.{Option, Some, None, Result, Ok, Err}
use Rattle.text_numbers.specs.Form.{Parsed, parsed, unparsed}
use Rattle.tables.specs.Mesh.{Mesh, mesh_of}
use Rattle.tables.specs.Rows.{zeroed}
use Rattle.text_numbers.specs.Numbers.{float}
use Rattle.tables.specs.declared.Counts.{Counts}
use Rattle.tables.specs.Counted.{rows_for, zeroed_rows}
use Rattle.steps.specs.Step.{within_ceilings}
use Rattle.mesh_lines.specs.Parts.{stored}
use Rattle.listings.specs.Printing.{ListedRow, ListedRows, FitPoint, FitEdge, FitFace, FitRows}
use Rattle.listings.proofs.Parts.{all-to, numbers-count, length-flat}
use Rattle.listings.proofs.Theorem.{accepted}
use Rattle.listings.proofs.Whole.{printed-of-listing}
use Rattle.listings.specs.Grammar.{listing}
use Rattle.listings.specs.Handing.{listed_counts, with_listing as stored_rows, passes_audit, read_rows, read_found, read_listing}
use Rattle.listings.specs.declared.ListingRefusal.{ListingRefusal}
use Rattle.listings.specs.declared.ListingRefusal.TheVariants as ListingRefusal
use Rattle.listing_lines.specs.Parts.{rows_total, Listing, positions_listed, points_listed, edges_listed, intervals_listed, faces_listed}

total-of : (x : Parsed ListedRows) {c : Counts} → rows_total x ≡ Some c → (t : ListedRows) × (n : ℕ) × (x ≡ parsed t n) × (listed_counts t ≡ c)
total-of (parsed t n) g = (t, n, refl, cc)
total-of unparsed g = let z : ◌≡◌ {A = ℕ} 0 1 = cc in absurd (omega arith)

total-none : (x : Parsed ListedRows) → rows_total x ≡ None → x ≡ unparsed
total-none (parsed t n) e = cc
total-none unparsed e = refl

-- elements stored at the front are zeroed with it
drop-sets : {A : Type 0} (vs xs : List A) (i n : ℕ) → i + length vs ≤ n → drop n (sets xs i vs) ≡ drop n xs
drop-sets [] xs i n h = refl
drop-sets (v ∷ vs) xs i n h = drop-sets vs (set xs i v) (suc i) n (omega arith) ∙ drop-set-lt n xs i v (omega arith)

zeroed-sets : {A : Type 0} (n : ℕ) (z : A) (xs vs : List A) → length vs ≡ n → zeroed n z (sets xs 0 vs) ≡ zeroed n z xs
unfolding zeroed
zeroed-sets n z xs vs e = ap (λ l. replicate n z ++ l) (drop-sets vs xs 0 n (omega arith))

zeroed-stored : (t : ListedRows) (m : Mesh) → FitRows t → zeroed_rows (listed_counts t) (stored_rows t m) ≡ zeroed_rows (listed_counts t) m
unfolding zeroed_rows
zeroed-stored t m f =
    let a = zeroed-sets (length t.points * 3) (of_bits binary64 0) m.positions (positions_listed t)
    (length-flat (λ (r : ListedRow). map float r.numbers) 3 t.points
    (all-to FitPoint (λ (r : ListedRow). length (map float r.numbers) ≡ 3) (λ r o. numbers-count r o.0) t.points
    f.points-fit)) in
    let b = zeroed-sets (length t.points * 3) 0 m.points (points_listed t)
    (length-flat (λ (r : ListedRow). r.words) 3 t.points
    (all-to FitPoint (λ (r : ListedRow). length r.words ≡ 3) (λ r o. o.0.word_count) t.points f.points-fit)) in
    let c = zeroed-sets (length t.edges * 8) 0 m.edges (edges_listed t)
    (length-flat (λ (r : ListedRow). r.words) 8 t.edges
    (all-to FitEdge (λ (r : ListedRow). length r.words ≡ 8) (λ r o. o.word_count) t.edges f.edges_fit)) in
    let d1 = length-flat (λ (r : ListedRow). map float r.numbers) 1 t.edges
    (all-to FitEdge (λ (r : ListedRow). length (map float r.numbers) ≡ 1) (λ r o. numbers-count r o) t.edges
    f.edges_fit) in
    let d = zeroed-sets (length t.edges) (of_bits binary64 0) m.intervals (intervals_listed t) (omega arith) in
    let e = zeroed-sets (length t.faces * 5) 0 m.faces (faces_listed t)
    (length-flat (λ (r : ListedRow). r.words) 5 t.faces
    (all-to FitFace (λ (r : ListedRow). length r.words ≡ 5) (λ r o. o.word_count) t.faces f.faces-fit)) in
    λ i. record { positions = a i; points = b i; edges = c i; intervals = d i; faces = e i }

-- rows that fail the audit are zeroed
refused : (a b d : Bool) (t : ListedRows) (m : Mesh) → a ≡ true → b ≡ true → d ≡ false
    → read_rows a b d t m ≡ record { answer = Err ListingRefusal.NotClosed; tables = zeroed_rows (listed_counts t) m }
refused a b d t m ea eb ed = rw (ea, eb, ed)

module _ (s : List ℕ) (m : Mesh) {r : Option Counts} (er : r ≡ rows_total (listing s)) where
  pub not-listing : r ≡ None → {a : Result Counts ListingRefusal} → a ≡ Err ListingRefusal.NotListing → record { answer = a; tables = m } ≡ read_listing s m
  unfolding read_found
  not-listing en ea = rw (total-none (listing s) (sym er ∙ en), ea)

  module _ {c : Counts} (ep : r ≡ Some c) where
    pub is-listing : Listing s
    is-listing = let (t, n, et, ec) = total-of (listing s) (sym er ∙ ep) in (t, n, et)

    pub over : within_ceilings c ≡ false
        → record { answer = Err ListingRefusal.OverCeilings; tables = m } ≡ read_listing s m
    unfolding read_found
    over ew = let (t, n, et, ec) = total-of (listing s) (sym er ∙ ep) in rw (et, ec, ew)

    module _ (ew : within_ceilings c ≡ true) where
      pub no_room : rows_for c m ≡ false
          → record { answer = Err ListingRefusal.NoRoom; tables = m } ≡ read_listing s m
      unfolding read_found
      no_room em = let (t, n, et, ec) = total-of (listing s) (sym er ∙ ep) in rw (et, ec, ew, em)

      module _ (em : rows_for c m ≡ true)
          (xs : List Float) (ps es : List ℕ) (ds : List Float) (fs : List ℕ)
          (ex : xs ≡ stored positions_listed m.positions 0 (listing s)) (epp : ps ≡ stored points_listed m.points 0 (listing s))
          (ee : es ≡ stored edges_listed m.edges 0 (listing s)) (ed : ds ≡ stored intervals_listed m.intervals 0 (listing s))
          (ef : fs ≡ stored faces_listed m.faces 0 (listing s)) where
        -- the second scan has stored the rows
        scanned : (t : ListedRows) (n : ℕ) → listing s ≡ parsed t n → mesh_of xs ps es ds fs ≡ stored_rows t m
        scanned t n et =
            let ax : xs ≡ sets m.positions 0 (positions_listed t) = rw et at ex in
            let ap' : ps ≡ sets m.points 0 (points_listed t) = rw et at epp in
            let ae : es ≡ sets m.edges 0 (edges_listed t) = rw et at ee in
            let ad : ds ≡ sets m.intervals 0 (intervals_listed t) = rw et at ed in
            let af : fs ≡ sets m.faces 0 (faces_listed t) = rw et at ef in
            λ i. record { positions = ax i; points = ap' i; edges = ae i; intervals = ad i; faces = af i }

        pub read : passes_audit (mesh_of xs ps es ds fs) c ≡ true
            → record { answer = Ok c; tables = mesh_of xs ps es ds fs } ≡ read_listing s m
        unfolding read_found
        read ea =
            let (t, n, et, ec) = total-of (listing s) (sym er ∙ ep) in
            let es' = scanned t n et in
            let ea' : passes_audit (stored_rows t m) c ≡ true = rw es' at ea in
            sym (ap (λ (x : Parsed ListedRows). read_found x m) et
            ∙ accepted (within_ceilings (listed_counts t)) (rows_for (listed_counts t) m) (passes_audit (stored_rows t m) (listed_counts t)) t m
            (ap within_ceilings ec ∙ ew) (ap (λ (k : Counts). rows_for k m) ec ∙ em) (ap (passes_audit (stored_rows t m)) ec ∙ ea')
            ∙ (λ i. record { answer = Ok (ec i); tables = sym es' i }))

        pub zeroes : passes_audit (mesh_of xs ps es ds fs) c ≡ false
            → (m' : Mesh) → m' ≡ zeroed_rows c (mesh_of xs ps es ds fs)
            → record { answer = Err ListingRefusal.NotClosed; tables = m' } ≡ read_listing s m
        unfolding read_found
        zeroes ea m' e' =
            let (t, n, et, ec) = total-of (listing s) (sym er ∙ ep) in
            let es' = scanned t n et in
            let ea' : passes_audit (stored_rows t m) c ≡ false = rw es' at ea in
            let fit = (printed-of-listing s t n et).0 in
            let z : m' ≡ zeroed_rows (listed_counts t) m =
            e' ∙ ap (zeroed_rows c) es' ∙ ap (λ (k : Counts). zeroed_rows k (stored_rows t m)) (sym ec)
            ∙ zeroed-stored t m fit in
            sym (ap (λ (x : Parsed ListedRows). read_found x m) et
            ∙ refused (within_ceilings (listed_counts t)) (rows_for (listed_counts t) m) (passes_audit (stored_rows t m) (listed_counts t)) t m
            (ap within_ceilings ec ∙ ew) (ap (λ (k : Counts). rows_for k m) ec ∙ em) (ap (passes_audit (stored_rows t m)) ec ∙ ea')
            ∙ (λ i. record { answer = Err ListingRefusal.NotClosed; tables = sym z i }))
