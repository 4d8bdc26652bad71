-- Reading the listing of a mesh gives its rows and its counts. Assumes nothing.
--     rows_fit          the rows of an audited mesh in tables of words and binary64 numbers fit
--     counts-rows       they are as many as its counts say
--     stored-rows       stored in other tables they are the first rows of the mesh
use mathlib.Core.Path.{◌≡◌, refl, sym, ap, ◌∙◌}
use mathlib.Core.Bool.{Bool, true, false, ◌&&◌}
use mathlib.Core.Logic.{◌⊎◌, inl, inr}
use mathlib.Core.List.{List, [], ◌∷◌, ◌++◌, map}
use Prim.Native.Nat.{ℕ, zero, suc, ◌+◌, ◌*◌, ◌≤◌, ◌<◌}
use native.Mathlib.Nat.{suc-mul}
use native.Mathlib.Omega.{arith}
use lib.Dec.{T, leb}
use lib.ListN.{length, get_or, take, drop, length-append}
use lib.Seq.{sets, sets-eq, take-add, take_all, length-take-le}
use lib.Ieee.{Float, nan, inf, fin, binary64, fits}
use lib.Ieee.Scale.{finite}
use lib.Ieee.Bits.{of_bits-to_bits, to_bits-lt}
use borrow.Author.Tests.{leb-true}
use Rattle.text_numbers.specs.Numbers.{float}
use Rattle.text_numbers.proofs.Laws.{and_both}
use Rattle.tables.specs.Mesh.{Mesh, mark, point_rows, edge_rows, face_rows}
use Rattle.tables.specs.Rows.{over}
use Rattle.tables.specs.declared.Counts.{Counts}
use Rattle.audited_meshes.specs.Audit.{interval_fit}
use Rattle.audited_meshes.specs.Audited.{Audited}
use Rattle.audited_meshes.proofs.Audited.{audit-is-audited}
use Rattle.audited_meshes.proofs.Holds.{audit-is-closed}
use Rattle.tables.specs.Counted.{first_rows, over_rows, rows_for}
use Rattle.steps.specs.Rows.{Room}
use Rattle.steps.proofs.Rows.{room-of-rows, exact-first_rows, same-first_rows, holds_same, room-first_rows, same-over_rows, room-over_rows}
use Rattle.mesh_lines.specs.Grammar.{flat}
use Rattle.listings.specs.Printing.{ListedRow, ListedRows, All, FitPoint, FitEdge, FitFace, FitRows}
use Rattle.listings.specs.Handing.{up_to, bits_of, point_line_row, edge_line_row, face_line_row, listing_rows, listed_counts, numbers_in, words_in, with_listing, passes_audit}
use Rattle.listings.specs.Claims.{Held}
use Rattle.listings.proofs.Parts.{flat_append, flat-one, cells, part-cells}

module _ {A : Type 0} (f : ℕ → A) where
  pub length-up_to : (n : ℕ) → length (up_to n f) ≡ n
  unfolding up_to
  length-up_to zero = refl
  length-up_to (suc n) = let a = length-append (up_to n f) (f n ∷ []) in let r = length-up_to n in omega arith

all_append : {A : Type 0} (P : A → Type 0) (xs ys : List A) → All P xs → All P ys → All P (xs ++ ys)
all_append P [] ys h g = g
all_append P (a ∷ xs) ys h g = (h.0, all_append P xs ys h.1 g)

all-up_to : {A : Type 0} (P : A → Type 0) (f : ℕ → A) (n : ℕ) → ((p : ℕ) → p < n → P (f p)) → All P (up_to n f)
unfolding up_to
all-up_to P f zero h = tt
all-up_to P f (suc n) h = all_append P (up_to n f) (f n ∷ []) (all-up_to P f n (λ p l. h p (omega arith))) (h n (omega arith), tt)

-- a number that is fit for an interval is finite
pub finite-fit : (v : Float) → interval_fit v ≡ true → finite v ≡ true
finite-fit nan e = e
finite-fit (inf s) e = e
finite-fit (fin s n k) e = refl

-- the pattern of a binary64 number has 64 bits
bits_below : (v : Float) → T (fits binary64 v) → bits_of v < 18446744073709551616
bits_below v h = to_bits-lt binary64 v h

module _ (m : Mesh) (c : Counts) (h : Held m) where
  module _ (a : Audited m c.points c.edges c.faces) where
    mark-below : (p : ℕ) → p < c.points → mark m p < 2
    mark-below p l = go (a.mark-fit p l)
      where
        go : (mark m p ≡ 0) ⊎ (mark m p ≡ 1) → mark m p < 2
        go (inl e) = omega arith
        go (inr e) = omega arith

    point-fits : (p : ℕ) → p < c.points → FitPoint (point_line_row m p)
    point-fits p l = (
      record {
        number-count = refl;
        word_count = refl;
        numbers-below = (bits_below _ (h.positions (p * 3)), (bits_below _ (h.positions (p * 3 + 1)), (bits_below _ (h.positions (p * 3 + 2)), tt)));
        words-below = (h.points (p * 3), (h.points (p * 3 + 1), (h.points (p * 3 + 2), tt)));
      },
      mark-below p l,
    )

    edge-fits : (e : ℕ) → FitEdge (edge_line_row m e)
    edge-fits e = record {
      number-count = refl;
      word_count = refl;
      numbers-below = (bits_below _ (h.intervals e), tt);
      words-below = (
        h.edges (e * 8),
        (
          h.edges (e * 8 + 1),
          (h.edges (e * 8 + 2), (h.edges (e * 8 + 3), (h.edges (e * 8 + 4), (h.edges (e * 8 + 5), (h.edges (e * 8 + 6), (h.edges (e * 8 + 7), tt)))))),
        ),
      );
    }

    face-fits : (f : ℕ) → FitFace (face_line_row m f)
    face-fits f = record {
      number-count = refl;
      word_count = refl;
      numbers-below = tt;
      words-below = (h.faces (f * 5), (h.faces (f * 5 + 1), (h.faces (f * 5 + 2), (h.faces (f * 5 + 3), (h.faces (f * 5 + 4), tt)))));
    }

    pub rows_fit : FitRows (listing_rows m c)
    rows_fit = record {
      points-fit = all-up_to FitPoint (point_line_row m) c.points point-fits;
      edges_fit = all-up_to FitEdge (edge_line_row m) c.edges (λ e l. edge-fits e);
      faces-fit = all-up_to FitFace (face_line_row m) c.faces (λ f l. face-fits f);
    }

  pub counts-rows : listed_counts (listing_rows m c) ≡ c
  counts-rows =
      let p = length-up_to (point_line_row m) c.points in
      let e = length-up_to (edge_line_row m) c.edges in
      let f = length-up_to (face_line_row m) c.faces in
      λ i. record { points = p i; edges = e i; faces = f i }

-- what rows of w elements put side by side are
rows-part : {B : Type 0} (d : B) (G : ListedRow → List B) (g : ℕ → ListedRow) (xs : List B) (w : ℕ) → ((p : ℕ) → G (g p) ≡ cells d xs (p * w) w)
    → (n : ℕ) → n * w ≤ length xs → flat G (up_to n g) ≡ take (n * w) xs
unfolding up_to flat
rows-part d G g xs w e zero h = let z : 0 * w ≡ 0 = omega arith in rw z
rows-part d G g xs w e (suc n) h =
    let sw = suc-mul n w in
    let r = rows-part d G g xs w e n (omega arith) in
    let one : G (g n) ≡ take w (drop (n * w) xs) = e n ∙ sym (part-cells d xs (n * w) w (omega arith)) in
    flat_append G (up_to n g) (g n ∷ []) ∙ ap (λ l. flat G (up_to n g) ++ l) (flat-one G (g n) ∙ one) ∙ ap (λ l. l ++ take w (drop (n * w) xs)) r
    ∙ sym (take-add (n * w) w xs) ∙ ap (λ k. take k xs) (sym sw)

-- elements stored at the front
sets_over : {B : Type 0} (n : ℕ) (vs xs : List B) → length vs ≡ n → n ≤ length xs → sets xs 0 vs ≡ over n vs xs
unfolding over
sets_over n vs xs e h =
    let k : 0 + length vs ≡ n = omega arith in
    sets-eq vs xs 0 (omega arith) ∙ ap (λ j. vs ++ drop j xs) k ∙ ap (λ l. l ++ drop n xs) (sym (take_all n vs (omega arith)))

module _ (m m' : Mesh) (c : Counts) (h : Held m) (r : Room c m) (r' : Room c m') where
  number-again : (v : Float) → T (fits binary64 v) → float (bits_of v) ≡ v
  number-again v k = of_bits-to_bits binary64 v k

  table : {B : Type 0} (d : B) (G : ListedRow → List B) (g : ℕ → ListedRow) (xs xs' : List B) (w n : ℕ) → ((p : ℕ) → G (g p) ≡ cells d xs (p * w) w) → n * w ≤ length xs
      → n * w ≤ length xs' → sets xs' 0 (flat G (up_to n g)) ≡ over (n * w) (take (n * w) xs) xs'
  table d G g xs xs' w n e k k' =
      ap (sets xs' 0) (rows-part d G g xs w e n k) ∙ sets_over (n * w) (take (n * w) xs) xs' (length-take-le (n * w) xs k) k'

  pub stored-rows : with_listing (listing_rows m c) m' ≡ over_rows c (first_rows c m) m'
  unfolding over_rows first_rows
  stored-rows =
      let one : c.edges * 1 ≡ c.edges = omega arith in
      let a = table nan (λ q. map float q.numbers) (point_line_row m) m.positions m'.positions 3 c.points point-cells r.positions r'.positions in
      let b = table 0 (λ q. q.words) (point_line_row m) m.points m'.points 3 c.points (λ p. refl) r.points r'.points in
      let e = table 0 (λ q. q.words) (edge_line_row m) m.edges m'.edges 8 c.edges (λ p. refl) r.edges r'.edges in
      let d : sets m'.intervals 0 (numbers_in (up_to c.edges (edge_line_row m))) ≡ over c.edges (take c.edges m.intervals) m'.intervals =
      rw one at (table nan (λ q. map float q.numbers) (edge_line_row m) m.intervals m'.intervals 1 c.edges interval-cells (rw one r.intervals) (rw one r'.intervals)) in
      let f = table 0 (λ q. q.words) (face_line_row m) m.faces m'.faces 5 c.faces (λ p. refl) r.faces r'.faces in
      λ i. record { positions = a i; points = b i; edges = e i; intervals = d i; faces = f i }
    where
      point-cells : (p : ℕ) → map float (point_line_row m p).numbers ≡ cells nan m.positions (p * 3) 3
      point-cells p =
          let x = number-again (get_or m.positions (p * 3) nan) (h.positions (p * 3)) in
          let y = number-again (get_or m.positions (p * 3 + 1) nan) (h.positions (p * 3 + 1)) in
          let z = number-again (get_or m.positions (p * 3 + 2) nan) (h.positions (p * 3 + 2)) in
          λ i. x i ∷ y i ∷ z i ∷ []

      interval-cells : (p : ℕ) → map float (edge_line_row m p).numbers ≡ cells nan m.intervals (p * 1) 1
      interval-cells p =
          let k : p * 1 ≡ p = omega arith in
          rw k (λ i. number-again (get_or m.intervals p nan) (h.intervals p) i ∷ [])

  pub audited-again : passes_audit m c ≡ true → passes_audit (over_rows c (first_rows c m) m') c ≡ true
  audited-again k =
      let x = exact-first_rows c m r in
      let a = (audit-is-closed m c.points c.edges c.faces).0 k in
      let b = holds_same (same-first_rows c m) (room-first_rows c m r) a in
      let d = holds_same (same-over_rows c (first_rows c m) m' x) (room-over_rows c (first_rows c m) m' x) b in
      (audit-is-closed (over_rows c (first_rows c m) m') c.points c.edges c.faces).1 d

-- tables that have the rows of the counts
pub room_of : (c : Counts) (t : Mesh) → rows_for c t ≡ true → Room c t
unfolding rows_for
room_of c t e =
    let (g, f) = and_both (leb c.points (point_rows t) && leb c.edges (edge_rows t)) (leb c.faces (face_rows t)) e in
    let (p, d) = and_both (leb c.points (point_rows t)) (leb c.edges (edge_rows t)) g in
    room-of-rows c t (leb-true c.points (point_rows t) p) (leb-true c.edges (edge_rows t) d) (leb-true c.faces (face_rows t) f)
