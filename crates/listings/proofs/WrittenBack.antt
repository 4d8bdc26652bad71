-- Writing what was read gives its bytes: the rows that were stored are the rows that stand in the tables. Assumes nothing.
--     rows-again        the rows of tables in which rows were stored that pass the audit there
use mathlib.Core.Path.{◌≡◌, refl, sym, ap, ◌∙◌, subst}
use mathlib.Core.Bool.{Bool, true, false}
use mathlib.Core.List.{List, [], ◌∷◌, ◌++◌, map}
use Prim.Native.Nat.{ℕ, zero, suc, ◌+◌, ◌*◌, ◌≤◌, ◌<◌}
use native.Mathlib.Nat.{suc-mul, mul-le-mul_right}
use native.Mathlib.Omega.{arith}
use lib.Dec.{T, ltb}
use lib.ListN.{length, get_or, take, drop, length-drop, get_or-append}
use lib.Seq.{sets, sets-eq, length-sets, ext_get_or, get_or_at, get_or-append-add, get_or-take, get_or-drop, length-take-le, take_all}
use lib.Ieee.{Float, nan, binary64}
use lib.Ieee.Bits.{to_bits-of_bits}
use lib.Ieee.Scale.{finite}
use borrow.Author.Tests.{ltb-true, ltb-false}
use Rattle.text_numbers.specs.Numbers.{float}
use Rattle.tables.specs.Mesh.{Mesh}
use Rattle.tables.specs.declared.Counts.{Counts}
use Rattle.audited_meshes.specs.Audited.{Audited}
use Rattle.intervals.proofs.Laws.{finite_number}
use Rattle.steps.specs.Rows.{Room}
use Rattle.mesh_lines.specs.Grammar.{flat}
use Rattle.listings.specs.Printing.{ListedRow, ListedRows, All, FitPoint, FitEdge, FitFace, FitRows}
use Rattle.listings.specs.Handing.{up_to, bits_of, point_line_row, edge_line_row, face_line_row, listing_rows, listed_counts, with_listing}
use Rattle.listings.proofs.Parts.{all-to, numbers-count, length-flat, cells, part-cells}
use Rattle.listings.proofs.ReadBack.{length-up_to, finite-fit}

module _ {A : Type 0} (f : ℕ → A) (d : A) where
  pub get_or-up_to : (n p : ℕ) → p < n → get_or (up_to n f) p d ≡ f p
  unfolding up_to
  get_or-up_to zero p h = absurd (omega arith)
  get_or-up_to (suc n) p h = go (ltb p n) refl (get_or-up_to n p)
    where
      go : (b : Bool) → ltb p n ≡ b → (p < n → get_or (up_to n f) p d ≡ f p) → get_or (up_to n f ++ (f n ∷ [])) p d ≡ f p
      go true e rec =
          let l = ltb-true p n e in
          let k : p < length (up_to n f) = rw (length-up_to f n) l in
          get_or-append (up_to n f) (f n ∷ []) d p k ∙ rec l
      go false e rec =
          let l = ltb-false p n e in
          let q : p ≡ n = omega arith in
          ap (λ i. get_or (up_to n f ++ (f n ∷ [])) i d) q ∙ get_or_at (up_to n f) (f n) [] d n (length-up_to f n) ∙ ap f (sym q)

  pub up_to-all : (l : List A) → ((p : ℕ) → p < length l → f p ≡ get_or l p d) → up_to (length l) f ≡ l
  up_to-all l h =
      let e = length-up_to f (length l) in
      ext_get_or d (up_to (length l) f) l e λ i k. let k' : i < length l = omega arith in get_or-up_to (length l) i k' ∙ h i k'

-- what stands at the front after it was stored there
sets-front : {B : Type 0} (xs vs : List B) (i : ℕ) (d : B) → length vs ≤ length xs → i < length vs → get_or (sets xs 0 vs) i d ≡ get_or vs i d
sets-front xs vs i d h k =
    ap (λ l. get_or l i d) (sets-eq vs xs 0 (omega arith)) ∙ get_or-append vs (drop (0 + length vs) xs) d i k

module _ {B : Type 0} (G : ListedRow → List B) (w : ℕ) (d : B) (r0 : ListedRow) where
  abbrev Wide : ListedRow → Type 0
  Wide r = length (G r) ≡ w

  flat-cell : (l : List ListedRow) → All Wide l → (p j : ℕ) → p < length l → j < w → get_or (flat G l) (p * w + j) d ≡ get_or (G (get_or l p r0)) j d
  unfolding flat
  flat-cell [] a p j h k = absurd (omega arith)
  flat-cell (r ∷ l) a zero j h k =
      let z : 0 * w + j ≡ j = omega arith in
      let e = a.0 in
      ap (λ i. get_or (G r ++ flat G l) i d) z ∙ get_or-append (G r) (flat G l) d j (omega arith)
  flat-cell (r ∷ l) a (suc p) j h k =
      let s = suc-mul p w in
      let e = a.0 in
      let q : suc p * w + j ≡ length (G r) + (p * w + j) = omega arith in
      ap (λ i. get_or (G r ++ flat G l) i d) q ∙ get_or-append-add (G r) (flat G l) (p * w + j) d ∙ flat-cell l a.1 p j (omega arith) k

  wide_at : (l : List ListedRow) → All Wide l → (p : ℕ) → p < length l → length (G (get_or l p r0)) ≡ w
  wide_at [] a p h = absurd (omega arith)
  wide_at (r ∷ l) a zero h = a.0
  wide_at (r ∷ l) a (suc p) h = wide_at l a.1 p (omega arith)

  -- a row below a number of rows ends below their end
  row-end : (n p : ℕ) → p < n → p * w + w ≤ n * w
  row-end n p h =
      let s = suc-mul p w in
      let m : suc p * w ≤ n * w = mul-le-mul_right w h in
      omega arith

  row-again : (xs : List B) (l : List ListedRow) → All Wide l → length l * w ≤ length xs → (p : ℕ) → p < length l
      → cells d (sets xs 0 (flat G l)) (p * w) w ≡ G (get_or l p r0)
  row-again xs l a h p k =
      let ys = sets xs 0 (flat G l) in
      let ly = length-sets xs 0 (flat G l) in
      let lf = length-flat G w l a in
      let re = row-end (length l) p k in
      let ld = length-drop (p * w) ys in
      let lw : length (take w (drop (p * w) ys)) ≡ w = length-take-le w (drop (p * w) ys) (omega arith) in
      let lg = wide_at l a p k in
      sym (part-cells d ys (p * w) w (omega arith))
      ∙ ext_get_or d (take w (drop (p * w) ys)) (G (get_or l p r0)) (lw ∙ sym lg) λ i q.
      let iw : i < w = omega arith in
      get_or-take w (drop (p * w) ys) i d iw ∙ get_or-drop (p * w) ys i d ∙ sets-front xs (flat G l) (p * w + i) d (omega arith) (omega arith)
      ∙ flat-cell l a p i k iw

-- the pattern of a number that is no not-a-number is the number's
bits-again : (ns : List ℕ) → All (λ v. v < 18446744073709551616) ns → All (λ v. finite v ≡ true) (map float ns) → map bits_of (map float ns) ≡ ns
bits-again [] b f = refl
bits-again (n ∷ ns) b f =
    let e = to_bits-of_bits binary64 n b.0 (finite_number (float n) f.0) in
    let r = bits-again ns b.1 f.1 in
    λ i. e i ∷ r i

pub all-at : {A : Type 0} (P : A → Type 0) (d : A) (l : List A) → All P l → (p : ℕ) → p < length l → P (get_or l p d)
all-at P d [] a p h = absurd (omega arith)
all-at P d (x ∷ l) a zero h = a.0
all-at P d (x ∷ l) a (suc p) h = all-at P d l a.1 p (omega arith)

none : ListedRow
none = record { numbers = []; words = [] }

module _ (t : ListedRows) (m : Mesh) (f : FitRows t) (r : Room (listed_counts t) m) (a : Audited (with_listing t m) (length t.points) (length t.edges) (length t.faces)) where
  point-again : (p : ℕ) → p < length t.points → point_line_row (with_listing t m) p ≡ get_or t.points p none
  point-again p h =
      let l = t.points in
      let o = (all-at FitPoint none l f.points-fit p h).0 in
      let xs = row-again (λ q. map float q.numbers) 3 nan none m.positions l (all-to FitPoint _ (λ q o. numbers-count q o.0) l f.points-fit) r.positions p h in
      let ws = row-again (λ q. q.words) 3 0 none m.points l (all-to FitPoint _ (λ q o. o.0.word_count) l f.points-fit) r.points p h in
      let fin : All (λ v. finite v ≡ true) (map float (get_or l p none).numbers) = subst (All (λ v. finite v ≡ true)) xs (a.x-finite p h, (a.y-finite p h, (a.z-finite p h, tt))) in
      let ns = ap (map bits_of) xs ∙ bits-again (get_or l p none).numbers o.numbers-below fin in
      λ i. record { numbers = ns i; words = ws i }

  edge-again : (e : ℕ) → e < length t.edges → edge_line_row (with_listing t m) e ≡ get_or t.edges e none
  edge-again e h =
      let l = t.edges in
      let o = all-at FitEdge none l f.edges_fit e h in
      let one : e * 1 ≡ e = omega arith in
      let room : length l * 1 ≤ length m.intervals = let q = r.intervals in omega arith in
      let xs1 = row-again (λ q. map float q.numbers) 1 nan none m.intervals l
      (all-to FitEdge _ (λ q o. numbers-count q o) l f.edges_fit) room e h in
      let xs = rw one at xs1 in
      let ws = row-again (λ q. q.words) 8 0 none m.edges l
      (all-to FitEdge _ (λ q o. o.word_count) l f.edges_fit) r.edges e h in
      let fin : All (λ v. finite v ≡ true) (map float (get_or l e none).numbers) = subst (All (λ v. finite v ≡ true)) xs
      (finite-fit (get_or (with_listing t m).intervals e nan) (a.interval-fit e h), tt) in
      let ns = ap (map bits_of) xs ∙ bits-again (get_or l e none).numbers o.numbers-below fin in
      λ i. record { numbers = ns i; words = ws i }

  face-again : (g : ℕ) → g < length t.faces → face_line_row (with_listing t m) g ≡ get_or t.faces g none
  face-again g h =
      let l = t.faces in
      let o = all-at FitFace none l f.faces-fit g h in
      let ws = row-again (λ q. q.words) 5 0 none m.faces l (all-to FitFace _ (λ q o. o.word_count) l f.faces-fit) r.faces g h in
      let ns = sym (empty (get_or l g none).numbers o.number-count) in
      λ i. record { numbers = ns i; words = ws i }
    where
      empty : (xs : List ℕ) → length xs ≡ 0 → xs ≡ []
      empty [] e = refl
      empty (v ∷ xs) e = absurd (omega arith)

  pub rows-again : listing_rows (with_listing t m) (listed_counts t) ≡ t
  rows-again =
      let p = up_to-all (point_line_row (with_listing t m)) none t.points point-again in
      let e = up_to-all (edge_line_row (with_listing t m)) none t.edges edge-again in
      let g = up_to-all (face_line_row (with_listing t m)) none t.faces face-again in
      λ i. record { points = p i; edges = e i; faces = g i }
