-- Lists joined, and the elements of a part of a list one by one. Assumes nothing.
--     flat_append flat-one     lists joined, of one list after another and of one
--     length-flat              how long they are, of lists of one length
--     all-to                   what holds of each element
--     cells d xs b k           the k elements from b on
--     part-cells               they are that part of the list
use mathlib.Core.Path.{◌≡◌, refl, sym, ap, ◌∙◌}
use mathlib.Core.List.{List, [], ◌∷◌, ◌++◌, map, append_assoc, append-nil}
use Prim.Native.Nat.{ℕ, zero, suc, ◌+◌, ◌*◌, ◌≤◌}
use native.Mathlib.Nat.{suc-mul}
use native.Mathlib.Omega.{arith}
use lib.ListN.{length, get_or, take, drop, length-append, length-map}
use lib.Seq.{drop-cons}
use Rattle.text_numbers.specs.Numbers.{float}
use Rattle.mesh_lines.specs.Grammar.{flat}
use Rattle.listings.specs.Printing.{ListedRow, All, Fits}

module _ {A B : Type 0} (f : A → List B) where
  pub flat_append : (xs ys : List A) → flat f (xs ++ ys) ≡ flat f xs ++ flat f ys
  unfolding flat
  flat_append [] ys = refl
  flat_append (a ∷ xs) ys = ap (λ (l : List B). f a ++ l) (flat_append xs ys) ∙ sym (append_assoc (f a) (flat f xs) (flat f ys))

  pub flat-one : (a : A) → flat f (a ∷ []) ≡ f a
  unfolding flat
  flat-one a = append-nil (f a)

pub all-to : {A : Type 0} (P Q : A → Type 0) → ((a : A) → P a → Q a) → (l : List A) → All P l → All Q l
all-to P Q h [] a = tt
all-to P Q h (x ∷ l) a = (h x a.0, all-to P Q h l a.1)

-- a row has as many numbers as patterns
pub numbers-count : {nn nw : ℕ} (r : ListedRow) → Fits nn nw r → length (map float r.numbers) ≡ nn
numbers-count r o = length-map r.numbers float ∙ o.number-count

pub length-flat : {A B : Type 0} (f : A → List B) (w : ℕ) (l : List A) → All (λ a. length (f a) ≡ w) l → length (flat f l) ≡ length l * w
unfolding flat
length-flat f w [] h = let z : 0 * w ≡ 0 = omega arith in sym z
length-flat f w (a ∷ l) h =
    let e = h.0 in
    let i = length-flat f w l h.1 in
    let j = length-append (f a) (flat f l) in
    let k = suc-mul (length l) w in
    omega arith

-- the elements at b + j, b + (j + 1), ..
abbrev cells_from : {A : Type 0} → A → List A → ℕ → ℕ → ℕ → List A
cells_from d xs b j zero = []
cells_from d xs b j (suc k) = get_or xs (b + j) d ∷ cells_from d xs b (suc j) k

abbrev pub cells : {A : Type 0} → A → List A → ℕ → ℕ → List A
cells d xs b zero = []
cells d xs b (suc k) = get_or xs b d ∷ cells_from d xs b 1 k

module _ {A : Type 0} (d : A) (xs : List A) (b : ℕ) where
  part-from : (k j : ℕ) → b + j + k ≤ length xs → take k (drop (b + j) xs) ≡ cells_from d xs b j k
  part-from zero j h = refl
  part-from (suc k) j h =
      let e : suc (b + j) ≡ b + suc j = omega arith in
      ap (take (suc k)) (drop-cons xs (b + j) d (omega arith)) ∙ ap (λ (i : ℕ). get_or xs (b + j) d ∷ take k (drop i xs)) e
      ∙ ap (λ (l : List A). get_or xs (b + j) d ∷ l) (part-from k (suc j) (omega arith))

  pub part-cells : (k : ℕ) → b + k ≤ length xs → take k (drop b xs) ≡ cells d xs b k
  part-cells zero h = refl
  part-cells (suc k) h =
      let e : suc b ≡ b + 1 = omega arith in
      ap (take (suc k)) (drop-cons xs b d (omega arith)) ∙ ap (λ (i : ℕ). get_or xs b d ∷ take k (drop i xs)) e
      ∙ ap (λ (l : List A). get_or xs b d ∷ l) (part-from k 1 (omega arith))
