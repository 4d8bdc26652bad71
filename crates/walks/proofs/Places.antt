-- Words that are found by the number s of the end of an edge, or of its side, that has the row n: the words of the two ends, and of the two
-- sides, stand at the places b and b + 1 of the list es, i is the first of them, and w the one that is found. Assumes nothing.
--     place-one-of              whether the word that is found is n says whether one of the two is n
--     place-choice              what a function of the number gives is the choice of what it gives for 0 and for 1
use mathlib.Core.Path.{◌≡◌, refl, ◌∙◌, ap}
use mathlib.Core.Bool.{Bool, true, false, ◌||◌, cond}
use mathlib.Core.List.{List}
use Prim.Native.Nat.{ℕ, ◌+◌}
use native.Mathlib.Omega.{arith}
use lib.Dec.{eqb}
use lib.ListN.{get_or}
use Rattle.walks.specs.Places.{end_number}

more-none : (b : ℕ) → b + 0 ≡ b
more-none b = omega arith

found : (es : List ℕ) (b n : ℕ) → eqb (get_or es (b + end_number (get_or es b 0) n) 0) n ≡ (eqb (get_or es b 0) n || eqb (get_or es (b + 1) 0) n)
found es b n = go (eqb (get_or es b 0) n) refl
  where
    go : (t : Bool) → eqb (get_or es b 0) n ≡ t → eqb (get_or es (b + cond t 0 1) 0) n ≡ (t || eqb (get_or es (b + 1) 0) n)
    go true h = ap (λ (i : ℕ). eqb (get_or es i 0) n) (more-none b) ∙ h
    go false h = refl

module _ (es : List ℕ) (b n : ℕ) {s i : ℕ} (first : i ≡ get_or es b 0) (at : s ≡ end_number i n) where
  number : s ≡ end_number (get_or es b 0) n
  number = at ∙ ap (λ (x : ℕ). end_number x n) first

  pub place-one-of : {w : ℕ} → w ≡ get_or es (b + s) 0 → eqb w n ≡ (eqb (get_or es b 0) n || eqb (get_or es (b + 1) 0) n)
  place-one-of word = ap (λ (x : ℕ). eqb x n) (word ∙ ap (λ (j : ℕ). get_or es (b + j) 0) number) ∙ found es b n

  pub place-choice : (f : ℕ → ℕ) {x y : ℕ} → f 0 ≡ x → f 1 ≡ y → f s ≡ cond (eqb (get_or es b 0) n) x y
  place-choice f {x} {y} hx hy = ap f number ∙ go (eqb (get_or es b 0) n)
    where
      go : (t : Bool) → f (cond t 0 1) ≡ cond t x y
      go true = hx
      go false = hy
