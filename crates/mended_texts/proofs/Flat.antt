-- Lists of lists joined: how long they are, and what stands where. Assumes nothing.
--     length-parts            the joined list is as long as its parts together
--     get_d_part               place r of part k
use mathlib.Core.Path.{◌≡◌, refl, ap, ◌∙◌}
use mathlib.Core.List.{List, [], ◌∷◌, ◌++◌}
use Prim.Native.Nat.{ℕ, zero, suc, ◌+◌, ◌<◌}
use native.Mathlib.Omega.{arith}
use lib.ListN.{length, get_or, length-append, get_or-append}
use lib.Seq.{get_or-append-add}
use Rattle.closed_meshes.specs.Renumbering.{sum_to}
use Rattle.mesh_lines.specs.Grammar.{flat}

sum_to-first : (n : ℕ) (s : ℕ → ℕ) → sum_to (suc n) s ≡ s 0 + sum_to n (λ k. s (suc k))
unfolding sum_to
sum_to-first zero s = omega arith
sum_to-first (suc n) s = let r = sum_to-first n s in omega arith

module _ {A B : Type 0} (g : A → List B) (a : A) where
  -- the parts have the lengths s
  abbrev pub Parts : List A → (ℕ → ℕ) → Type 0
  Parts l s = (k : ℕ) → k < length l → length (g (get_or l k a)) ≡ s k

  pub length-parts : (l : List A) (s : ℕ → ℕ) → Parts l s → length (flat g l) ≡ sum_to (length l) s
  unfolding flat sum_to
  length-parts [] s h = refl
  length-parts (x ∷ l) s h =
      let e = length-append (g x) (flat g l) in
      let f : sum_to (suc (length l)) s ≡ s 0 + sum_to (length l) (λ k. s (suc k)) = sum_to-first (length l) s in
      let z : length (g x) ≡ s 0 = h 0 (omega arith) in
      let r : length (flat g l) ≡ sum_to (length l) (λ k. s (suc k)) =
      length-parts l (λ k. s (suc k)) (λ k b. h (suc k) (omega arith)) in
      omega arith

  pub get_d_part :
      (l : List A) (s : ℕ → ℕ) (d : B) → Parts l s → (k r : ℕ) → k < length l → r < s k →
      get_or (flat g l) (sum_to k s + r) d ≡ get_or (g (get_or l k a)) r d
  unfolding flat sum_to
  get_d_part [] s d h k r b c = absurd (omega arith)
  get_d_part (x ∷ l) s d h zero r b c =
      let z : length (g x) ≡ s 0 = h 0 b in
      let q : 0 + r ≡ r = omega arith in
      ap (λ (i : ℕ). get_or (g x ++ flat g l) i d) q ∙ get_or-append (g x) (flat g l) d r (omega arith)
  get_d_part (x ∷ l) s d h (suc k) r b c =
      let z : length (g x) ≡ s 0 = h 0 (omega arith) in
      let f : sum_to (suc k) s ≡ s 0 + sum_to k (λ j. s (suc j)) = sum_to-first k s in
      let q : sum_to (suc k) s + r ≡ length (g x) + (sum_to k (λ j. s (suc j)) + r) = omega arith in
      ap (λ (i : ℕ). get_or (g x ++ flat g l) i d) q ∙ get_or-append-add (g x) (flat g l) (sum_to k (λ j. s (suc j)) + r) d
      ∙ get_d_part l (λ j. s (suc j)) d (λ j e. h (suc j) (omega arith)) k r (omega arith) c
