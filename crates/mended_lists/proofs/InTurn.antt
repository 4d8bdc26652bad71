-- The laws of lists given by their parts: their lengths, and what stands where. Assumes nothing.
use mathlib.Core.Path.{◌≡◌, refl, sym, ◌∙◌, ap}
use mathlib.Core.List.{List, [], ◌∷◌, ◌++◌}
use Prim.Native.Nat.{ℕ, zero, suc, ◌+◌, ◌*◌, ◌<◌}
use native.Mathlib.Omega.{arith}
use native.Mathlib.Decide.{ℕ_discrete}
use lib.ListN.{length, get_or, length-append, get_or-append}
use lib.Seq.{get_or-append-add, get_or-append_seam, ext_get_or}
use Rattle.closed_meshes.specs.Renumbering.{sum_to}
use Rattle.closed_meshes.proofs.Sums.{place-below, place_found}
use Rattle.mended_lists.specs.InTurn.{up_to, in_turn}

pub sum_to-same : (n : ℕ) (g h : ℕ → ℕ) → ((k : ℕ) → k < n → g k ≡ h k) → sum_to n g ≡ sum_to n h
unfolding sum_to
sum_to-same zero g h e = refl
sum_to-same (suc n) g h e = go (sum_to-same n g h (λ k l. e k (omega arith))) (e n (omega arith))
  where
    go : sum_to n g ≡ sum_to n h → g n ≡ h n → sum_to n g + g n ≡ sum_to n h + h n
    go a b = rw (a, b)

pub sum_to-four : (n : ℕ) → sum_to n (λ k. 4) ≡ n * 4
unfolding sum_to
sum_to-four zero = refl
sum_to-four (suc n) = omega (arith, sum_to-four n)

module _ {A : Type 0} where
  length-up_to : (n : ℕ) (g : ℕ → A) → length (up_to n g) ≡ n
  unfolding up_to
  length-up_to zero g = refl
  length-up_to (suc n) g = length-append (up_to n g) (g n ∷ []) ∙ rw (length-up_to n g) (omega arith)

  get_or-up_to : (n : ℕ) (g : ℕ → A) (i : ℕ) (d : A) → i < n → get_or (up_to n g) i d ≡ g i
  unfolding up_to
  get_or-up_to zero g i d l = absurd (omega arith)
  get_or-up_to (suc n) g i d l = go (ℕ_discrete i n) (λ h. get_or-up_to n g i d h)
    where
      go : Dec (i ≡ n) → (i < n → get_or (up_to n g) i d ≡ g i) → get_or (up_to n g ++ g n ∷ []) i d ≡ g i
      go (yes e) before =
          let k : i ≡ length (up_to n g) = e ∙ sym (length-up_to n g) in
          ap (λ (x : ℕ). get_or (up_to n g ++ g n ∷ []) x d) k ∙ get_or-append_seam (up_to n g) (g n) [] d ∙ ap g (sym e)
      go (no e) before =
          get_or-append (up_to n g) (g n ∷ []) d i (omega (arith, length-up_to n g)) ∙ before (omega arith)

  pub length-in_turn : (n : ℕ) (s : ℕ → ℕ) (h : ℕ → ℕ → A) → length (in_turn n s h) ≡ sum_to n s
  unfolding in_turn sum_to
  length-in_turn zero s h = refl
  length-in_turn (suc n) s h =
      length-append (in_turn n s h) (up_to (s n) (h n)) ∙ rw (length-in_turn n s h, length-up_to (s n) (h n))

  pub get_or-in_turn :
      (n : ℕ) (s : ℕ → ℕ) (h : ℕ → ℕ → A) (k r : ℕ) (d : A) → k < n → r < s k → get_or (in_turn n s h) (sum_to k s + r) d ≡ h k r
  unfolding in_turn
  get_or-in_turn zero s h k r d l m = absurd (omega arith)
  get_or-in_turn (suc n) s h k r d l m = go (ℕ_discrete k n) (λ b. get_or-in_turn n s h k r d b m)
    where
      go :
          Dec (k ≡ n) → (k < n → get_or (in_turn n s h) (sum_to k s + r) d ≡ h k r) →
          get_or (in_turn n s h ++ up_to (s n) (h n)) (sum_to k s + r) d ≡ h k r
      go (yes e) before =
          rw (e, ← (length-in_turn n s h))
          (get_or-append-add (in_turn n s h) (up_to (s n) (h n)) r d ∙ get_or-up_to (s n) (h n) r d (rw e at m))
      go (no e) before =
          let b : k < n = omega arith in
          get_or-append (in_turn n s h) (up_to (s n) (h n)) d (sum_to k s + r)
          (rw (length-in_turn n s h) (place-below s k n r b m))
          ∙ before b

  -- a list whose values are those of the parts
  pub in_turn-is :
      (n : ℕ) (s : ℕ → ℕ) (h : ℕ → ℕ → A) (l : List A) (d : A) → length l ≡ sum_to n s →
      ((k r : ℕ) → k < n → r < s k → get_or l (sum_to k s + r) d ≡ h k r) → in_turn n s h ≡ l
  in_turn-is n s h l d e v = ext_get_or d (in_turn n s h) l (length-in_turn n s h ∙ sym e) each
    where
      each : (i : ℕ) → i < length (in_turn n s h) → get_or (in_turn n s h) i d ≡ get_or l i d
      each i b = go (place_found s n i (rw (length-in_turn n s h) at b))
        where
          go : (k : ℕ) × (k < n) × (r : ℕ) × (r < s k) × (sum_to k s + r ≡ i) → get_or (in_turn n s h) i d ≡ get_or l i d
          go (k, a, r, m, q) = rw (← q) (get_or-in_turn n s h k r d a m ∙ sym (v k r a m))
