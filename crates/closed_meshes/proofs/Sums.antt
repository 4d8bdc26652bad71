-- The places of a sum: below it, told apart, found. Assumes nothing.
use mathlib.Core.Path.{◌≡◌, refl}
use Prim.Native.Nat.{ℕ, zero, suc, ◌+◌, ◌-◌, ◌≤◌, ◌<◌}
use native.Mathlib.Omega.{arith}
use native.Mathlib.Decide.{dec_lt, dec_le}
use Rattle.closed_meshes.specs.Renumbering.{sum_to}

-- A place of a sum is a term k and a number r below the term. It stands at sum_to k g + r.
module _ (g : ℕ → ℕ) where
  sum_to-le : (k n : ℕ) → k ≤ n → sum_to k g ≤ sum_to n g
  unfolding sum_to
  sum_to-le k zero h = let e : k ≡ 0 = omega arith in rw e (omega arith)
  sum_to-le k (suc n) h = go (λ h'. sum_to-le k n h') (dec_le k n)
    where
      go : (k ≤ n → sum_to k g ≤ sum_to n g) → Dec (k ≤ n) → sum_to k g ≤ sum_to n g + g n
      go ih (yes h') = omega (arith, ih h')
      go ih (no h') = let e : k ≡ suc n = omega arith in rw e (omega arith)

  pub place-below : (k n r : ℕ) → k < n → r < g k → sum_to k g + r < sum_to n g
  place-below k n r h l =
      let le : sum_to (suc k) g ≤ sum_to n g = sum_to-le (suc k) n h in
      let e : sum_to (suc k) g ≡ sum_to k g + g k = unfold sum_to in refl in
      omega arith

  pub place-unique : (k k' r r' : ℕ) → r < g k → r' < g k' → sum_to k g + r ≡ sum_to k' g + r' → k ≡ k'
  place-unique k k' r r' l l' e = go (dec_lt k k') (dec_lt k' k)
    where
      go : Dec (k < k') → Dec (k' < k) → k ≡ k'
      go (yes h) d = let b : sum_to k g + r < sum_to k' g = place-below k k' r h l in omega arith
      go (no h) (yes h') = let b : sum_to k' g + r' < sum_to k g = place-below k' k r' h' l' in omega arith
      go (no h) (no h') = omega arith

  pub place_found : (n x : ℕ) → x < sum_to n g → (k : ℕ) × (k < n) × (r : ℕ) × (r < g k) × (sum_to k g + r ≡ x)
  unfolding sum_to
  place_found zero x h = absurd (omega arith)
  place_found (suc n) x h = go (λ h'. place_found n x h') (dec_lt x (sum_to n g))
    where
      go :
          (x < sum_to n g → (k : ℕ) × (k < n) × (r : ℕ) × (r < g k) × (sum_to k g + r ≡ x)) → Dec (x < sum_to n g) →
          (k : ℕ) × (k < suc n) × (r : ℕ) × (r < g k) × (sum_to k g + r ≡ x)
      go ih (yes h') = let t = ih h' in (t.0, omega (arith, t.1), t.2, t.3, t.4)
      go ih (no h') = (n, omega arith, x - sum_to n g, omega arith, omega arith)
