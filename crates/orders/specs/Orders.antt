-- Visiting orders, and what a pass over one marks.
--     window               how many faces one pass looks at
--     fresh base seen o    o is not among the faces base, base + 1, .. of the window, or is not marked yet
--     noted base seen o    the marks with o marked, if it is in the window
--     ApartAbove base ks   no face of the window stands twice in ks
--     Apart                the same of the first n entries
--     Marks base ks n seen the marks after n entries: a place is marked exactly if its face stands among them
use Rattle.std.specs.Prelude.{◌≡◌, Bool, true, false, not, cond, List, ◌≢◌, ℕ, ◌+◌, ◌-◌, ◌≤◌, ◌<◌, ltb, length, get_or, set}

abbrev pub window : ℕ
window = 65536

abbrev pub fresh : ℕ → List Bool → ℕ → Bool
fresh base seen o = cond (ltb o base) true (cond (ltb (o - base) window) (not (get_or seen (o - base) false)) true)

abbrev pub noted : ℕ → List Bool → ℕ → List Bool
noted base seen o = cond (ltb o base) seen (cond (ltb (o - base) window) (set seen (o - base) true) seen)

abbrev pub Apart : ℕ → List ℕ → ℕ → Type 0
Apart base ks n =
    (i j : ℕ) → i < n → j < i → base ≤ get_or ks i 0 → get_or ks i 0 < base + window → get_or ks i 0 ≢ get_or ks j 0

abbrev pub ApartAbove : ℕ → List ℕ → Type 0
ApartAbove base ks = Apart base ks (length ks)

pub record Marks (base : ℕ) (ks : List ℕ) (n : ℕ) (seen : List Bool) : Type 0 where
  pub size : length seen ≡ window
  pub marked-there : (v : ℕ) → get_or seen v false ≡ true → (j : ℕ) × (j < n) × (get_or ks j 0 ≡ base + v)
  pub there-marked : (j : ℕ) → j < n → base ≤ get_or ks j 0 → get_or ks j 0 < base + window → get_or seen (get_or ks j 0 - base) false ≡ true
