-- The laws of the places of all faces, and of mates. Assumes nothing.
use mathlib.Core.Path.{◌≡◌, refl, sym, ◌∙◌, ap}
use mathlib.Core.Bool.{Bool, true, false, false≢true}
use mathlib.Core.Logic.{◌⊎◌}
use mathlib.Core.List.{List}
use Prim.Native.Nat.{ℕ, zero, suc, ◌+◌, ◌≤◌, ◌<◌}
use native.Mathlib.Omega.{arith}
use native.Mathlib.Decide.{ℕ_discrete, dec_lt}
use lib.ListN.{length}
use Rattle.closed_meshes.specs.Renumbering.{sum_to}
use Rattle.closed_meshes.proofs.Sums.{place-below, place-unique, place_found}
use Rattle.audited_meshes.proofs.Tests.{Is, and_is, or_is, eqb_is}
use Rattle.built_meshes.specs.Lists.{Lists, faces_of, size, offset}
use Rattle.built_meshes.specs.Places.{IsPlace}
use Rattle.mended_lists.specs.Edges.{FacePlace, listed_place, places_of, place_at, same_edge, latest, mate}
use Rattle.mended_lists.proofs.InTurn.{length-in_turn, get_or-in_turn}

-- ---- the last number that passes a test

pub record Last (test : ℕ → Bool) (n j : ℕ) : Type 0 where
  pub in-range : j < n
  pub passes : test j ≡ true
  pub none-later : (i : ℕ) → j < i → i < n → test i ≡ false

pub latest-none : (test : ℕ → Bool) (n : ℕ) → latest test n ≡ 0 → (i : ℕ) → i < n → test i ≡ false
unfolding latest
latest-none test zero e i l = absurd (omega arith)
latest-none test (suc n) e i l = go (test n) refl (λ h. latest-none test n h i)
  where
    go : (b : Bool) → test n ≡ b → (latest test n ≡ 0 → i < n → test i ≡ false) → test i ≡ false
    go true t before = absurd (none (sym (rw t at e)))
      where
        none : 0 ≡ suc n → ⊥
        none z = omega arith
    go false t before = this (ℕ_discrete i n)
      where
        this : Dec (i ≡ n) → test i ≡ false
        this (yes q) = rw q t
        this (no q) = before (rw t at e) (omega arith)

pub latest-last : (test : ℕ → Bool) (n j : ℕ) → latest test n ≡ suc j → Last test n j
unfolding latest
latest-last test zero j e = absurd (none e)
  where
    none : 0 ≡ suc j → ⊥
    none z = omega arith
latest-last test (suc n) j e = go (test n) refl (λ h. latest-last test n j h)
  where
    go : (b : Bool) → test n ≡ b → (latest test n ≡ suc j → Last test n j) → Last test (suc n) j
    go true t before =
        let s : suc n ≡ suc j = rw t at e in
        let q : j ≡ n = omega arith in
        record { in-range = omega arith; passes = rw q t; none-later = λ i a b. absurd (none i a b q) }
      where
        none : (i : ℕ) → j < i → i < suc n → j ≡ n → ⊥
        none i a b q = omega arith
    go false t before = this (before (rw t at e))
      where
        this : Last test n j → Last test (suc n) j
        this r =
            record {
              in-range = omega (arith, r.in-range);
              passes = r.passes;
              none-later = λ i a b. later i a b (ℕ_discrete i n);
            }
          where
            later : (i : ℕ) → j < i → i < suc n → Dec (i ≡ n) → test i ≡ false
            later i a b (yes q) = rw q t
            later i a b (no q) = r.none-later i a (omega arith)

-- ---- mates

pub edge-is :
    (a b : FacePlace) →
    Is (same_edge a b) (((a.from ≡ b.from) × (a.to ≡ b.to)) ⊎ ((a.from ≡ b.to) × (a.to ≡ b.from)))
edge-is a b =
    or_is (and_is (eqb_is a.from b.from) (eqb_is a.to b.to))
    (and_is (eqb_is a.from b.to) (eqb_is a.to b.from))

module _ (ps : List FacePlace) (k : ℕ) where
  pub mate-last : (j : ℕ) → mate ps k ≡ suc j → Last (λ j. same_edge (place_at ps j) (place_at ps k)) k j
  unfolding mate
  mate-last j e = latest-last (λ j. same_edge (place_at ps j) (place_at ps k)) k j e

  -- a place before it on its edge is its mate, or there is one between
  pub mate-found : (j : ℕ) → j < k → same_edge (place_at ps j) (place_at ps k) ≡ true → (m : ℕ) × (mate ps k ≡ suc m) × (j ≤ m)
  unfolding mate
  mate-found j l e = go (mate ps k) refl
    where
      go : (m : ℕ) → mate ps k ≡ m → (m : ℕ) × (mate ps k ≡ suc m) × (j ≤ m)
      go zero q = absurd (false≢true (sym (latest-none (λ j. same_edge (place_at ps j) (place_at ps k)) k q j l) ∙ e))
      go (suc m) q = (m, q, this (dec_lt m j))
        where
          this : Dec (m < j) → j ≤ m
          this (yes h) = absurd (false≢true (sym ((mate-last m q).none-later j h l) ∙ e))
          this (no h) = omega arith

-- ---- the places of lists

module _ (l : Lists) where
  pub places-length : length (places_of l) ≡ offset l (faces_of l)
  unfolding places_of offset
  places-length = length-in_turn (faces_of l) (λ f. size l f) (λ f i. listed_place l f i)

  pub places-at : (f i : ℕ) → IsPlace l f i → place_at (places_of l) (offset l f + i) ≡ listed_place l f i
  unfolding places_of offset
  places-at f i (a, b) =
      get_or-in_turn (faces_of l) (λ f. size l f) (λ f i. listed_place l f i) f i (record { face = 0; from = 0; to = 0 }) a b

  pub number-below : (f i : ℕ) → IsPlace l f i → offset l f + i < length (places_of l)
  unfolding offset
  number-below f i (a, b) = rw places-length (place-below (λ f. size l f) f (faces_of l) i a b)

  pub number-face : (f i g j : ℕ) → IsPlace l f i → IsPlace l g j → offset l f + i ≡ offset l g + j → f ≡ g
  unfolding offset
  number-face f i g j (a, b) (c, d) e = place-unique (λ f. size l f) f g i j b d e

  pub number-place : (f i g j : ℕ) → IsPlace l f i → IsPlace l g j → offset l f + i ≡ offset l g + j → i ≡ j
  number-place f i g j p q e = let s : f ≡ g = number-face f i g j p q e in same (offset l f) (offset l g) (ap (offset l) s) e
    where
      same : (a b : ℕ) → a ≡ b → a + i ≡ b + j → i ≡ j
      same a b s t = omega arith

  pub record Numbered (k : ℕ) : Type 0 where
    pub face : ℕ
    pub place : ℕ
    pub is-place : IsPlace l face place
    pub number : offset l face + place ≡ k
    pub at : place_at (places_of l) k ≡ listed_place l face place

  pub numbered : (k : ℕ) → k < length (places_of l) → Numbered k
  unfolding offset
  numbered k b = go (place_found (λ f. size l f) (faces_of l) k (rw places-length at b))
    where
      go : (f : ℕ) × (f < faces_of l) × (i : ℕ) × (i < size l f) × (sum_to f (λ f. size l f) + i ≡ k) → Numbered k
      go (f, a, i, c, e) =
          record { face = f; place = i; is-place = (a, c); number = e; at = rw (← e) (places-at f i (a, c)) }
