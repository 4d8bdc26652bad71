-- The laws of values moved within a stretch: what of a stretch put into opposite order makes a face turned. Assumes nothing.
use mathlib.Core.Path.{◌≡◌, refl}
use mathlib.Core.Bool.{Bool, true, false, cond}
use mathlib.Core.Logic.{◌⊎◌, inl, inr}
use mathlib.Core.List.{List}
use Prim.Native.Nat.{ℕ, suc, ◌+◌, ◌-◌, ◌*◌, ◌≤◌, ◌<◌}
use native.Mathlib.Omega.{arith}
use native.Mathlib.Decide.{ℕ_discrete}
use lib.ListN.{get_or}
use lib.Ieee.{nan}
use Rattle.built_meshes.specs.Lists.{Lists}
use Rattle.mended_lists.specs.Reversal.{turned_point, turned_interval, turned_side, turned_first}
use Rattle.mended_lists.proofs.Reversal.{turned-last, turned-other, first-other}
use Rattle.face_turning.specs.Moved.{Moved, FaceTurned}

-- ---- one face

pub moved_nowhere : {A : Type 0} (d : A) (a n : ℕ) (xs : List A) → Moved d a n (λ i. i) xs xs
moved_nowhere d a n xs = record { inside = λ i b. refl; outside = λ j p. refl }

-- the second first point and the fourth change places
firsts-moved :
    (b : ℕ) (xs ys : List ℕ) → Moved 0 (b + 1) 3 (λ k. turned_interval 3 k) xs ys → Moved 0 b 4 (λ k. turned_first k) xs ys
firsts-moved b xs ys m = record { inside = λ k l. inside k l (ℕ_discrete k 0); outside = outside }
  where
    inside : (k : ℕ) → k < 4 → Dec (k ≡ 0) → get_or ys (b + k) 0 ≡ get_or xs (b + turned_first k) 0
    inside k l (yes e) = rw e (m.outside (b + 0) (inl (omega arith)))
    inside k l (no e) =
        let from : b + 1 + (k - 1) ≡ b + k = omega arith in
        let to : b + 1 + (3 - 1 - (k - 1)) ≡ b + (4 - k) = omega arith in
        rw (first-other k e) (rw (from, to) at (m.inside (k - 1) (omega arith)))

    outside : (j : ℕ) → (j < b) ⊎ (b + 4 ≤ j) → get_or ys j 0 ≡ get_or xs j 0
    outside j (inl p) = m.outside j (inl (omega arith))
    outside j (inr p) = m.outside j (inr (omega arith))

-- all points but the last are put into opposite order
points-moved :
    (a n : ℕ) (xs ys : List ℕ) → Moved 0 a (n - 1) (λ i. turned_interval (n - 1) i) xs ys → Moved 0 a n (λ i. turned_point n i) xs ys
points-moved a n xs ys m = record { inside = λ i l. inside i l (ℕ_discrete (suc i) n); outside = outside }
  where
    inside : (i : ℕ) → i < n → Dec (suc i ≡ n) → get_or ys (a + i) 0 ≡ get_or xs (a + turned_point n i) 0
    inside i l (yes e) = rw (turned-last n i e) (m.outside (a + i) (inr (omega arith)))
    inside i l (no e) =
        let to : n - 1 - 1 - i ≡ n - 2 - i = omega arith in
        rw (turned-other n i e) (rw to at (m.inside i (omega arith)))

    outside : (j : ℕ) → (j < a) ⊎ (a + n ≤ j) → get_or ys j 0 ≡ get_or xs j 0
    outside j (inl p) = m.outside j (inl p)
    outside j (inr p) = m.outside j (inr (omega arith))

pub face-left : (t : Bool) (f a n : ℕ) (l : Lists) → t ≡ false → FaceTurned t f a n l l
face-left t f a n l e =
    rw e
    (record {
      sides = moved_nowhere 0 (f * 4) 4 l.sides;
      firsts = moved_nowhere 0 (f * 4) 4 l.firsts;
      listed = moved_nowhere 0 a n l.listed;
      intervals = moved_nowhere nan a n l.intervals;
    })

pub face-turned :
    (t : Bool) (f a n r : ℕ) (l m : Lists) → t ≡ true → r ≡ n - 1 →
    Moved 0 (f * 4) 4 (λ k. turned_interval 4 k) l.sides m.sides →
    Moved 0 (f * 4 + 1) 3 (λ k. turned_interval 3 k) l.firsts m.firsts →
    Moved 0 a r (λ i. turned_interval r i) l.listed m.listed →
    Moved nan a n (λ i. turned_interval n i) l.intervals m.intervals → FaceTurned t f a n l m
face-turned t f a n r l m e q ss fs ls is =
    rw e
    (record {
      sides = ss;
      firsts = firsts-moved (f * 4) l.firsts m.firsts fs;
      listed = points-moved a n l.listed m.listed (rw q at ls);
      intervals = is;
    })
