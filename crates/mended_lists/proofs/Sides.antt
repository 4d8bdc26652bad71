-- A turned face keeps each interval on its pair of points, and its first points agree if they did before. Assumes nothing.
use mathlib.Core.Path.{◌≡◌, refl, sym, ◌∙◌, ap}
use mathlib.Core.Bool.{Bool, true, false, cond}
use mathlib.Core.Logic.{inl, inr}
use Prim.Native.Nat.{ℕ, zero, suc, ◌+◌, ◌-◌, ◌≤◌, ◌<◌}
use native.Mathlib.Omega.{arith}
use native.Mathlib.Decide.{ℕ_discrete}
use lib.ListN.{get_or}
use lib.Ieee.{nan}
use Rattle.perimeters.specs.Places.{next_place}
use Rattle.perimeters.proofs.Laws.{next-below, next_more, next_last}
use Rattle.audited_meshes.proofs.Tests.{eqb_is, every-is}
use Rattle.built_meshes.specs.Lists.{Lists, faces_of, side_length, size}
use Rattle.built_meshes.specs.Faces.{side_from, last_before, first_at, firsts_fit}
use Rattle.built_meshes.specs.Places.{point_of, beside_of, IsPlace, Between}
use Rattle.mended_lists.specs.Reversal.{turned_point, turned_interval, turned_first, Choice, reversed}
use Rattle.mended_lists.specs.Claims.{IntervalsStay, FirstsAgree}
use Rattle.mended_lists.proofs.Reversal.{mirrored, mirrored-below, turned-last, turned-other, turned-turned, first-other}
use Rattle.mended_lists.proofs.Reversal.{reversed-size, reversed-offset, reversed-point, side-reversed, first-reversed, runs-kept, runs-turned}
use Rattle.mended_lists.proofs.Again.{interval-at}

-- ---- intervals

interval-next : (n i : ℕ) → i < n → turned_interval n (next_place n i) ≡ turned_point n i
interval-next n i l = go (ℕ_discrete (suc i) n)
  where
    go : Dec (suc i ≡ n) → turned_interval n (next_place n i) ≡ turned_point n i
    go (yes e) = rw (next_last n i e, turned-last n i e) (omega arith)
    go (no e) = rw (next_more n i (omega arith), turned-other n i e) (omega arith)

module _ (c : Choice) (l : Lists) (f i : ℕ) (at : IsPlace l f i) where
  beside_at : (j : ℕ) → j < size l f → beside_of (reversed c l) f j ≡ beside_of l f (cond (c f) (turned_interval (size l f) j) j)
  beside_at j b =
      ap (λ (x : ℕ). get_or (reversed c l).intervals (x + j) nan) (reversed-offset c l f (omega (arith, at.0)))
      ∙ interval-at c l f j (at.0, b)

  beside-kept : c f ≡ false → beside_of (reversed c l) f (next_place (size (reversed c l) f) i) ≡ beside_of l f (next_place (size l f) i)
  beside-kept e =
      ap (λ (x : ℕ). beside_of (reversed c l) f (next_place x i)) (reversed-size c l f at.0)
      ∙ beside_at (next_place (size l f) i) (next-below (size l f) i at.1) ∙ rw e

  beside-turned :
      c f ≡ true →
      beside_of (reversed c l) f (next_place (size (reversed c l) f) (mirrored (size l f) i)) ≡ beside_of l f (next_place (size l f) i)
  beside-turned e =
      ap (λ (x : ℕ). beside_of (reversed c l) f (next_place x (mirrored (size l f) i))) (reversed-size c l f at.0)
      ∙ beside_at (next_place (size l f) (mirrored (size l f) i)) (next-below (size l f) (mirrored (size l f) i) (mirrored-below (size l f) i at.1))
      ∙ rw e
      (ap (λ (x : ℕ). beside_of l f x)
      (interval-next (size l f) (mirrored (size l f) i) (mirrored-below (size l f) i at.1)
      ∙ turned-turned (size l f) (next_place (size l f) i) (next-below (size l f) i at.1)))

pub intervals-stay : IntervalsStay
intervals-stay c l f i p q r = go (c f) refl
  where
    go :
        (t : Bool) → c f ≡ t →
        (j : ℕ) × Between (reversed c l) f j p q
        × (beside_of (reversed c l) f (next_place (size (reversed c l) f) j) ≡ beside_of l f (next_place (size l f) i))
    go true e = (mirrored (size l f) i, inr (runs-turned c l f i p q e r), beside-turned c l f i r.is-place e)
    go false e = (i, inl (runs-kept c l f i p q e r), beside-kept c l f i r.is-place e)

-- ---- first points

-- the point before s of n places, seen from the other end
last-turned : (n s : ℕ) → s ≤ n → 0 < n → turned_point n (last_before n (n - s)) ≡ last_before n s
last-turned n zero a b =
    let e : n - 0 ≡ suc (n - 1) = omega arith in rw e (turned-last n (n - 1) (omega arith))
last-turned n (suc s) a b = go (ℕ_discrete (suc s) n)
  where
    go : Dec (suc s ≡ n) → turned_point n (last_before n (n - suc s)) ≡ s
    go (yes e) = let z : n - suc s ≡ 0 = omega arith in rw z (turned-last n (n - 1) (omega arith) ∙ omega arith)
    go (no e) =
        let z : n - suc s ≡ suc (n - suc (suc s)) = omega arith in
        rw z (turned-other n (n - suc (suc s)) (λ q. omega arith) ∙ omega arith)

pub last-below : (n s : ℕ) → s ≤ n → 0 < n → last_before n s < n
last-below n zero a b = omega arith
last-below n (suc s) a b = omega arith

-- how many points stand before side k of a turned face
from-turned :
    (c : Choice) (l : Lists) (f : ℕ) → f < faces_of l → c f ≡ true → (k : ℕ) → 0 < k → k < 4 →
    side_from (reversed c l) f 0 k ≡ size l f - side_from l f 0 (4 - k)
from-turned c l f a e = go
  where
    side : (k : ℕ) → k < 4 → side_length (reversed c l) f k ≡ side_length l f (3 - k)
    side k b = side-reversed c l f k a b ∙ rw e

    go : (k : ℕ) → 0 < k → k < 4 → side_from (reversed c l) f 0 k ≡ size l f - side_from l f 0 (4 - k)
    go zero p b = absurd (omega arith)
    go (suc zero) p b = omega (arith, side 0 (omega arith))
    go (suc (suc zero)) p b = omega (arith, side 0 (omega arith), side 1 (omega arith))
    go (suc (suc (suc zero))) p b = omega (arith, side 0 (omega arith), side 1 (omega arith), side 2 (omega arith))
    go (suc (suc (suc (suc k)))) p b = absurd (omega arith)

module _ (c : Choice) (l : Lists) (f : ℕ) (a : f < faces_of l) (some : 0 < size l f) where
  first-kept : c f ≡ false → (k : ℕ) → k < 4 → side_from (reversed c l) f 0 k ≡ side_from l f 0 k
  first-kept e = go
    where
      side : (k : ℕ) → k < 4 → side_length (reversed c l) f k ≡ side_length l f k
      side k b = side-reversed c l f k a b ∙ rw e

      go : (k : ℕ) → k < 4 → side_from (reversed c l) f 0 k ≡ side_from l f 0 k
      go zero b = refl
      go (suc zero) b = omega (arith, side 0 (omega arith))
      go (suc (suc zero)) b = omega (arith, side 0 (omega arith), side 1 (omega arith))
      go (suc (suc (suc zero))) b = omega (arith, side 0 (omega arith), side 1 (omega arith), side 2 (omega arith))
      go (suc (suc (suc (suc k)))) b = absurd (omega arith)

  from-within : (k : ℕ) → k < 4 → side_from l f 0 k ≤ size l f
  from-within zero b = omega arith
  from-within (suc zero) b = omega arith
  from-within (suc (suc zero)) b = omega arith
  from-within (suc (suc (suc zero))) b = omega arith
  from-within (suc (suc (suc (suc k)))) b = absurd (omega arith)

  -- the point listed last before s places of a turned face
  point-before :
      (s : ℕ) → s ≤ size l f →
      point_of (reversed c l) f (last_before (size l f) s)
      ≡ point_of l f (cond (c f) (turned_point (size l f) (last_before (size l f) s)) (last_before (size l f) s))
  point-before s b = reversed-point c l f (last_before (size l f) s) a (last-below (size l f) s b some)

  module _ (agree : (k : ℕ) → k < 4 → first_at l f k ≡ point_of l f (last_before (size l f) (side_from l f 0 k))) where
    each_first :
        (k : ℕ) → k < 4 → first_at (reversed c l) f k ≡ point_of (reversed c l) f (last_before (size l f) (side_from (reversed c l) f 0 k))
    each_first k b = go (c f) refl
      where
        kept :
            c f ≡ false → first_at (reversed c l) f k ≡ point_of (reversed c l) f (last_before (size l f) (side_from (reversed c l) f 0 k))
        kept e =
            rw (first-kept e k b)
            (first-reversed c l f k a b
            ∙ ap (λ (t : Bool). first_at l f (cond t (turned_first k) k)) e ∙ agree k b
            ∙ sym
            (point-before (side_from l f 0 k) (from-within k b)
            ∙ ap
            (λ (t : Bool).
            point_of l f
            (cond t (turned_point (size l f) (last_before (size l f) (side_from l f 0 k))) (last_before (size l f) (side_from l f 0 k)))) e))

        turned :
            c f ≡ true → Dec (k ≡ 0) →
            first_at (reversed c l) f k ≡ point_of (reversed c l) f (last_before (size l f) (side_from (reversed c l) f 0 k))
        turned e (yes z) =
            rw z
            (first-reversed c l f 0 a (omega arith)
            ∙ ap (λ (t : Bool). first_at l f (cond t 0 0)) e ∙ agree 0 (omega arith)
            ∙ sym
            (point-before 0 (omega arith)
            ∙ ap (λ (t : Bool). point_of l f (cond t (turned_point (size l f) (size l f - 1)) (size l f - 1))) e
            ∙ ap (λ (x : ℕ). point_of l f x) (turned-last (size l f) (size l f - 1) (omega arith))))
        turned e (no d) =
            rw (from-turned c l f a e k (omega arith) b)
            (first-reversed c l f k a b
            ∙ ap (λ (t : Bool). first_at l f (cond t (turned_first k) k)) e ∙ ap (λ (x : ℕ). first_at l f x) (first-other k d)
            ∙ agree (4 - k) (omega arith)
            ∙ sym
            (point-before (size l f - side_from l f 0 (4 - k)) (omega arith)
            ∙ ap
            (λ (t : Bool).
            point_of l f
            (cond t (turned_point (size l f) (last_before (size l f) (size l f - side_from l f 0 (4 - k))))
            (last_before (size l f) (size l f - side_from l f 0 (4 - k))))) e
            ∙ ap (λ (x : ℕ). point_of l f x)
            (last-turned (size l f) (side_from l f 0 (4 - k)) (from-within (4 - k) (omega arith)) some)))

        go : (t : Bool) → c f ≡ t → first_at (reversed c l) f k ≡ point_of (reversed c l) f (last_before (size l f) (side_from (reversed c l) f 0 k))
        go true e = turned e (ℕ_discrete k 0)
        go false e = kept e

pub firsts-agree : FirstsAgree
unfolding firsts_fit
firsts-agree c l f a some h =
    (every-is 4
    (λ k. eqb_is (first_at (reversed c l) f k) (point_of (reversed c l) f (last_before (size (reversed c l) f) (side_from (reversed c l) f 0 k))))).1
    (λ k b.
    each_first c l f a some
    ((every-is 4 (λ k. eqb_is (first_at l f k) (point_of l f (last_before (size l f) (side_from l f 0 k))))).0 h) k b
    ∙ ap (λ (x : ℕ). point_of (reversed c l) f (last_before x (side_from (reversed c l) f 0 k))) (sym (reversed-size c l f a)))
