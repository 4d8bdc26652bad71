-- The tests of places, and when they fail in building's words: a third place on an edge, and a lone one. Assumes nothing.
--     earlier-less, less-earlier     the order of places is that of their numbers
--     third-triple, triple-third     a place is the third on its edge exactly if 14 is met there
--     lone-met, lone-not             a place is alone on its edge somewhere exactly if 20 is met
use mathlib.Core.Path.{◌≡◌, refl, sym, ◌∙◌, ap}
use mathlib.Core.Bool.{Bool, true, false, not, false≢true}
use mathlib.Core.Logic.{inl, inr}
use mathlib.Core.List.{List}
use Prim.Native.Nat.{ℕ, zero, suc, ◌+◌, ◌≤◌, ◌<◌}
use native.Mathlib.Omega.{arith}
use native.Mathlib.Decide.{ℕ_discrete, dec_lt}
use lib.Dec.{eqb}
use lib.ListN.{length}
use borrow.Author.Tests.{eq-eqb}
use Rattle.closed_meshes.proofs.Sums.{place-below}
use Rattle.audited_meshes.proofs.Tests.{and_is, eqb_is}
use Rattle.built_meshes.specs.Lists.{Lists, size, offset}
use Rattle.built_meshes.specs.Places.{point_of, next_of, IsPlace, Runs, Between, Earlier}
use Rattle.built_meshes.proofs.Versions.{every-false}
use Rattle.built_meshes.proofs.Before.{Triple}
use Rattle.mended_lists.specs.Edges.{FacePlace, places_of, mate, has_mate, third, follower, lone}
use Rattle.mended_lists.specs.Mending.{edges_shared}
use Rattle.mended_lists.specs.Grounds.{LoneEdge}
use Rattle.mended_lists.proofs.Edges.{latest-none, mate-last, mate-found, number-face, number-place, Numbered, numbered}
use Rattle.mended_lists.proofs.Choices.{between-place}
use Rattle.mended_lists.proofs.Passed.{OnEdge, on_below, on_same, on-mate, three, passed-paired}

-- ---- the order of places

module _ (l : Lists) where
  earlier-less : (g j f i : ℕ) → IsPlace l g j → Earlier g j f i → offset l g + j < offset l f + i
  unfolding offset
  earlier-less g j f i (a, b) (inl h) = omega (arith, place-below (λ f. size l f) g f j h b)
  earlier-less g j f i (a, b) (inr (e, h)) = let s : offset l g ≡ offset l f = ap (offset l) e in omega arith

  less-earlier : (g j f i : ℕ) → IsPlace l f i → offset l g + j < offset l f + i → Earlier g j f i
  unfolding offset
  less-earlier g j f i (a, b) h = go (dec_lt g f) (dec_lt f g)
    where
      go : Dec (g < f) → Dec (f < g) → Earlier g j f i
      go (yes s) t = inl s
      go (no s) (yes t) = absurd (omega (arith, place-below (λ f. size l f) f g i t b))
      go (no s) (no t) =
          let e : g ≡ f = omega arith in let s : offset l g ≡ offset l f = ap (offset l) e in inr (e, omega arith)

-- ---- 14

on : (l : Lists) (f i p q : ℕ) → Between l f i p q → OnEdge l p q (offset l f + i)
on l f i p q b = record { face = f; place = i; between = b; number = refl }

-- a third place has a mate that has a mate
mates-of-third : (ps : List FacePlace) (k : ℕ) → third ps k ≡ true → (m : ℕ) × (n : ℕ) × (mate ps k ≡ suc m) × (mate ps m ≡ suc n)
unfolding third
mates-of-third ps k h = first (mate ps k) refl h
  where
    first : (x : ℕ) → mate ps k ≡ x → has_mate ps x ≡ true → (m : ℕ) × (n : ℕ) × (mate ps k ≡ suc m) × (mate ps m ≡ suc n)
    first zero e t = absurd (false≢true t)
    first (suc m) e t = second (mate ps m) refl t
      where
        second : (y : ℕ) → mate ps m ≡ y → not (eqb y 0) ≡ true → (m : ℕ) × (n : ℕ) × (mate ps k ≡ suc m) × (mate ps m ≡ suc n)
        second zero d s = absurd (false≢true s)
        second (suc n) d s = (m, n, e, d)

module _ (l : Lists) (f i : ℕ) where
  pub third-triple : IsPlace l f i → third (places_of l) (offset l f + i) ≡ true → Triple l f i
  third-triple is t = go (mates-of-third (places_of l) (offset l f + i) t)
    where
      p : ℕ
      p = point_of l f i

      q : ℕ
      q = next_of l f i

      runs : Runs l f i (point_of l f i) (next_of l f i)
      runs = record { is-place = is; begins = refl; ends = refl }

      go :
          (m : ℕ) × (n : ℕ) × (mate (places_of l) (offset l f + i) ≡ suc m) × (mate (places_of l) m ≡ suc n) → Triple l f i
      go (m, n, e, d) =
          let a : OnEdge l (point_of l f i) (next_of l f i) m =
          on-mate l (point_of l f i) (next_of l f i) m (offset l f + i) (on l f i (point_of l f i) (next_of l f i) (inl runs)) e
          in
          let b : OnEdge l (point_of l f i) (next_of l f i) n = on-mate l (point_of l f i) (next_of l f i) n m a d in
          let x : m < offset l f + i = (mate-last (places_of l) (offset l f + i) m e).in-range in
          let y : n < m = (mate-last (places_of l) m n d).in-range in (
            a.face,
            a.place,
            b.face,
            b.place,
            point_of l f i,
            next_of l f i,
            runs,
            a.between,
            b.between,
            less-earlier l a.face a.place f i is (omega (arith, a.number)),
            less-earlier l b.face b.place f i is (omega (arith, b.number)),
            λ s. apart m n a.face a.place b.face b.place a.number b.number y s.0 s.1,
          )
        where
          apart :
              (m n g j h k : ℕ) → offset l g + j ≡ m → offset l h + k ≡ n → n < m → g ≡ h → j ≡ k → ⊥
          apart m n g j h k a b y s t = let o : offset l g ≡ offset l h = ap (offset l) s in omega arith

  pub triple-third : Triple l f i → third (places_of l) (offset l f + i) ≡ true
  triple-third (g, j, h, k, p, q, r, a, b, ea, eb, d) = go (dec_lt (offset l g + j) (offset l h + k)) (dec_lt (offset l h + k) (offset l g + j))
    where
      at_g : IsPlace l g j
      at_g = between-place l g j p q a

      at-h : IsPlace l h k
      at-h = between-place l h k p q b

      go :
          Dec (offset l g + j < offset l h + k) → Dec (offset l h + k < offset l g + j) → third (places_of l) (offset l f + i) ≡ true
      go (yes x) y =
          three l p q (offset l g + j) (offset l h + k) (offset l f + i) x (earlier-less l h k f i at-h eb) (on l g j p q a) (on l h k p q b)
          (on l f i p q (inl r))
      go (no x) (yes y) =
          three l p q (offset l h + k) (offset l g + j) (offset l f + i) y (earlier-less l g j f i at_g ea) (on l h k p q b) (on l g j p q a)
          (on l f i p q (inl r))
      go (no x) (no y) =
          let e : offset l g + j ≡ offset l h + k = omega arith in
          absurd (d (number-face l g j h k at_g at-h e, number-place l g j h k at_g at-h e))

-- ---- 20

module _ (l : Lists) (p q k : ℕ) (here : OnEdge l p q k) where
  -- the next place on the edge has place k as its mate
  next-on : (n x : ℕ) → x ≤ n → k < x → OnEdge l p q x → (y : ℕ) × (y < length (places_of l)) × (mate (places_of l) y ≡ suc k)
  next-on zero x b h o = absurd (omega arith)
  next-on (suc n) x b h o = go (mate-found (places_of l) x k h (on_same l p q k x here o)) (λ m c d. next-on n m c d)
    where
      go :
          (m : ℕ) × (mate (places_of l) x ≡ suc m) × (k ≤ m) →
          ((m : ℕ) → m ≤ n → k < m → OnEdge l p q m → (y : ℕ) × (y < length (places_of l)) × (mate (places_of l) y ≡ suc k)) →
          (y : ℕ) × (y < length (places_of l)) × (mate (places_of l) y ≡ suc k)
      go (m, e, c) further = this (ℕ_discrete m k)
        where
          less : m < x
          less = (mate-last (places_of l) x m e).in-range

          this : Dec (m ≡ k) → (y : ℕ) × (y < length (places_of l)) × (mate (places_of l) y ≡ suc k)
          this (yes s) = (x, on_below l p q x o, e ∙ ap suc s)
          this (no s) = further m (omega (arith, less)) (omega arith) (on-mate l p q m x o e)

  alone-on : mate (places_of l) k ≡ 0 → follower (places_of l) (length (places_of l)) k ≡ 0 → (x : ℕ) → OnEdge l p q x → x ≡ k
  unfolding follower
  alone-on none none_after x o = go (dec_lt x k) (dec_lt k x)
    where
      go : Dec (x < k) → Dec (k < x) → x ≡ k
      go (yes h) d = absurd (before (mate-found (places_of l) k x h (on_same l p q x k o here)))
        where
          before : (m : ℕ) × (mate (places_of l) k ≡ suc m) × (x ≤ m) → ⊥
          before (m, e, c) = let z : 0 ≡ suc m = sym none ∙ e in omega arith
      go (no d) (yes h) = absurd (after (next-on x x (omega arith) h o))
        where
          after : (y : ℕ) × (y < length (places_of l)) × (mate (places_of l) y ≡ suc k) → ⊥
          after (y, b, e) =
              false≢true
              (sym (latest-none (λ i. eqb (mate (places_of l) i) (suc k)) (length (places_of l)) none_after y b)
              ∙ eq-eqb (mate (places_of l) y) (suc k) e)
      go (no d) (no h) = omega arith

not-false : (t : Bool) → not t ≡ false → t ≡ true
not-false true e = refl
not-false false e = sym e

pub lone-met : (l : Lists) → edges_shared (places_of l) ≡ false → LoneEdge l
unfolding edges_shared lone
lone-met l h = go (every-false (length (places_of l)) (λ k. not (lone (places_of l) k)) h)
  where
    go : (k : ℕ) × (k < length (places_of l)) × (not (lone (places_of l) k) ≡ false) → LoneEdge l
    go (k, b, t) =
        let u : Numbered l k = numbered l k b in
        let z =
        (and_is (eqb_is (mate (places_of l) k) 0) (eqb_is (follower (places_of l) (length (places_of l)) k) 0)).0
        (not-false (lone (places_of l) k) t)
        in
        let runs : Runs l u.face u.place (point_of l u.face u.place) (next_of l u.face u.place) =
        record { is-place = u.is-place; begins = refl; ends = refl }
        in
        let here : OnEdge l (point_of l u.face u.place) (next_of l u.face u.place) k =
        record { face = u.face; place = u.place; between = inl runs; number = u.number }
        in
        record {
          p = point_of l u.face u.place;
          q = next_of l u.face u.place;
          f = u.face;
          i = u.place;
          runs = runs;
          none_other =
              λ g j o.
              let at : IsPlace l g j = between-place l g j (point_of l u.face u.place) (next_of l u.face u.place) o in
              let e : offset l u.face + u.place ≡ offset l g + j =
              u.number
              ∙ sym
              (alone-on l (point_of l u.face u.place) (next_of l u.face u.place) k here z.0 z.1 (offset l g + j)
              (on l g j (point_of l u.face u.place) (next_of l u.face u.place) o))
              in
              (number-face l u.face u.place g j u.is-place at e, number-place l u.face u.place g j u.is-place at e);
        }

pub lone-not : (l : Lists) → edges_shared (places_of l) ≡ true → ¬ LoneEdge l
lone-not l h e =
    let z = passed-paired l h e.f e.i e.p e.q e.runs in z.2 (e.none_other z.0 z.1 z.3)
