-- Steps that no two numbers share, among finitely many. Assumes nothing.
--     iter step a k          a steps from k
--     comes-to, to-comes     `comes` is that some number of steps leads there
--     pigeons                of more numbers than there are values, two have one value
--     comes-round            each comes back to itself
--     short-way              what any number of steps reaches, at most n do
--     back_from              what comes to s is come to from s
use mathlib.Core.Path.{◌≡◌, refl, sym, ◌∙◌, ap}
use mathlib.Core.Bool.{Bool, true, false, cond, false≢true}
use mathlib.Core.Logic.{◌≢◌, ◌⊎◌, inl, inr}
use Prim.Native.Nat.{ℕ, zero, suc, ◌+◌, ◌-◌, ◌*◌, ◌≤◌, ◌<◌}
use native.Mathlib.Omega.{arith}
use native.Mathlib.Decide.{ℕ_discrete, dec_lt}
use lib.Dec.{eqb}
use borrow.Author.Tests.{eqb-true, eq-eqb}
use Rattle.mended_lists.proofs.Reversal.{eqb-false}
use Rattle.whole_grounds.specs.Turning.{comes}

abbrev pub iter : (ℕ → ℕ) → ℕ → ℕ → ℕ
iter step zero k = k
iter step (suc a) k = iter step a (step k)

pub iter-add : (step : ℕ → ℕ) (a b k : ℕ) → iter step (a + b) k ≡ iter step b (iter step a k)
iter-add step zero b k = let e : 0 + b ≡ b = omega arith in ap (λ (x : ℕ). iter step x k) e
iter-add step (suc a) b k =
    let e : suc a + b ≡ suc (a + b) = omega arith in ap (λ (x : ℕ). iter step x k) e ∙ iter-add step a b (step k)

pub iter-more : (step : ℕ → ℕ) (a k : ℕ) → iter step (suc a) k ≡ step (iter step a k)
iter-more step zero k = refl
iter-more step (suc a) k = iter-more step a (step k)

-- ---- what is come to

pub comes-to : (step : ℕ → ℕ) (n k s : ℕ) → comes step n k s ≡ true → (a : ℕ) × (a ≤ n) × (iter step a k ≡ s)
unfolding comes
comes-to step zero k s h = (0, omega arith, eqb-true k s h)
comes-to step (suc n) k s h = go (eqb k s) refl (λ z. comes-to step n (step k) s z) h
  where
    go : (b : Bool) → eqb k s ≡ b → (comes step n (step k) s ≡ true → (a : ℕ) × (a ≤ n) × (iter step a (step k) ≡ s)) →
        cond b true (comes step n (step k) s) ≡ true → (a : ℕ) × (a ≤ suc n) × (iter step a k ≡ s)
    go true e rest h = (0, omega arith, eqb-true k s e)
    go false e rest h = let w = rest h in (suc w.0, omega (arith, w.1), w.2)

pub to-comes : (step : ℕ → ℕ) (n k s a : ℕ) → a ≤ n → iter step a k ≡ s → comes step n k s ≡ true
unfolding comes
to-comes step zero k s zero b e = eq-eqb k s e
to-comes step zero k s (suc a) b e = absurd (omega arith)
to-comes step (suc n) k s zero b e = rw (eq-eqb k s e)
to-comes step (suc n) k s (suc a) b e = go (eqb k s) (to-comes step n (step k) s a (omega arith) e)
  where
    go : (t : Bool) → comes step n (step k) s ≡ true → cond t true (comes step n (step k) s) ≡ true
    go true h = refl
    go false h = h

-- ---- two of many

-- a number up to n with the value v, or none
look : (n : ℕ) (f : ℕ → ℕ) (v : ℕ) → ((i : ℕ) × (i ≤ n) × (f i ≡ v)) ⊎ ((i : ℕ) → i ≤ n → f i ≢ v)
look zero f v = go (ℕ_discrete (f 0) v)
  where
    go : Dec (f 0 ≡ v) → ((i : ℕ) × (i ≤ 0) × (f i ≡ v)) ⊎ ((i : ℕ) → i ≤ 0 → f i ≢ v)
    go (yes e) = inl (0, omega arith, e)
    go (no d) = inr (λ i b e. let z : i ≡ 0 = omega arith in d (ap f (sym z) ∙ e))
look (suc n) f v = go (ℕ_discrete (f (suc n)) v) (look n f v)
  where
    go : Dec (f (suc n) ≡ v) → ((i : ℕ) × (i ≤ n) × (f i ≡ v)) ⊎ ((i : ℕ) → i ≤ n → f i ≢ v) →
        ((i : ℕ) × (i ≤ suc n) × (f i ≡ v)) ⊎ ((i : ℕ) → i ≤ suc n → f i ≢ v)
    go (yes e) rest = inl (suc n, omega arith, e)
    go (no d) (inl w) = inl (w.0, omega (arith, w.1), w.2)
    go (no d) (inr none) = inr (λ i b e. this i b e (ℕ_discrete i (suc n)))
      where
        this : (i : ℕ) → i ≤ suc n → f i ≡ v → Dec (i ≡ suc n) → ⊥
        this i b e (yes q) = d (ap f (sym q) ∙ e)
        this i b e (no q) = none i (omega arith) e

pub record Twins (n : ℕ) (f : ℕ → ℕ) : Type 0 where
  pub i : ℕ
  pub j : ℕ
  pub less : i < j
  pub within : j ≤ n
  pub same : f i ≡ f j

-- a value that would be n made the last one
lowered : ℕ → (ℕ → ℕ) → ℕ → ℕ
lowered n f i = cond (eqb (f i) n) (f (suc n)) (f i)

pub pigeons : (n : ℕ) (f : ℕ → ℕ) → ((i : ℕ) → i ≤ n → f i < n) → Twins n f
unfolding lowered
pigeons zero f h = absurd (let z = h 0 (omega arith) in omega (arith, z))
pigeons (suc n) f h = go (look n f (f (suc n))) (λ b. pigeons n (lowered n f) b)
  where
    go :
        ((i : ℕ) × (i ≤ n) × (f i ≡ f (suc n))) ⊎ ((i : ℕ) → i ≤ n → f i ≢ f (suc n)) →
        (((i : ℕ) → i ≤ n → lowered n f i < n) → Twins n (lowered n f)) → Twins (suc n) f
    go (inl w) fewer = record { i = w.0; j = suc n; less = omega (arith, w.1); within = omega arith; same = w.2 }
    go (inr none) fewer = found (fewer (λ i b. low i b (ℕ_discrete (f i) n)))
      where
        low : (i : ℕ) → i ≤ n → Dec (f i ≡ n) → lowered n f i < n
        low i b (yes e) =
            let x : f (suc n) < suc n = h (suc n) (omega arith) in
            let y : f (suc n) ≢ n = λ q. none i b (e ∙ sym q) in
            let z : lowered n f i ≡ f (suc n) = rw (eq-eqb (f i) n e) in
            rw z (below (f (suc n)) x y)
          where
            below : (v : ℕ) → v < suc n → v ≢ n → v < n
            below v x y = go' (ℕ_discrete v n)
              where
                go' : Dec (v ≡ n) → v < n
                go' (yes q) = absurd (y q)
                go' (no q) = omega arith
        low i b (no d) =
            let x : f i < suc n = h i (omega arith) in
            let z : lowered n f i ≡ f i = rw (eqb-false (f i) n d) in
            rw z (omega (arith, d))

        found : Twins n (lowered n f) → Twins (suc n) f
        found w =
            record {
              i = w.i;
              j = w.j;
              less = w.less;
              within = omega (arith, w.within);
              same = same (ℕ_discrete (f w.i) n) (ℕ_discrete (f w.j) n);
            }
          where
            same : Dec (f w.i ≡ n) → Dec (f w.j ≡ n) → f w.i ≡ f w.j
            same (yes a) (yes b) = a ∙ sym b
            same (yes a) (no b) =
                let p : lowered n f w.i ≡ f (suc n) = rw (eq-eqb (f w.i) n a) in
                let q : lowered n f w.j ≡ f w.j = rw (eqb-false (f w.j) n b) in
                absurd (none w.j w.within (sym q ∙ sym w.same ∙ p))
            same (no a) (yes b) =
                let p : lowered n f w.i ≡ f w.i = rw (eqb-false (f w.i) n a) in
                let q : lowered n f w.j ≡ f (suc n) = rw (eq-eqb (f w.j) n b) in
                absurd (none w.i (omega (arith, w.less, w.within)) (sym p ∙ w.same ∙ q))
            same (no a) (no b) =
                let p : lowered n f w.i ≡ f w.i = rw (eqb-false (f w.i) n a) in
                let q : lowered n f w.j ≡ f w.j = rw (eqb-false (f w.j) n b) in
                sym p ∙ w.same ∙ q

-- ---- steps among n numbers that no two share

module _ (step : ℕ → ℕ) (n : ℕ) (stays : (k : ℕ) → k < n → step k < n)
    (shares : (j k : ℕ) → j < n → k < n → step j ≡ step k → j ≡ k) where
  iter-below : (a k : ℕ) → k < n → iter step a k < n
  iter-below zero k b = b
  iter-below (suc a) k b = iter-below a (step k) (stays k b)

  pub iter-shares : (a j k : ℕ) → j < n → k < n → iter step a j ≡ iter step a k → j ≡ k
  iter-shares zero j k b c e = e
  iter-shares (suc a) j k b c e = shares j k b c (iter-shares a (step j) (step k) (stays j b) (stays k c) e)

  -- each number comes back within n steps
  pub comes-round : (k : ℕ) → k < n → (d : ℕ) × (0 < d) × (d ≤ n) × (iter step d k ≡ k)
  comes-round k b = go (pigeons n (λ a. iter step a k) (λ a h. iter-below a k b))
    where
      go : Twins n (λ a. iter step a k) → (d : ℕ) × (0 < d) × (d ≤ n) × (iter step d k ≡ k)
      go w = (
        w.j - w.i,
        omega (arith, w.less),
        omega (arith, w.within),
        iter-shares w.i (iter step (w.j - w.i) k) k (iter-below (w.j - w.i) k b) b
            (sym (iter-add step (w.j - w.i) w.i k)
            ∙ ap (λ (x : ℕ). iter step x k) (let z : w.j - w.i + w.i ≡ w.j = omega (arith, w.less) in z)
            ∙ sym w.same),
      )

  pub short-way : (k s : ℕ) → k < n → (a : ℕ) → iter step a k ≡ s → (c : ℕ) × (c ≤ n) × (iter step c k ≡ s)
  short-way k s b a e = go a a (omega arith) e
    where
      d : (d : ℕ) × (0 < d) × (d ≤ n) × (iter step d k ≡ k)
      d = comes-round k b

      go : (fuel a : ℕ) → a ≤ fuel → iter step a k ≡ s → (c : ℕ) × (c ≤ n) × (iter step c k ≡ s)
      go zero a h e = (a, omega arith, e)
      go (suc fuel) a h e = this (dec_lt n a) (λ b. go fuel (a - d.0) b)
        where
          this :
              Dec (n < a) → (a - d.0 ≤ fuel → iter step (a - d.0) k ≡ s → (c : ℕ) × (c ≤ n) × (iter step c k ≡ s)) →
              (c : ℕ) × (c ≤ n) × (iter step c k ≡ s)
          this (no q) fewer = (a, omega arith, e)
          this (yes q) fewer =
              let split : d.0 + (a - d.0) ≡ a = omega (arith, d.2) in
              fewer (omega (arith, d.1, d.2))
              (ap (iter step (a - d.0)) (sym d.3) ∙ sym (iter-add step d.0 (a - d.0) k)
              ∙ ap (λ (x : ℕ). iter step x k) split ∙ e)

  -- what comes to s is come to from s
  pub back_from : (a x s : ℕ) → x < n → iter step a x ≡ s → (c : ℕ) × (iter step c s ≡ x)
  back_from zero x s b e = (0, sym e)
  back_from (suc a) x s b e = go (back_from a (step x) s (stays x b) e) (comes-round x b)
    where
      go :
          (c : ℕ) × (iter step c s ≡ step x) → (d : ℕ) × (0 < d) × (d ≤ n) × (iter step d x ≡ x) → (c : ℕ) × (iter step c s ≡ x)
      go (c, r) (zero, pos, le, q) = absurd (omega arith)
      go (c, r) (suc d, pos, le, q) = (c + d, iter-add step c d s ∙ ap (iter step d) r ∙ q)
