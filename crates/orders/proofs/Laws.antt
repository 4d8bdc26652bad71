-- The laws of the marks that a pass over an order makes. Assumes nothing.
use mathlib.Core.Path.{◌≡◌, refl, sym, ◌∙◌, ap, subst}
use mathlib.Core.Bool.{Bool, true, false, false≢true}
use mathlib.Core.List.{List}
use mathlib.Core.Logic.{◌≢◌}
use Prim.Native.Nat.{ℕ, zero, suc, ◌+◌, ◌-◌, ◌*◌, ◌/◌, ◌≤◌, ◌<◌}
use native.Mathlib.Omega.{arith}
use native.Mathlib.Decide.{dec_lt, ℕ_discrete}
use native.Mathlib.Nat.{not-suc-le-zero}
use borrow.Author.Tests.{lt-ltb, le-ltb, not-true, not-false}
use lib.ListN.{length, get_or, set, replicate, length-set, length-replicate}
use lib.Seq.{get_or-set_same, get_or-set_other}
use Rattle.audited_meshes.specs.Folds.{distinct, Distinct}
use Rattle.audited_meshes.proofs.Folds.{below_suc}
use Rattle.audited_meshes.proofs.Audited.{distinct-is}
use Rattle.orders.specs.Orders.{window, fresh, noted, Apart, ApartAbove, Marks}

-- a place past the end is not marked
get_or-replicate-false : (k v : ℕ) → get_or (replicate k false) v false ≡ false
get_or-replicate-false zero v = refl
get_or-replicate-false (suc k) zero = refl
get_or-replicate-false (suc k) (suc v) = get_or-replicate-false k v

pub marks-none : (base : ℕ) (ks : List ℕ) → Marks base ks 0 (replicate window false)
marks-none base ks =
    record {
      size = length-replicate {A = Bool} window false;
      marked-there = λ v h. absurd (false≢true (sym (get_or-replicate-false window v) ∙ h));
      there-marked = λ j l. absurd (not-suc-le-zero l);
    }

module _ (base : ℕ) (ks : List ℕ) (n : ℕ) (seen : List Bool) (marks : Marks base ks n seen) where
  -- an entry out of the window leaves the marks as they are
  outside : (base ≤ get_or ks n 0 → get_or ks n 0 < base + window → ⊥) → Marks base ks (suc n) seen
  outside out =
      record {
        size = marks.size;
        marked-there = λ v h. let (j, l, e) = marks.marked-there v h in (j, omega arith, e);
        there-marked = λ j l.
            below_suc {A = base ≤ get_or ks j 0 → get_or ks j 0 < base + window → get_or seen (get_or ks j 0 - base) false ≡ true} j n l
            (marks.there-marked j)
            (λ e. subst (λ (i : ℕ). base ≤ get_or ks i 0 → get_or ks i 0 < base + window → get_or seen (get_or ks i 0 - base) false ≡ true) (sym e)
            (λ lo hi. absurd (out lo hi)));
      }

  -- an entry in the window is marked
  inside : base ≤ get_or ks n 0 → get_or ks n 0 - base < window → Marks base ks (suc n) (set seen (get_or ks n 0 - base) true)
  inside lo hi =
      record {
        size = length-set seen at true ∙ marks.size;
        marked-there = λ v h. found v h (ℕ_discrete v at);
        there-marked = λ j l low high. kept j l low high (ℕ_discrete (get_or ks j 0 - base) at);
      }
    where
      at : ℕ
      at = get_or ks n 0 - base

      fits : at < length seen
      fits = rw marks.size hi

      found : (v : ℕ) → get_or (set seen at true) v false ≡ true → Dec (v ≡ at) → (j : ℕ) × (j < suc n) × (get_or ks j 0 ≡ base + v)
      found v h (yes e) = (n, omega arith, omega arith)
      found v h (no d) =
          let (j, l, e) = marks.marked-there v (sym (get_or-set_other seen at v true false d) ∙ h) in
          (j, omega arith, e)

      kept : (j : ℕ) → j < suc n → base ≤ get_or ks j 0 → get_or ks j 0 < base + window → Dec (get_or ks j 0 - base ≡ at)
          → get_or (set seen at true) (get_or ks j 0 - base) false ≡ true
      kept j l low high (yes e) = ap (λ (i : ℕ). get_or (set seen at true) i false) e ∙ get_or-set_same seen at true false fits
      kept j l low high (no d) =
          get_or-set_other seen at (get_or ks j 0 - base) true false d
          ∙ below_suc {A = get_or seen (get_or ks j 0 - base) false ≡ true} j n l
          (λ lt. marks.there-marked j lt low high)
          (λ e. absurd (d (ap (λ (i : ℕ). get_or ks i 0 - base) e)))

  -- the marks after one entry more
  pub marks-more : Marks base ks (suc n) (noted base seen (get_or ks n 0))
  marks-more = go (dec_lt (get_or ks n 0) base) (dec_lt (get_or ks n 0 - base) window)
    where
      go : Dec (get_or ks n 0 < base) → Dec (get_or ks n 0 - base < window) → Marks base ks (suc n) (noted base seen (get_or ks n 0))
      go (yes l) d = rw (lt-ltb _ _ l) (outside (λ lo hi. omega arith))
      go (no g) (yes h) = rw (le-ltb (get_or ks n 0) base (omega arith), lt-ltb _ _ h) (inside (omega arith) h)
      go (no g) (no h) =
          rw (le-ltb (get_or ks n 0) base (omega arith), le-ltb (get_or ks n 0 - base) window (omega arith)) (outside (λ lo hi. omega arith))

  -- an entry that is fresh stands apart from those before it
  pub apart_more : fresh base seen (get_or ks n 0) ≡ true → Apart base ks n → Apart base ks (suc n)
  apart_more new apart i j l k lo hi = below_suc i n l (λ lt. apart i j lt k lo hi) (λ e. last e)
    where
      last : i ≡ n → get_or ks i 0 ≢ get_or ks j 0
      last e same =
          let o : get_or ks i 0 ≡ get_or ks n 0 = ap (λ (a : ℕ). get_or ks a 0) e in
          let unmarked : get_or seen (get_or ks n 0 - base) false ≡ false =
          not-true _ (rw (le-ltb (get_or ks n 0) base (omega arith), lt-ltb (get_or ks n 0 - base) window (omega arith)) at new) in
          false≢true (sym unmarked ∙ ap (λ (a : ℕ). get_or seen (a - base) false) (sym o ∙ same)
          ∙ marks.there-marked j (omega arith) (omega arith) (omega arith))

  -- an entry that is not fresh stands there already
  pub not-apart : fresh base seen (get_or ks n 0) ≡ false → Apart base ks (suc n) → ⊥
  not-apart old apart = go (dec_lt (get_or ks n 0) base) (dec_lt (get_or ks n 0 - base) window)
    where
      again : base ≤ get_or ks n 0 → get_or ks n 0 - base < window → get_or seen (get_or ks n 0 - base) false ≡ true → ⊥
      again lo hi h =
          let (j, l, e) = marks.marked-there (get_or ks n 0 - base) h in
          apart n j (omega arith) l lo (omega arith) (omega arith)

      go : Dec (get_or ks n 0 < base) → Dec (get_or ks n 0 - base < window) → ⊥
      go (yes l) d = false≢true (sym old ∙ rw (lt-ltb _ _ l) refl)
      go (no g) (yes h) =
          again (omega arith) h (not-false _ (rw (le-ltb (get_or ks n 0) base (omega arith), lt-ltb _ _ h) at old))
      go (no g) (no h) =
          false≢true (sym old ∙ rw (le-ltb (get_or ks n 0) base (omega arith), le-ltb (get_or ks n 0 - base) window (omega arith)) refl)

-- ---- all windows together

-- Entries below the number of passes times the window are apart if they are so in each window.
pub distinct-of-windows : (ks : List ℕ) (passes : ℕ) → ((i : ℕ) → i < length ks → get_or ks i 0 < passes * window)
    → ((k : ℕ) → k < passes → ApartAbove (k * window) ks) → distinct ks ≡ true
distinct-of-windows ks passes below apart = (distinct-is ks).1 each
  where
    each : Distinct ks
    each i j l k =
        let o = get_or ks i 0 in
        let b : o < passes * window = below i l in
        apart (o / window) (omega arith) i j l k (omega arith) (omega arith)

pub not-distinct : (ks : List ℕ) (base : ℕ) → (ApartAbove base ks → ⊥) → distinct ks ≡ false
not-distinct ks base h = go (distinct ks) refl
  where
    go : (b : Bool) → distinct ks ≡ b → distinct ks ≡ false
    go false e = e
    go true e = absurd (h (λ i j l k lo hi. (distinct-is ks).0 e i j l k))
