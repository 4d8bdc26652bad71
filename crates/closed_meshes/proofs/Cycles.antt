-- The laws of cycles whose step can be undone: a walk passes each dart of its class exactly once, any start will do, and the
-- length of a cycle does not depend on the start. Assumes nothing.
use mathlib.Core.Path.{◌≡◌, refl, sym, ◌∙◌, ap, subst}
use mathlib.Core.Logic.{◌⊎◌, inl, inr}
use Prim.Native.Nat.{ℕ, zero, suc, ◌+◌, ◌-◌, ◌≤◌, ◌<◌}
use native.Mathlib.Omega.{arith}
use native.Mathlib.Decide.{dec_lt, dec_le}
use Rattle.closed_meshes.specs.Cycles.{Cycles}
use Rattle.closed_meshes.specs.Borders.{steps, PassedOnce}

-- The number j of steps from rank r on to rank k in a cycle of n.
Shifted : ℕ → ℕ → ℕ → ℕ → Type 0
Shifted k r n j = ((r ≤ k) × (j + r ≡ k)) ⊎ ((k < r) × (j + r ≡ k + n))

shifted : (k r n : ℕ) → r < n → (j : ℕ) × Shifted k r n j
unfolding Shifted
shifted k r n h = go (dec_le r k)
  where
    go : Dec (r ≤ k) → (j : ℕ) × Shifted k r n j
    go (yes le) = (k - r, inl (le, omega arith))
    go (no gt) = (k + n - r, inr (omega arith, omega arith))

shifted_start : (k r n j : ℕ) → Shifted k r n j → k ≡ r → j ≡ 0
unfolding Shifted
shifted_start k r n j (inl s) e = omega arith
shifted_start k r n j (inr s) e = omega arith

shifted-below : (k r n j : ℕ) → Shifted k r n j → k < n → j < n
unfolding Shifted
shifted-below k r n j (inl s) e = omega arith
shifted-below k r n j (inr s) e = omega arith

-- One step on from rank k is to rank k + 1, or from the last rank to 0.
Stepped : ℕ → ℕ → ℕ → Type 0
Stepped k n k' = ((suc k < n) × (k' ≡ suc k)) ⊎ ((suc k ≡ n) × (k' ≡ 0))

shifted_step :
    (k k' r n j j' : ℕ) → Shifted k r n j → Shifted k' r n j' → Stepped k n k' → r < n → suc j < n → j' ≡ suc j
unfolding Shifted Stepped
shifted_step k k' r n j j' (inl s) (inl s') (inl t) h l = omega arith
shifted_step k k' r n j j' (inl s) (inl s') (inr t) h l = omega arith
shifted_step k k' r n j j' (inl s) (inr s') (inl t) h l = omega arith
shifted_step k k' r n j j' (inl s) (inr s') (inr t) h l = omega arith
shifted_step k k' r n j j' (inr s) (inl s') (inl t) h l = omega arith
shifted_step k k' r n j j' (inr s) (inl s') (inr t) h l = omega arith
shifted_step k k' r n j j' (inr s) (inr s') (inl t) h l = omega arith
shifted_step k k' r n j j' (inr s) (inr s') (inr t) h l = omega arith

shifted-last : (k k' r n j : ℕ) → Shifted k r n j → Stepped k n k' → r < n → suc j ≡ n → k' ≡ r
unfolding Shifted Stepped
shifted-last k k' r n j (inl s) (inl t) h l = omega arith
shifted-last k k' r n j (inl s) (inr t) h l = omega arith
shifted-last k k' r n j (inr s) (inl t) h l = omega arith
shifted-last k k' r n j (inr s) (inr t) h l = omega arith

module _ {D C : Type 0} {step : D → D} {cls : D → C} {start : C → D} {len : C → ℕ} (c : Cycles step cls start len) where
  -- The walk stays in its class.
  pub cls-steps : (n : ℕ) (d : D) → cls (steps step n d) ≡ cls d
  unfolding steps
  cls-steps zero d = refl
  cls-steps (suc n) d = c.cls-step _ ∙ cls-steps n d

  -- The darts on the walk from the start of x are in x.
  pub cls-steps-start : (n : ℕ) (x : C) → cls (steps step n (start x)) ≡ x
  cls-steps-start n x = cls-steps n (start x) ∙ c.cls-start x

  -- After n steps from the start the rank is n.
  pub rank-steps : (n : ℕ) (x : C) → n < len x → c.rank (steps step n (start x)) ≡ n
  unfolding steps
  rank-steps zero x h = c.rank-start x
  rank-steps (suc n) x h =
      let r : c.rank (steps step n (start x)) ≡ n = rank-steps n x (omega arith) in
      let l : len (cls (steps step n (start x))) ≡ len x = ap len (cls-steps-start n x) in
      c.rank_step (steps step n (start x)) (omega arith) ∙ ap suc r

  -- After as many steps as the length the walk is back at the start.
  pub steps-len : (x : C) → steps step (len x) (start x) ≡ start x
  unfolding steps
  steps-len x = go (len x) refl
    where
      go : (n : ℕ) → len x ≡ n → steps step n (start x) ≡ start x
      go zero e = refl
      go (suc n) e =
          let r : c.rank (steps step n (start x)) ≡ n = rank-steps n x (omega arith) in
          let k : cls (steps step n (start x)) ≡ x = cls-steps-start n x in
          c.step-last (steps step n (start x)) (ap suc r ∙ sym e ∙ sym (ap len k)) ∙ ap start k

  module _ (back : D → D) (step_back : (d : D) → step (back d) ≡ d) where
    cls-back : (d : D) → cls (back d) ≡ cls d
    cls-back d = sym (c.cls-step (back d)) ∙ ap cls (step_back d)

    -- A step back takes one from the rank.
    rank-back : (d : D) (n : ℕ) → c.rank d ≡ suc n → c.rank (back d) ≡ n
    rank-back d n e = go (dec_lt (suc (c.rank (back d))) (len (cls (back d))))
      where
        go : Dec (suc (c.rank (back d)) < len (cls (back d))) → c.rank (back d) ≡ n
        go (yes h) =
            let r : c.rank d ≡ suc (c.rank (back d)) = sym (ap c.rank (step_back d)) ∙ c.rank_step (back d) h in
            omega arith
        go (no h) =
            let last : suc (c.rank (back d)) ≡ len (cls (back d)) = omega (arith, c.rank_below (back d)) in
            let z : d ≡ start (cls (back d)) = sym (step_back d) ∙ c.step-last (back d) last in
            let o : c.rank d ≡ 0 = ap c.rank z ∙ c.rank-start _ in
            omega arith

    -- Only the start has rank 0.
    start-of-rank : (d : D) → c.rank d ≡ 0 → d ≡ start (cls d)
    start-of-rank d e = go (dec_lt (suc (c.rank (back d))) (len (cls (back d))))
      where
        go : Dec (suc (c.rank (back d)) < len (cls (back d))) → d ≡ start (cls d)
        go (yes h) =
            let r : c.rank d ≡ suc (c.rank (back d)) = sym (ap c.rank (step_back d)) ∙ c.rank_step (back d) h in
            absurd (omega arith)
        go (no h) =
            let last : suc (c.rank (back d)) ≡ len (cls (back d)) = omega (arith, c.rank_below (back d)) in
            sym (step_back d) ∙ c.step-last (back d) last ∙ ap start (cls-back d)

    -- The walk from the start comes to every dart of the class.
    pub steps-rank : (d : D) → steps step (c.rank d) (start (cls d)) ≡ d
    unfolding steps
    steps-rank d = go (c.rank d) d refl
      where
        go : (n : ℕ) (d : D) → c.rank d ≡ n → steps step n (start (cls d)) ≡ d
        go zero d e = sym (start-of-rank d e)
        go (suc n) d e =
            ap (λ x. step (steps step n (start x))) (sym (cls-back d)) ∙ ap step (go n (back d) (rank-back d n e)) ∙ step_back d

    -- Two darts of a class with one rank are one.
    pub rank-injective : (d d' : D) → cls d ≡ cls d' → c.rank d ≡ c.rank d' → d ≡ d'
    rank-injective d d' k r =
        sym (steps-rank d) ∙ ap (λ x. steps step x (start (cls d))) r ∙ ap (λ x. steps step (c.rank d') (start x)) k ∙ steps-rank d'

    -- The walk passes each dart of its class exactly once.
    pub passed-once : (d : D) → PassedOnce step start len d (cls d)
    passed-once d =
        record {
          after = c.rank d;
          in-time = c.rank_below d;
          passed = steps-rank d;
          only_then = λ n h e. sym (rank-steps n (cls d) h) ∙ ap c.rank e;
        }

    -- What a step does to the rank.
    rank-after : (d : D) → Stepped (c.rank d) (len (cls d)) (c.rank (step d))
    unfolding Stepped
    rank-after d = go (dec_lt (suc (c.rank d)) (len (cls d)))
      where
        go : Dec (suc (c.rank d) < len (cls d)) → Stepped (c.rank d) (len (cls d)) (c.rank (step d))
        go (yes h) = inl (h, c.rank_step d h)
        go (no h) =
            let last : suc (c.rank d) ≡ len (cls d) = omega (arith, c.rank_below d) in
            inr (last, ap c.rank (c.step-last d last) ∙ c.rank-start _)

    -- Any start will do.
    pub any-start : (start' : C → D) → ((x : C) → cls (start' x) ≡ x) → Cycles step cls start' len
    any-start start' touches =
        record {
          rank = λ d. (at d).0;
          cls-step = c.cls-step;
          cls-start = touches;
          rank-start = λ x. shifted_start _ _ _ _ (at (start' x)).1 (ap (λ y. c.rank (start' y)) (sym (touches x)));
          rank_below = λ d. shifted-below _ _ _ _ (at d).1 (c.rank_below d);
          rank_step = λ d h. shifted_step _ _ _ _ _ _ (at d).1 (at-step d) (rank-after d) (below (cls d)) h;
          step-last =
              λ d h.
              rank-injective (step d) (start' (cls d)) (c.cls-step d ∙ sym (touches (cls d)))
              (shifted-last _ _ _ _ _ (at d).1 (rank-after d) (below (cls d)) h);
        }
      where
        below : (x : C) → c.rank (start' x) < len x
        below x = subst (λ y. c.rank (start' x) < len y) (touches x) (c.rank_below (start' x))

        at : (d : D) → (j : ℕ) × Shifted (c.rank d) (c.rank (start' (cls d))) (len (cls d)) j
        at d = shifted (c.rank d) (c.rank (start' (cls d))) (len (cls d)) (below (cls d))

        at-step : (d : D) → Shifted (c.rank (step d)) (c.rank (start' (cls d))) (len (cls d)) (at (step d)).0
        at-step d =
            subst (λ x. Shifted (c.rank (step d)) (c.rank (start' x)) (len x) (at (step d)).0) (c.cls-step d) (at (step d)).1

module _ {D C : Type 0} {step : D → D} {cls : D → C} where
  -- With one start, no length is below the other.
  len-least :
      {start : C → D} {len len' : C → ℕ} → Cycles step cls start len → Cycles step cls start len' → (x : C) → len x ≤ len' x
  len-least {start} {len} {len'} c c' x = go (dec_le (len x) (len' x))
    where
      go : Dec (len x ≤ len' x) → len x ≤ len' x
      go (yes h) = h
      go (no h) =
          let r : c.rank (steps step (len' x) (start x)) ≡ len' x = rank-steps c (len' x) x (omega arith) in
          let z : c.rank (start x) ≡ len' x = sym (ap c.rank (steps-len c' x)) ∙ r in
          let b : c'.rank (start x) < len' x = subst (λ y. c'.rank (start x) < len' y) (c'.cls-start x) (c'.rank_below (start x)) in
          omega (arith, c.rank-start x)

  -- The length of a cycle is unique, whatever the starts.
  pub len-unique :
      {start start' : C → D} {len len' : C → ℕ} (back : D → D) → ((d : D) → step (back d) ≡ d) →
      Cycles step cls start len → Cycles step cls start' len' → (x : C) → len x ≡ len' x
  len-unique {start} {start'} {len} {len'} back step_back c c' x =
      let c'' : Cycles step cls start len' = any-start c' back step_back start c.cls-start in
      let l : len x ≤ len' x = len-least c c'' x in
      let h : len' x ≤ len x = len-least c'' c x in
      omega arith
