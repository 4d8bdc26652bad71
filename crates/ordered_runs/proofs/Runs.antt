-- The loop of `run_steps`, over plain variables: ed is the edition of the steps, os and ns are the orders and their lengths, l₀ and t₀ what was lent; before step i the
-- tables and counts are l, the scratch tables t, k steps were accepted, and the orders begin at `at`. Assumes nothing.
--     run-start, run-turn, run_end          the invariant `Running`
--     going_start, going-turn, going_end    the same with the lengths of the tables
use Rattle.std.specs.Prelude.{Result, Ok, Err}
use mathlib.Core.Path.{◌≡◌, refl, sym, ap, ap₂, ◌∙◌}
use mathlib.Core.List.{List, [], ◌∷◌}
use Prim.Native.Nat.{ℕ, zero, suc, ◌+◌, ◌-◌, ◌≤◌, ◌<◌, min}
use native.Mathlib.Nat.{add-zero}
use native.Mathlib.Omega.{arith}
use native.Mathlib.Decide.{dec_le}
use lib.ListN.{length, get_or, take, drop, length-drop}
use lib.Seq.{drop-drop, drop-cons, take_all}
use Rattle.tables.specs.Mesh.{Mesh}
use Rattle.tables.specs.declared.Counts.{Counts}
use Rattle.refined_meshes.specs.declared.Edition.{Edition}
use Rattle.steps.specs.declared.StepRefusal.{StepRefusal}
use Rattle.steps.specs.Step.{StepOutcome, step}
use Rattle.runs.specs.Lengths.{SameLengths}
use Rattle.runs.proofs.Lengths.{lengths-refl, lengths-trans}
use Rattle.runs.specs.Runs.{Lent, counts_after, one_more_if, outcome, after, run, accepted, lent}
use Rattle.ordered_runs.specs.Runs.{orders_of, handing, handed, scratch_after, RunOutcome, ran}

-- ---- orders one behind the other

take_min : (n : ℕ) (xs : List ℕ) → take (min n (length xs)) xs ≡ take n xs
take_min n xs = go (dec_le n (length xs))
  where
    go : Dec (n ≤ length xs) → take (min n (length xs)) xs ≡ take n xs
    go (yes l) = let e : min n (length xs) ≡ n = omega arith in ap (λ (k : ℕ). take k xs) e
    go (no g) = take_all (min n (length xs)) xs (omega arith) ∙ sym (take_all n xs (omega arith))

drop_past : (n : ℕ) (xs : List ℕ) → length xs ≤ n → drop n xs ≡ []
drop_past n [] h = drop-none n
  where
    drop-none : (n : ℕ) → drop {A = ℕ} n [] ≡ []
    drop-none zero = refl
    drop-none (suc n) = refl
drop_past zero (x ∷ xs) h = absurd (omega arith)
drop_past (suc n) (x ∷ xs) h = drop_past n xs (omega arith)

drop_min : (n : ℕ) (xs : List ℕ) → drop (min n (length xs)) xs ≡ drop n xs
drop_min n xs = go (dec_le n (length xs))
  where
    go : Dec (n ≤ length xs) → drop (min n (length xs)) xs ≡ drop n xs
    go (yes l) = let e : min n (length xs) ≡ n = omega arith in ap (λ (k : ℕ). drop k xs) e
    go (no g) = drop_past (min n (length xs)) xs (omega arith) ∙ sym (drop_past n xs (omega arith))

-- the end of the order of n entries from the place `at` on
abbrev end_at : List ℕ → ℕ → ℕ → ℕ
end_at os at n = at + min n (length os - at)

module _ (os : List ℕ) (at n : ℕ) where
  rest-long : length (drop at os) ≡ length os - at
  rest-long = length-drop at os

  part-is : take (end_at os at n - at) (drop at os) ≡ take n (drop at os)
  part-is =
      let e : end_at os at n - at ≡ min n (length os - at) = omega arith in
      ap (λ (k : ℕ). take k (drop at os)) (e ∙ ap (λ (k : ℕ). min n k) (sym rest-long)) ∙ take_min n (drop at os)

  rest-is : drop (end_at os at n) os ≡ drop n (drop at os)
  rest-is =
      sym (drop-drop (min n (length os - at)) at os) ∙ ap (λ (k : ℕ). drop (min n k) (drop at os)) (sym rest-long) ∙ drop_min n (drop at os)

-- it is in the orders
pub end-within : (os : List ℕ) (at n : ℕ) {r : ℕ} → at ≤ length os → r ≡ min n (length os - at) → at + r ≤ length os
end-within os at n h e = omega (arith, e)

-- ---- the loop

-- an accepted step is one more
pub one_more : (g : Result Counts StepRefusal) (k : ℕ) {c : Counts} → g ≡ Ok c → k + 1 ≡ one_more_if g k
one_more g k e = rw e (omega arith)

add-one_more_if : (g : Result Counts StepRefusal) (k x : ℕ) → one_more_if g k + x ≡ k + one_more_if g x
add-one_more_if (Ok c) k x = omega arith
add-one_more_if (Err g) k x = refl

one_more_if-few : (g : Result Counts StepRefusal) (k i : ℕ) → k ≤ i → one_more_if g k ≤ i + 1
one_more_if-few (Ok c) k i h = omega arith
one_more_if-few (Err g) k i h = omega arith

module _ (ed : Edition) (l₀ : Lent) (t₀ : Mesh) (os ns : List ℕ) where
  abbrev rest : ℕ → ℕ → List (List ℕ)
  rest at i = orders_of (drop at os) (drop i ns)

  pub record Running (l : Lent) (t : Mesh) (k at i : ℕ) : Type 0 where
    pub within : at ≤ length os
    pub few : k ≤ i
    pub bounded : i ≤ length ns
    pub left : run l (handed ed l t (rest at i)) ≡ run l₀ (handed ed l₀ t₀ (orders_of os ns))
    pub count : k + accepted l (handed ed l t (rest at i)) ≡ accepted l₀ (handed ed l₀ t₀ (orders_of os ns))
    pub scratch : scratch_after ed l t (rest at i) ≡ scratch_after ed l₀ t₀ (orders_of os ns)

  pub run-start : Running l₀ t₀ 0 0 0
  run-start = record { within = omega arith; few = omega arith; bounded = omega arith; left = refl; count = omega arith; scratch = refl }

  module _ (l : Lent) (t : Mesh) (k at i : ℕ) (h : Running l t k at i) where
    module _ (more : i < length ns) where
      abbrev order : List ℕ
      order = take (end_at os at (get_or ns i 0) - at) (drop at os)

      rest-cons : rest at i ≡ order ∷ rest (end_at os at (get_or ns i 0)) (i + 1)
      unfolding orders_of
      rest-cons =
          let n = get_or ns i 0 in
          let e : suc i ≡ i + 1 = omega arith in
          ap (orders_of (drop at os)) (drop-cons ns i 0 more)
          ∙ ap₂ (λ (o : List ℕ) (r : List (List ℕ)). o ∷ r) (sym (part-is os at n))
          (ap₂ (λ (v w : List ℕ). orders_of v w) (sym (rest-is os at n)) (ap (λ (j : ℕ). drop j ns) e))

      pub run-turn : (o : StepOutcome) → o ≡ outcome l (handing ed order t) → (c : Counts) → c ≡ counts_after o.answer l.counts
          → (k' : ℕ) → k' ≡ one_more_if o.answer k
          → Running (record { tables = o.tables; counts = c }) o.scratch k' (end_at os at (get_or ns i 0)) (i + 1)
      unfolding run accepted handed scratch_after
      run-turn o eo c ec k' ek =
          let n = get_or ns i 0 in
          let low : min n (length os - at) ≤ length os - at = omega arith in
          let w = h.within in
          let hd = handing ed order t in
          let r = rest (end_at os at n) (i + 1) in
          let la : record { tables = o.tables; counts = c } ≡ after l hd =
          rw (ec, eo) in
          let left' : run (after l hd) (handed ed (after l hd) (outcome l hd).scratch r) ≡ run l₀ (handed ed l₀ t₀ (orders_of os ns)) =
          ap (λ (v : List (List ℕ)). run l (handed ed l t v)) (sym rest-cons) ∙ h.left in
          let count' : k + one_more_if (outcome l hd).answer (accepted (after l hd) (handed ed (after l hd) (outcome l hd).scratch r))
          ≡ accepted l₀ (handed ed l₀ t₀ (orders_of os ns)) =
          ap (λ (v : List (List ℕ)). k + accepted l (handed ed l t v)) (sym rest-cons) ∙ h.count in
          let scratch' : scratch_after ed (after l hd) (outcome l hd).scratch r ≡ scratch_after ed l₀ t₀ (orders_of os ns) =
          ap (scratch_after ed l t) (sym rest-cons) ∙ h.scratch in
          let few' = one_more_if-few (outcome l hd).answer k i h.few in
          rw (la, ek, eo)
          (record {
            within = omega arith;
            few = few';
            bounded = omega arith;
            left = left';
            count = add-one_more_if (outcome l hd).answer k _ ∙ count';
            scratch = scratch';
          })

    pub run_end : length ns ≤ i → record { left = l; accepted = k; scratch = t } ≡ ran ed l₀ t₀ (orders_of os ns)
    unfolding ran orders_of
    run_end past =
        let e : rest at i ≡ [] = ap (orders_of (drop at os)) (drop_past i ns past) in
        let a = ap (λ (v : List (List ℕ)). run l (handed ed l t v)) (sym e) ∙ h.left in
        let b = ap (λ (v : List (List ℕ)). k + accepted l (handed ed l t v)) (sym e) ∙ h.count in
        let s = ap (scratch_after ed l t) (sym e) ∙ h.scratch in
        rw (← a, ← b, ← s) (ap (λ (x : ℕ). record { left = l; accepted = x; scratch = t }) (sym (add-zero k)))

-- ---- the loop with the lengths of the tables

module _ (ed : Edition) (m₀ : Mesh) (c₀ : Counts) (t₀ : Mesh) (os ns : List ℕ) where
  pub record Going (m : Mesh) (c : Counts) (t : Mesh) (k at i : ℕ) : Type 0 where
    pub running : Running ed (lent m₀ c₀) t₀ os ns (lent m c) t k at i
    pub same : SameLengths m m₀
    pub same-scratch : SameLengths t t₀

  pub going_start : Going m₀ c₀ t₀ 0 0 0
  going_start =
      record {
        running = run-start ed (lent m₀ c₀) t₀ os ns;
        same = lengths-refl m₀;
        same-scratch = lengths-refl t₀;
      }

  module _ {m : Mesh} {c : Counts} {t : Mesh} {k at i : ℕ} (h : Going m c t k at i) where
    pub going-turn : i < length ns → {n r : ℕ} → n ≡ get_or ns i 0 → r ≡ min n (length os - at) → {a : Result Counts StepRefusal} {m' t' : Mesh}
        → record { answer = a; tables = m'; scratch = t' } ≡ step ed m c (take (at + r - at) (drop at os)) t → SameLengths m' m → SameLengths t' t
        → {c' : Counts} → c' ≡ counts_after a c → {k' : ℕ} → k' ≡ one_more_if a k → Going m' c' t' k' (at + r) (i + 1)
    going-turn more {n} {r} en er {a} {m'} {t'} eo sm st {c'} ec {k'} ek =
        let e : r ≡ min (get_or ns i 0) (length os - at) = er ∙ ap (λ (v : ℕ). min v (length os - at)) en in
        let o : StepOutcome = record { answer = a; tables = m'; scratch = t' } in
        let eo' : o ≡ step ed m c (take (end_at os at (get_or ns i 0) - at) (drop at os)) t =
        eo ∙ ap (λ (v : ℕ). step ed m c (take (at + v - at) (drop at os)) t) e in
        let turned = run-turn ed (lent m₀ c₀) t₀ os ns (lent m c) t k at i h.running more o eo' c' ec k' ek in
        record {
          running = rw e turned;
          same = lengths-trans sm h.same;
          same-scratch = lengths-trans st h.same-scratch;
        }

    pub going_end : length ns ≤ i → record { left = lent m c; accepted = k; scratch = t } ≡ ran ed (lent m₀ c₀) t₀ (orders_of os ns)
    going_end past = run_end ed (lent m₀ c₀) t₀ os ns (lent m c) t k at i h.running past
