-- The laws of walks: the walk by fuel comes back exactly if there is a list of edges that it passes, and it passes no edge twice.
-- Assumes nothing.
use mathlib.Core.Path.{◌≡◌, refl, ap, subst}
use mathlib.Core.Bool.{Bool, true, false}
use mathlib.Core.List.{List, [], ◌∷◌}
use mathlib.Core.Logic.{◌≢◌}
use Prim.Native.Nat.{ℕ, zero, suc, ◌≤◌, ◌<◌}
use native.Mathlib.Omega.{arith}
use native.Mathlib.Decide.{ℕ_discrete}
use lib.Dec.{eqb}
use lib.ListN.{length}
use borrow.Author.Tests.{eqb-true, eqb-false, eq-eqb, ne_eqb}
use Rattle.audited_meshes.specs.Folds.{one_if, occurrences}
use Rattle.audited_meshes.specs.Walks.{Walk, back, lost, pass, walk}
use Rattle.audited_meshes.specs.Audited.{Passes, last, more}
use Rattle.audited_meshes.proofs.Tests.{Is}

-- ---- how often a number stands in a longer list

pub occurrences-here : (k : ℕ) (ks : List ℕ) → occurrences k (k ∷ ks) ≡ suc (occurrences k ks)
unfolding occurrences
occurrences-here k ks = rw (eq-eqb k k refl) (omega arith)

pub occurrences-there : (i k : ℕ) (ks : List ℕ) → k ≢ i → occurrences i (k ∷ ks) ≡ occurrences i ks
unfolding occurrences
occurrences-there i k ks h = rw (ne_eqb k i h) (omega arith)

-- a number of a longer list is its first or in the rest
pub in-longer : {A : Type 0} (i k : ℕ) (ks : List ℕ) → 0 < occurrences i (k ∷ ks) → (k ≡ i → A) → (0 < occurrences i ks → A) → A
in-longer {A} i k ks l f g = go (ℕ_discrete k i)
  where
    go : Dec (k ≡ i) → A
    go (yes e) = f e
    go (no h) = g (omega (arith, occurrences-there i k ks h))

never_back : (es : List ℕ) → lost ≡ back es → ⊥
never_back es w = let z : ◌≡◌ {A = ℕ} 0 1 = cc in omega arith

module _ (step : ℕ → ℕ) (On : ℕ → Type 0) (s : ℕ) where
  -- A walk passes the edge that it comes to.
  pub passes-head : (e : ℕ) (es : List ℕ) → Passes step On s e es → 0 < occurrences e es
  passes-head e es (last {e = i} o b) = omega (arith, occurrences-here i [])
  passes-head e es (more {e = i} {es = rest} o b p) = omega (arith, occurrences-here i rest)

  -- What it passes is On.
  pub passes_on : (e : ℕ) (es : List ℕ) → Passes step On s e es → (i : ℕ) → 0 < occurrences i es → On i
  unfolding occurrences
  passes_on e es (last {e = k} o b) i l = in-longer i k [] l (λ same. subst On same o) (λ l. absurd (omega arith))
  passes_on e es (more {e = k} {es = rest} o b p) i l = in-longer i k rest l (λ same. subst On same o) (passes_on (step k) rest p i)

  -- Behind an edge from which the step does not meet the start, the walk passes the edge that the step comes to.
  passes-on-from :
      (e : ℕ) (es : List ℕ) → Passes step On s e es → (i : ℕ) → 0 < occurrences i es → step i ≢ s →
      one_if (eqb e (step i)) < occurrences (step i) es
  unfolding occurrences
  passes-on-from e es (last {e = k} o b) i l h = in-longer i k [] l (λ same. absurd (h (subst (λ x. step x ≡ s) same b))) (λ l. absurd (omega arith))
  passes-on-from e es (more {e = k} {es = rest} o b p) i l h =
      in-longer i k rest l
      (λ same. let front : 0 < occurrences (step i) rest = subst (λ x. 0 < occurrences (step x) rest) same (passes-head (step k) rest p) in omega arith)
      (λ l. omega (arith, passes-on-from (step k) rest p i l h))

  -- A walk that meets its start passes no edge twice: it would go round for ever.
  pub passes-once : (e : ℕ) (es : List ℕ) → Passes step On s e es → (i : ℕ) → occurrences i es ≤ 1
  unfolding occurrences
  passes-once e es (last {e = k} o b) i = go (ℕ_discrete k i)
    where
      go : Dec (k ≡ i) → occurrences i (k ∷ []) ≤ 1
      go (yes h) = subst (λ x. occurrences x (k ∷ []) ≤ 1) h (omega (arith, occurrences-here k []))
      go (no h) = omega (arith, occurrences-there i k [] h)
  passes-once e es (more {e = k} {es = rest} o b p) i = go (passes-once (step k) rest p) (ℕ_discrete k i)
    where
      once : ((i : ℕ) → occurrences i rest ≤ 1) → (0 < occurrences k rest) → ⊥
      once below l =
          let again : one_if (eqb (step k) (step k)) < occurrences (step k) rest = passes-on-from (step k) rest p k l b in
          let first : one_if (eqb (step k) (step k)) ≡ 1 = ap one_if (eq-eqb (step k) (step k) refl) in
          omega (arith, below (step k))

      go : ((i : ℕ) → occurrences i rest ≤ 1) → Dec (k ≡ i) → occurrences i (k ∷ rest) ≤ 1
      go below (yes h) =
          let none : ¬ (0 < occurrences k rest) = once below in
          subst (λ x. occurrences x (k ∷ rest) ≤ 1) h (omega (arith, occurrences-here k rest))
      go below (no h) = omega (arith, occurrences-there i k rest h, below i)

  module _ (on : ℕ → Bool) (on-is : (e : ℕ) → Is (on e) (On e)) where
    walk-met : (k : ℕ) (here : Bool) (e : ℕ) → walk step on s k true here e ≡ back []
    unfolding walk
    walk-met zero here e = refl
    walk-met (suc k) here e = refl

    -- The walk by fuel comes back with the edges that it passes.
    pub walk_of-passes : (e : ℕ) (es : List ℕ) → Passes step On s e es → (k : ℕ) → length es ≤ k → walk step on s k false (on e) e ≡ back es
    unfolding walk
    walk_of-passes e es (last {e = i} o b) zero l = absurd (omega arith)
    walk_of-passes e es (last {e = i} o b) (suc k) l =
        rw ((on-is i).1 o, eq-eqb (step i) s b, walk-met k (on (step i)) (step i))
    walk_of-passes e es (more {e = i} {es = rest} o b p) zero l = absurd (omega arith)
    walk_of-passes e es (more {e = i} {es = rest} o b p) (suc k) l =
        rw ((on-is i).1 o, ne_eqb (step i) s b, walk_of-passes (step i) rest p k (omega arith))

    -- What it comes back with is what it passes.
    pub passes-of-walk : (k e : ℕ) (es : List ℕ) → walk step on s k false (on e) e ≡ back es → Passes step On s e es × (length es ≤ k)
    unfolding walk
    passes-of-walk zero e es w = absurd (never_back es w)
    passes-of-walk (suc k) e es w = go (passes-of-walk k (step e)) (on e) refl w
      where
        Found : Type 0
        Found = Passes step On s e es × (length es ≤ suc k)

        came : ((rs : List ℕ) → walk step on s k false (on (step e)) (step e) ≡ back rs → Passes step On s (step e) rs × (length rs ≤ k)) →
            On e → step e ≢ s → (r : Walk) → walk step on s k false (on (step e)) (step e) ≡ r → pass e r ≡ back es → Found
        came ih o b (back rs) q w =
            let same : e ∷ rs ≡ es = cc in
            subst (λ x. Passes step On s e x × (length x ≤ suc k)) same (more o b (ih rs q).0, omega (arith, (ih rs q).1))
        came ih o b lost q w = absurd (never_back es w)

        met : ((rs : List ℕ) → walk step on s k false (on (step e)) (step e) ≡ back rs → Passes step On s (step e) rs × (length rs ≤ k)) →
            On e → (t : Bool) → eqb (step e) s ≡ t → pass e (walk step on s k t (on (step e)) (step e)) ≡ back es → Found
        met ih o true t w =
            let here : pass e (back []) ≡ back es = rw walk-met at w in
            let same : e ∷ [] ≡ es = cc in
            subst (λ x. Passes step On s e x × (length x ≤ suc k)) same (last o (eqb-true (step e) s t), omega arith)
        met ih o false t w = came ih o (eqb-false (step e) s t) (walk step on s k false (on (step e)) (step e)) refl w

        go : ((rs : List ℕ) → walk step on s k false (on (step e)) (step e) ≡ back rs → Passes step On s (step e) rs × (length rs ≤ k)) →
            (b : Bool) → on e ≡ b → walk step on s (suc k) false b e ≡ back es → Found
        go ih false h w = absurd (never_back es w)
        go ih true h w = met ih ((on-is e).0 h) (eqb (step e) s) refl w
