-- Where an edge stands in the list of the edges that a walk passes, and what one step does to that. Assumes nothing.
use mathlib.Core.Path.{◌≡◌, refl, sym, ◌∙◌, ap, subst}
use mathlib.Core.Bool.{cond}
use mathlib.Core.List.{List, [], ◌∷◌, map}
use mathlib.Core.Logic.{◌≢◌}
use Prim.Native.Nat.{ℕ, zero, suc, ◌≤◌, ◌<◌}
use native.Mathlib.Omega.{arith}
use native.Mathlib.Decide.{dec_lt, ℕ_discrete}
use lib.Dec.{eqb}
use lib.ListN.{length, get_or}
use borrow.Author.Tests.{eq-eqb, ne_eqb}
use Rattle.audited_meshes.specs.Folds.{occurrences}
use Rattle.audited_meshes.specs.Audited.{Passes, last, more}
use Rattle.audited_meshes.proofs.Walks.{occurrences-here, occurrences-there, passes-once}

-- the first place at which i stands in a list that holds it
pub position : ℕ → List ℕ → ℕ
position i [] = 0
position i (k ∷ ks) = cond (eqb k i) 0 (suc (position i ks))

position_here : (k : ℕ) (ks : List ℕ) → position k (k ∷ ks) ≡ 0
unfolding position
position_here k ks = rw (eq-eqb k k refl)

position-there : (i k : ℕ) (ks : List ℕ) → k ≢ i → position i (k ∷ ks) ≡ suc (position i ks)
unfolding position
position-there i k ks h = rw (ne_eqb k i h)

pub position-below : (i : ℕ) (ks : List ℕ) → 0 < occurrences i ks → position i ks < length ks
unfolding occurrences
position-below i [] l = absurd (omega arith)
position-below i (k ∷ ks) l = go (position-below i ks) (ℕ_discrete k i)
  where
    go : (0 < occurrences i ks → position i ks < length ks) → Dec (k ≡ i) → position i (k ∷ ks) < suc (length ks)
    go ih (yes e) = subst (λ i. position i (k ∷ ks) < suc (length ks)) e (omega (arith, position_here k ks))
    go ih (no h) = omega (arith, position-there i k ks h, ih (omega (arith, occurrences-there i k ks h)))

pub get_or-position : (i : ℕ) (ks : List ℕ) → 0 < occurrences i ks → get_or ks (position i ks) 0 ≡ i
unfolding occurrences
get_or-position i [] l = absurd (omega arith)
get_or-position i (k ∷ ks) l = go (get_or-position i ks) (ℕ_discrete k i)
  where
    go : (0 < occurrences i ks → get_or ks (position i ks) 0 ≡ i) → Dec (k ≡ i) → get_or (k ∷ ks) (position i (k ∷ ks)) 0 ≡ i
    go ih (yes e) = subst (λ i. get_or (k ∷ ks) (position i (k ∷ ks)) 0 ≡ i) e (rw position_here)
    go ih (no h) = rw (position-there i k ks h) (ih (omega (arith, occurrences-there i k ks h)))

pub occurrences-get_or : (ks : List ℕ) (j : ℕ) → j < length ks → 0 < occurrences (get_or ks j 0) ks
occurrences-get_or [] j l = absurd (omega arith)
occurrences-get_or (k ∷ ks) zero l = omega (arith, occurrences-here k ks)
occurrences-get_or (k ∷ ks) (suc j) l = go (occurrences-get_or ks j (omega arith)) (ℕ_discrete k (get_or ks j 0))
  where
    go : 0 < occurrences (get_or ks j 0) ks → Dec (k ≡ get_or ks j 0) → 0 < occurrences (get_or ks j 0) (k ∷ ks)
    go ih (yes e) = subst (λ i. 0 < occurrences i (k ∷ ks)) e (omega (arith, occurrences-here k ks))
    go ih (no h) = omega (arith, occurrences-there (get_or ks j 0) k ks h)

-- in a list that holds no number twice each stands where it is found
position-get_or : (ks : List ℕ) (j : ℕ) → ((i : ℕ) → occurrences i ks ≤ 1) → j < length ks → position (get_or ks j 0) ks ≡ j
position-get_or [] j once l = absurd (omega arith)
position-get_or (k ∷ ks) zero once l = position_here k ks
position-get_or (k ∷ ks) (suc j) once l = go (position-get_or ks j (fewer once) (omega arith)) (ℕ_discrete k (get_or ks j 0))
  where
    fewer : ((i : ℕ) → occurrences i (k ∷ ks) ≤ 1) → (i : ℕ) → occurrences i ks ≤ 1
    fewer once i = less (ℕ_discrete k i)
      where
        less : Dec (k ≡ i) → occurrences i ks ≤ 1
        less (yes e) = subst (λ i. occurrences i ks ≤ 1) e (omega (arith, occurrences-here k ks, once k))
        less (no h) = omega (arith, occurrences-there i k ks h, once i)

    go : position (get_or ks j 0) ks ≡ j → Dec (k ≡ get_or ks j 0) → position (get_or ks j 0) (k ∷ ks) ≡ suc j
    go ih (yes e) =
        let twice : 0 < occurrences k ks = subst (λ i. 0 < occurrences i ks) (sym e) (occurrences-get_or ks j (omega arith)) in
        absurd (omega (arith, occurrences-here k ks, once k))
    go ih (no h) = position-there (get_or ks j 0) k ks h ∙ ap suc ih

-- an element of the list of the values
pub get_or-map-below : (g : ℕ → ℕ) (ks : List ℕ) (j : ℕ) → j < length ks → get_or (map g ks) j 0 ≡ g (get_or ks j 0)
get_or-map-below g [] j l = absurd (omega arith)
get_or-map-below g (k ∷ ks) zero l = refl
get_or-map-below g (k ∷ ks) (suc j) l = get_or-map-below g ks j (omega arith)

module _ (step : ℕ → ℕ) (On : ℕ → Type 0) (s : ℕ) where
  get_or-passes-zero : (e : ℕ) (es : List ℕ) → Passes step On s e es → get_or es 0 0 ≡ e
  get_or-passes-zero e es (last o b) = refl
  get_or-passes-zero e es (more o b p) = refl

  length-passes-pos : (e : ℕ) (es : List ℕ) → Passes step On s e es → 0 < length es
  length-passes-pos e es (last o b) = omega arith
  length-passes-pos e es (more o b p) = omega arith

  -- The edge after another on the walk is one step on, and one step from the last is the start.
  get_or-passes-suc : (e : ℕ) (es : List ℕ) → Passes step On s e es → (j : ℕ) → suc j < length es → get_or es (suc j) 0 ≡ step (get_or es j 0)
  get_or-passes-suc e es (last o b) j l = absurd (omega arith)
  get_or-passes-suc e es (more {e = k} {es = rest} o b p) zero l = get_or-passes-zero (step k) rest p
  get_or-passes-suc e es (more {e = k} {es = rest} o b p) (suc j) l = get_or-passes-suc (step k) rest p j (omega arith)

  step-passes-last : (e : ℕ) (es : List ℕ) → Passes step On s e es → (j : ℕ) → suc j ≡ length es → step (get_or es j 0) ≡ s
  step-passes-last e es (last o b) zero l = b
  step-passes-last e es (last o b) (suc j) l = absurd (omega arith)
  step-passes-last e es (more {e = k} {es = rest} o b p) zero l = absurd (omega (arith, length-passes-pos (step k) rest p))
  step-passes-last e es (more {e = k} {es = rest} o b p) (suc j) l = step-passes-last (step k) rest p j (omega arith)

  module _ (es : List ℕ) (p : Passes step On s s es) where
    -- The start is at place 0.
    pub position-start : position s es ≡ 0
    position-start =
        ap (λ i. position i es) (sym (get_or-passes-zero s es p)) ∙ position-get_or es 0 (passes-once step On s s es p) (length-passes-pos s es p)

    -- One step from an edge that is not the last goes to the next place, and from the last to the start.
    pub position-step : (i : ℕ) → 0 < occurrences i es → suc (position i es) < length es → position (step i) es ≡ suc (position i es)
    position-step i l h =
        let here : get_or es (position i es) 0 ≡ i = get_or-position i es l in
        let on : get_or es (suc (position i es)) 0 ≡ step i = get_or-passes-suc s es p (position i es) h ∙ ap step here in
        ap (λ k. position k es) (sym on) ∙ position-get_or es (suc (position i es)) (passes-once step On s s es p) h

    pub step-of-last : (i : ℕ) → 0 < occurrences i es → suc (position i es) ≡ length es → step i ≡ s
    step-of-last i l h = ap step (sym (get_or-position i es l)) ∙ step-passes-last s es p (position i es) h

    -- A step from an edge that the walk passes comes to such an edge.
    pub passes-step : (i : ℕ) → 0 < occurrences i es → 0 < occurrences (step i) es
    passes-step i l = go (dec_lt (suc (position i es)) (length es))
      where
        go : Dec (suc (position i es) < length es) → 0 < occurrences (step i) es
        go (yes h) =
            let here : get_or es (position i es) 0 ≡ i = get_or-position i es l in
            let on : get_or es (suc (position i es)) 0 ≡ step i = get_or-passes-suc s es p (position i es) h ∙ ap step here in
            subst (λ k. 0 < occurrences k es) on (occurrences-get_or es (suc (position i es)) h)
        go (no h) =
            let end : step i ≡ s = step-of-last i l (omega (arith, position-below i es l)) in
            let first : get_or es 0 0 ≡ s = get_or-passes-zero s es p in
            subst (λ k. 0 < occurrences k es) (first ∙ sym end) (occurrences-get_or es 0 (length-passes-pos s es p))

    -- A walk of more than one edge moves at each step.
    pub passes-moves : (i : ℕ) → 0 < occurrences i es → 1 < length es → step i ≢ i
    passes-moves i l long same = go (dec_lt (suc (position i es)) (length es))
      where
        go : Dec (suc (position i es) < length es) → ⊥
        go (yes h) = omega (arith, position-step i l h, ap (λ k. position k es) same)
        go (no h) =
            let top : suc (position i es) ≡ length es = omega (arith, position-below i es l) in
            let start : i ≡ s = sym same ∙ step-of-last i l top in
            omega (arith, position-start, ap (λ k. position k es) start)
