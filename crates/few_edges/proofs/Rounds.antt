-- Steps about a point from its start edge, and walks that are at their start again after their valence. Assumes nothing.
--     after_one, after-step               one step more, at the end and at the beginning
--     once-of-away, round-once            a walk that comes to its start at its last step alone passes no edge twice
--     steps-of-passes, listed-of-steps    the steps of a walk by its list of edges; the list of a walk by its steps
--     place-of-passed                     after how many steps a walk comes to an edge of its list
use mathlib.Core.Path.{◌≡◌, refl, sym, ◌∙◌, ap, subst}
use mathlib.Core.List.{List, [], ◌∷◌}
use mathlib.Core.Logic.{◌≢◌}
use Prim.Native.Nat.{ℕ, zero, suc, ◌+◌, ◌-◌, ◌<◌}
use native.Mathlib.Omega.{arith}
use lib.ListN.{length}
use Rattle.tables.specs.Mesh.{Mesh, valence}
use Rattle.audited_meshes.specs.Folds.{occurrences}
use Rattle.audited_meshes.specs.Walks.{acw_of_point}
use Rattle.audited_meshes.specs.Audited.{Passes, last, more}
use Rattle.audited_meshes.proofs.Walks.{in-longer}
use Rattle.few_edges.specs.Rounds.{walk_after, edge_about, Round}

module _ (step : ℕ → ℕ) where
  pub after_one : (n e : ℕ) → walk_after step (n + 1) e ≡ step (walk_after step n e)
  unfolding walk_after
  after_one n e = ap (λ (k : ℕ). walk_after step k e) (one_more n)
    where
      one_more : (n : ℕ) → n + 1 ≡ suc n
      one_more n = omega arith

  pub after-step : (n e : ℕ) → walk_after step (suc n) e ≡ walk_after step n (step e)
  unfolding walk_after
  after-step zero e = refl
  after-step (suc n) e = ap step (after-step n e)

  -- from one edge the same number of steps leads to the same
  after_same : (c a b e : ℕ) → walk_after step a e ≡ walk_after step b e → walk_after step (c + a) e ≡ walk_after step (c + b) e
  unfolding walk_after
  after_same zero a b e h = ap (λ (k : ℕ). walk_after step k e) (none a) ∙ h ∙ sym (ap (λ (k : ℕ). walk_after step k e) (none b))
    where
      none : (a : ℕ) → 0 + a ≡ a
      none a = omega arith
  after_same (suc c) a b e h = ap (λ (k : ℕ). walk_after step k e) (more c a) ∙ ap step (after_same c a b e h) ∙ sym (ap (λ (k : ℕ). walk_after step k e) (more c b))
    where
      more : (c a : ℕ) → suc c + a ≡ suc (c + a)
      more c a = omega arith

  -- a walk of v steps that comes to s at the last of them alone comes to no edge twice
  pub once-of-away : (e s v : ℕ) → walk_after step v e ≡ s → ((a : ℕ) → 0 < a → a < v → walk_after step a e ≢ s)
      → (a b : ℕ) → a < b → b < v → walk_after step a e ≢ walk_after step b e
  once-of-away e s v home away a b l k same =
      away (v - b + a) (omega arith) (omega arith) (after_same (v - b) a b e same ∙ ap (λ (j : ℕ). walk_after step j e) (whole v b k) ∙ home)
    where
      whole : (v b : ℕ) → b < v → v - b + b ≡ v
      whole v b k = omega arith

  module _ (On : ℕ → Type 0) (s : ℕ) where
    -- what a walk by its list passes
    pub record Steps (e : ℕ) (es : List ℕ) : Type 0 where
      pub on : (a : ℕ) → a < length es → On (walk_after step a e)
      pub home : walk_after step (length es) e ≡ s
      pub away : (a : ℕ) → 0 < a → a < length es → walk_after step a e ≢ s

    -- one step before a walk
    steps-more : (i : ℕ) (rest : List ℕ) → On i → step i ≢ s → Steps (step i) rest → Steps i (i ∷ rest)
    unfolding walk_after
    steps-more i rest o b then = record {
      on = λ a l. each_on a l;
      home = after-step (length rest) i ∙ then.home;
      away = λ a h l. each-away a h l;
    }
      where
        each_on : (a : ℕ) → a < suc (length rest) → On (walk_after step a i)
        each_on zero l = o
        each_on (suc a) l = subst On (sym (after-step a i)) (then.on a (omega arith))

        each-away : (a : ℕ) → 0 < a → a < suc (length rest) → walk_after step a i ≢ s
        each-away zero h l = absurd (omega arith)
        each-away (suc zero) h l = b
        each-away (suc (suc a)) h l = λ q. then.away (suc a) (omega arith) (omega arith) (sym (after-step (suc a) i) ∙ q)

    pub steps-of-passes : (e : ℕ) (es : List ℕ) → Passes step On s e es → Steps e es
    unfolding walk_after
    steps-of-passes e es (last {e = i} o b) = record {
      on = λ a l. first_on a l;
      home = b;
      away = λ a h l. absurd (omega arith);
    }
      where
        first_on : (a : ℕ) → a < 1 → On (walk_after step a i)
        first_on zero l = o
        first_on (suc a) l = absurd (omega arith)
    steps-of-passes e es (more {e = i} {es = rest} o b w) = steps-more i rest o b (steps-of-passes (step i) rest w)

    -- the list of a walk that is at its start after v steps
    pub record Listed (e v : ℕ) : Type 0 where
      pub edges : List ℕ
      pub passes : Passes step On s e edges
      pub many : length edges ≡ v

    pub listed-of-steps : (v e : ℕ) → ((a : ℕ) → a < suc v → On (walk_after step a e)) → walk_after step (suc v) e ≡ s
        → ((a : ℕ) → 0 < a → a < suc v → walk_after step a e ≢ s) → Listed e (suc v)
    unfolding walk_after
    listed-of-steps zero e on home away = record { edges = e ∷ []; passes = last (on 0 (omega arith)) home; many = refl }
    listed-of-steps (suc v) e on home away =
        let rest = listed-of-steps v (step e) (λ a l. subst On (after-step a e) (on (suc a) (omega arith))) (sym (after-step (suc v) e) ∙ home)
        (λ a h l q. away (suc a) (omega arith) (omega arith) (after-step a e ∙ q)) in
        record {
          edges = e ∷ rest.edges;
          passes = more (on 0 (omega arith)) (away 1 (omega arith) (omega arith)) rest.passes;
          many = ap suc rest.many;
        }

    -- where an edge of the list stands
    pub record Place (e j k : ℕ) : Type 0 where
      pub at : ℕ
      pub below : at < k
      pub is : walk_after step at e ≡ j

    pub place-of-passed : (e : ℕ) (es : List ℕ) → Passes step On s e es → (j : ℕ) → 0 < occurrences j es → Place e j (length es)
    unfolding walk_after occurrences
    place-of-passed e es (last {e = i} o b) j l =
        in-longer {A = Place i j 1} j i [] l (λ q. record { at = 0; below = omega arith; is = q }) (λ z. absurd (omega arith))
    place-of-passed e es (more {e = i} {es = rest} o b w) j l =
        in-longer {A = Place i j (suc (length rest))} j i rest l (λ q. record { at = 0; below = omega arith; is = q })
        (λ z. behind (place-of-passed (step i) rest w j z))
      where
        behind : Place (step i) j (length rest) → Place i j (suc (length rest))
        behind r = record { at = suc r.at; below = omega (arith, r.below); is = after-step r.at i ∙ r.is }

-- a walk about a point that is at its start again walk_after its valence passes no edge twice
pub round-once : (m : Mesh) (ne p : ℕ) → Round m ne p → (a b : ℕ) → a < b → b < valence m p → edge_about m p a ≢ edge_about m p b
round-once m ne p r = once-of-away (acw_of_point m p) _ _ (valence m p) r.home r.away
