-- A loop that walks and looks for an edge, for every step, every test of edges and every test that is looked for.
-- Assumes nothing.
--     Sought n e                   n edges are passed, none of them the one, and the search has come to e
--     sought-start, sought-more    before the first turn, and after one turn more
--     sought-at, sought-last, sought-lost, sought-out      what the search answers where it ends
use mathlib.Core.Path.{◌≡◌, refl, sym, ◌∙◌, ap, subst}
use mathlib.Core.Bool.{Bool, true, false}
use mathlib.Core.Logic.{◌≢◌}
use Prim.Native.Nat.{ℕ, zero, suc, ◌+◌, ◌-◌, ◌<◌, ◌≤◌}
use native.Mathlib.Omega.{arith}
use borrow.Author.Tests.{eq-eqb, ne_eqb}
use Rattle.std.specs.Prelude.{Option, Some, None}
use Rattle.walks.specs.Steps.{step_to, to_if}
use Rattle.walks.specs.Neighbour.{seek}
use Rattle.walks.proofs.Steps.{to_is, lost-is}

less_one : (k n : ℕ) → n < k → k - n ≡ suc (k - (n + 1))
less_one k n l = omega arith

module _ (step : ℕ → ℕ) (on test : ℕ → Bool) (s k : ℕ) (r : Option ℕ) where
  pub record Sought (n e : ℕ) : Type 0 where
    pub within : n ≤ k
    pub rest : r ≡ seek step on test s (k - n) false (on e) e

  pub sought-start : r ≡ seek step on test s k false (on s) s → Sought 0 s
  sought-start h = record { within = omega arith; rest = h ∙ ap (λ (j : ℕ). seek step on test s j false (on s) s) (less_none k) }
    where
      less_none : (k : ℕ) → k ≡ k - 0
      less_none k = omega arith

  module _ (n e : ℕ) (h : Sought n e) where
    module _ (q p next : ℕ) (to : Some (step_to p next) ≡ to_if (on e) q (step e)) (l : n < k) where
      pub sought-at : test e ≡ true → Some e ≡ r
      unfolding seek
      sought-at b = sym (h.rest ∙ rw (less_one k n l, (to_is (on e) q (step e) p next to).0, b))

      pub sought-more : test e ≡ false → next ≢ s → Sought (n + 1) next
      unfolding seek
      sought-more b d =
          let t = to_is (on e) q (step e) p next to in
          subst (λ i. Sought (n + 1) i) t.2 record {
            within = omega arith;
            rest = h.rest ∙ rw (less_one k n l, t.0, b, ne_eqb (step e) s (λ z. d (sym t.2 ∙ z)));
          }

      pub sought-last : test e ≡ false → next ≡ s → None ≡ r
      unfolding seek
      sought-last b d =
          let t = to_is (on e) q (step e) p next to in
          sym (h.rest ∙ rw (less_one k n l, t.0, b, eq-eqb (step e) s (t.2 ∙ d)) (met (k - (n + 1))))
        where
          met : (j : ℕ) → seek step on test s j true (on (step e)) (step e) ≡ None
          met zero = refl
          met (suc j) = refl

    pub sought-lost : (q : ℕ) → None ≡ to_if (on e) q (step e) → n < k → None ≡ r
    unfolding seek
    sought-lost q o l = sym (h.rest ∙ rw (less_one k n l, lost-is (on e) q (step e) o))

    pub sought-out : k ≤ n → None ≡ r
    unfolding seek
    sought-out l = sym (h.rest ∙ rw (none_left k n l))
      where
        none_left : (k n : ℕ) → k ≤ n → k - n ≡ 0
        none_left k n l = omega arith
