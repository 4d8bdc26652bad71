-- A loop that walks and counts, for every step and every test of edges. Assumes nothing.
--     Counted n e                  n edges are passed and the walk has come to e
--     counted_start, counted-more  before the first turn, and after one turn more
--     counted-last, counted-lost, counted-out      what the loop answers where the walk ends
use mathlib.Core.Path.{◌≡◌, sym, ◌∙◌, ap, subst}
use mathlib.Core.Bool.{Bool, false}
use mathlib.Core.List.{List, [], ◌∷◌, ◌++◌}
use mathlib.Core.Logic.{◌≢◌}
use Prim.Native.Nat.{ℕ, ◌+◌, ◌<◌, ◌≤◌}
use lib.ListN.{length-append}
use Rattle.std.specs.Prelude.{Some, None}
use Rattle.audited_meshes.specs.Walks.{Walk, walk}
use Rattle.walks.specs.Steps.{step_to, to_if, passed_by}
use Rattle.walks.proofs.Steps.{to_is, lost-is}
use Rattle.walks.proofs.Walking.{Walking, walking_start, walking-more, walking-lost, walking-last, walking-out}

module _ (step : ℕ → ℕ) (on : ℕ → Bool) (s k : ℕ) (w : Walk) where
  pub record Counted (n e : ℕ) : Type 0 where
    pub edges : List ℕ
    pub way : Walking step on s k w edges n e

  pub counted_start : w ≡ walk step on s k false (on s) s → Counted 0 s
  counted_start h = record { edges = []; way = walking_start step on s k w h }

  module _ (n e : ℕ) (h : Counted n e) where
    pub counted-more : (q p next : ℕ) → Some (step_to p next) ≡ to_if (on e) q (step e) → n < k → next ≢ s → Counted (n + 1) next
    counted-more q p next to l b =
        let t = to_is (on e) q (step e) p next to in
        subst (λ i. Counted (n + 1) i) t.2 record {
          edges = h.edges ++ e ∷ [];
          way = walking-more step on s k w h.edges n e h.way l t.0 (λ q. b (sym t.2 ∙ q));
        }

    pub counted-last : (q p next : ℕ) → Some (step_to p next) ≡ to_if (on e) q (step e) → n < k → next ≡ s → Some (n + 1) ≡ passed_by w
    counted-last q p next to l b =
        let t = to_is (on e) q (step e) p next to in
        ap Some (sym (length-append h.edges (e ∷ []) ∙ ap (λ (i : ℕ). i + 1) h.way.count))
        ∙ sym (ap passed_by (walking-last step on s k w h.edges n e h.way l t.0 (t.2 ∙ b)))

    pub counted-lost : (q : ℕ) → None ≡ to_if (on e) q (step e) → n < k → None ≡ passed_by w
    counted-lost q o l = sym (ap passed_by (walking-lost step on s k w h.edges n e h.way l (lost-is (on e) q (step e) o)))

    pub counted-out : k ≤ n → None ≡ passed_by w
    counted-out l = sym (ap passed_by (walking-out step on s k w h.edges n e h.way l))
