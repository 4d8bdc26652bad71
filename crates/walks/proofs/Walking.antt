-- A walk under way, for every step and every test of edges: what a loop that walks has done. Assumes nothing.
--     ahead es w                       the walk that passes the edges es first
--     Walking step on s k w es n e     the walk w of at most k edges has passed n of them, es, and come to e
--     walking_start                    no edge is passed
--     walking-more                     one edge more
--     walking_on                       what the walk w is where it has come to an edge that it passes, wherever it leads then
--     walking-lost walking-last walking-out      what the walk w is where it ends: on an edge that it may not pass, with an edge
--                                      from which it meets its start, with no edge left
use mathlib.Core.Path.{◌≡◌, refl, sym, ◌∙◌, ap}
use mathlib.Core.Bool.{Bool, true, false}
use mathlib.Core.List.{List, [], ◌∷◌, ◌++◌, append_assoc}
use mathlib.Core.Logic.{◌≢◌}
use Prim.Native.Nat.{ℕ, zero, suc, ◌+◌, ◌-◌, ◌<◌, ◌≤◌}
use native.Mathlib.Omega.{arith}
use lib.Dec.{eqb}
use lib.ListN.{length, length-append}
use borrow.Author.Tests.{eq-eqb, ne_eqb}
use Rattle.audited_meshes.specs.Walks.{Walk, back, lost, pass, walk}

abbrev pub ahead : List ℕ → Walk → Walk
ahead es (back rs) = back (es ++ rs)
ahead es lost = lost

ahead_none : (w : Walk) → ahead [] w ≡ w
ahead_none (back rs) = refl
ahead_none lost = refl

ahead-pass : (es : List ℕ) (e : ℕ) (w : Walk) → ahead es (pass e w) ≡ ahead (es ++ e ∷ []) w
ahead-pass es e (back rs) = ap back (sym (append_assoc es (e ∷ []) rs))
ahead-pass es e lost = refl

less_one : (k n : ℕ) → n < k → k - n ≡ suc (k - (n + 1))
less_one k n l = omega arith

module _ (step : ℕ → ℕ) (on : ℕ → Bool) (s k : ℕ) (w : Walk) where
  pub record Walking (passed : List ℕ) (n e : ℕ) : Type 0 where
    pub count : length passed ≡ n
    pub rest : w ≡ ahead passed (walk step on s (k - n) false (on e) e)

  pub walking_start : w ≡ walk step on s k false (on s) s → Walking [] 0 s
  walking_start h = record { count = refl; rest = h ∙ rw (less_none k) (sym (ahead_none (walk step on s k false (on s) s))) }
    where
      less_none : (k : ℕ) → k - 0 ≡ k
      less_none k = omega arith

  pub walking-lost : (es : List ℕ) (n e : ℕ) → Walking es n e → n < k → on e ≡ false → w ≡ lost
  unfolding walk
  walking-lost es n e h l o = h.rest ∙ rw (less_one k n l, o)

  pub walking_on : (es : List ℕ) (n e : ℕ) → Walking es n e → n < k → on e ≡ true
      → w ≡ ahead (es ++ e ∷ []) (walk step on s (k - (n + 1)) (eqb (step e) s) (on (step e)) (step e))
  unfolding walk
  walking_on es n e h l o =
      h.rest ∙ rw (less_one k n l, o) (ahead-pass es e (walk step on s (k - (n + 1)) (eqb (step e) s) (on (step e)) (step e)))

  pub walking-last : (es : List ℕ) (n e : ℕ) → Walking es n e → n < k → on e ≡ true → step e ≡ s → w ≡ back (es ++ e ∷ [])
  unfolding walk
  walking-last es n e h l o b = h.rest ∙ rw (less_one k n l, o, eq-eqb (step e) s b) (met (k - (n + 1)))
    where
      met : (j : ℕ) → ahead es (pass e (walk step on s j true (on (step e)) (step e))) ≡ back (es ++ e ∷ [])
      met zero = refl
      met (suc j) = refl

  pub walking-more : (es : List ℕ) (n e : ℕ) → Walking es n e → n < k → on e ≡ true → step e ≢ s → Walking (es ++ e ∷ []) (n + 1) (step e)
  unfolding walk
  walking-more es n e h l o b = record {
    count = length-append es (e ∷ []) ∙ ap (λ (i : ℕ). i + 1) h.count;
    rest = h.rest ∙ rw (less_one k n l, o, ne_eqb (step e) s b) (ahead-pass es e (walk step on s (k - (n + 1)) false (on (step e)) (step e)));
  }

  pub walking-out : (es : List ℕ) (n e : ℕ) → Walking es n e → k ≤ n → w ≡ lost
  unfolding walk
  walking-out es n e h l = h.rest ∙ rw (none_left k n l)
    where
      none_left : (k n : ℕ) → k ≤ n → k - n ≡ 0
      none_left k n l = omega arith
