-- Walks that pass no edge twice pass all their edges exactly if their lengths add up to twice the number of edges: each edge is
-- an edge of two of them. One law serves faces, with the sides of an edge, and points, with its ends. Assumes nothing.
use mathlib.Core.Path.{◌≡◌, refl, sym, ◌∙◌, ap₂, subst}
use mathlib.Core.Bool.{Bool, true, false, ◌||◌}
use mathlib.Core.List.{List}
use mathlib.Core.Logic.{◌↔◌, ◌≢◌}
use Prim.Native.Nat.{ℕ, ◌+◌, ◌*◌, ◌≤◌, ◌<◌}
use lib.Dec.{eqb}
use lib.ListN.{length}
use borrow.Author.Tests.{eqb-true}
use Rattle.closed_meshes.specs.Renumbering.{sum_to}
use Rattle.audited_meshes.specs.Folds.{one_if, occurrences}
use Rattle.audited_meshes.proofs.Folds.{sum_to-cong, sum_to-le, sum_to-tight, sum_to-add, sum_to-const, sum_to-swap, sum_to-one, length-sum_to}

-- of two numbers that differ at most one is k
one-or : (a b k : ℕ) → a ≢ b → one_if (eqb a k || eqb b k) ≡ one_if (eqb a k) + one_if (eqb b k)
one-or a b k h = go (eqb a k) refl (eqb b k) refl
  where
    go : (s : Bool) → eqb a k ≡ s → (t : Bool) → eqb b k ≡ t → one_if (s || t) ≡ one_if s + one_if t
    go true p true q = absurd (h (eqb-true a k p ∙ sym (eqb-true b k q)))
    go true p false q = refl
    go false p true q = refl
    go false p false q = refl

-- n classes, ne edges; a e and b e are the two classes of edge e; es k are the edges that the walk about class k passes
module _
    (n ne : ℕ)
    (a b : ℕ → ℕ)
    (a-below : (e : ℕ) → e < ne → a e < n)
    (b-below : (e : ℕ) → e < ne → b e < n)
    (differ : (e : ℕ) → e < ne → a e ≢ b e)
    (es : ℕ → List ℕ)
    (below : (k i : ℕ) → 0 < occurrences i (es k) → i < ne)
    (at_most : (k i : ℕ) → occurrences i (es k) ≤ one_if (eqb (a i) k || eqb (b i) k)) where
  -- each edge is in two classes
  two-classes : (e : ℕ) → e < ne → sum_to n (λ k. one_if (eqb (a e) k || eqb (b e) k)) ≡ 2
  two-classes e l =
      sum_to-cong n (λ k. one_if (eqb (a e) k || eqb (b e) k)) (λ k. one_if (eqb (a e) k) + one_if (eqb (b e) k)) (λ k j. one-or (a e) (b e) k (differ e l))
      ∙ sum_to-add n (λ k. one_if (eqb (a e) k)) (λ k. one_if (eqb (b e) k))
      ∙ ap₂ (λ (i j : ℕ). i + j) (sum_to-one n (a e) (a-below e l)) (sum_to-one n (b e) (b-below e l))

  -- the edges of all classes are twice the edges
  all-classes : sum_to n (λ k. sum_to ne (λ e. one_if (eqb (a e) k || eqb (b e) k))) ≡ 2 * ne
  all-classes =
      sum_to-swap n ne (λ k e. one_if (eqb (a e) k || eqb (b e) k))
      ∙ sum_to-cong ne (λ e. sum_to n (λ k. one_if (eqb (a e) k || eqb (b e) k))) (λ e. 2) two-classes
      ∙ sum_to-const ne 2

  length-walk : (k : ℕ) → length (es k) ≡ sum_to ne (λ e. occurrences e (es k))
  length-walk k = length-sum_to ne (es k) (below k)

  pub sum_is :
      (sum_to n (λ k. length (es k)) ≡ 2 * ne)
      ↔ ((k e : ℕ) → k < n → e < ne → occurrences e (es k) ≡ one_if (eqb (a e) k || eqb (b e) k))
  sum_is = (into, out)
    where
      into : sum_to n (λ k. length (es k)) ≡ 2 * ne → (k e : ℕ) → k < n → e < ne → occurrences e (es k) ≡ one_if (eqb (a e) k || eqb (b e) k)
      into sum k e l j =
          let short : (k : ℕ) → k < n → length (es k) ≤ sum_to ne (λ e. one_if (eqb (a e) k || eqb (b e) k))
          = λ k l. subst (λ x. x ≤ sum_to ne (λ e. one_if (eqb (a e) k || eqb (b e) k))) (sym (length-walk k))
          (sum_to-le ne (λ e. occurrences e (es k)) (λ e. one_if (eqb (a e) k || eqb (b e) k)) (λ e j. at_most k e)) in
          let full : length (es k) ≡ sum_to ne (λ e. one_if (eqb (a e) k || eqb (b e) k))
          = sum_to-tight n (λ k. length (es k)) (λ k. sum_to ne (λ e. one_if (eqb (a e) k || eqb (b e) k))) short (sum ∙ sym all-classes) k l in
          sum_to-tight ne (λ e. occurrences e (es k)) (λ e. one_if (eqb (a e) k || eqb (b e) k)) (λ e j. at_most k e) (sym (length-walk k) ∙ full) e j

      out : ((k e : ℕ) → k < n → e < ne → occurrences e (es k) ≡ one_if (eqb (a e) k || eqb (b e) k)) → sum_to n (λ k. length (es k)) ≡ 2 * ne
      out all =
          sum_to-cong n (λ k. length (es k)) (λ k. sum_to ne (λ e. one_if (eqb (a e) k || eqb (b e) k)))
          (λ k l. length-walk k ∙ sum_to-cong ne (λ e. occurrences e (es k)) (λ e. one_if (eqb (a e) k || eqb (b e) k)) (λ e j. all k e l j))
          ∙ all-classes
