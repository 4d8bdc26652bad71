-- Edges between two points that differ. Assumes nothing.
--     Joins m p q e     edge e joins the points p and q, in either direction
use mathlib.Core.Path.{◌≡◌, refl, sym, ◌∙◌, subst}
use mathlib.Core.Bool.{Bool, true, false, cond}
use mathlib.Core.Logic.{◌⊎◌, inl, inr, ◌≢◌}
use Prim.Native.Nat.{ℕ}
use lib.Dec.{eqb}
use borrow.Author.Tests.{eq-eqb, ne_eqb}
use Rattle.tables.specs.Mesh.{Mesh, origin, dest}
use Rattle.audited_meshes.specs.Walks.{Touches}
use Rattle.audited_meshes.specs.Audited.{SameEnds}
use Rattle.walks.specs.Steps.{point_across}

abbrev pub Joins : Mesh → ℕ → ℕ → ℕ → Type 0
Joins m p q e = ((origin m e ≡ p) × (dest m e ≡ q)) ⊎ ((origin m e ≡ q) × (dest m e ≡ p))

module _ (m : Mesh) (p q : ℕ) where
  pub joins-of-touches : (e : ℕ) → p ≢ q → Touches m p e → Touches m q e → Joins m p q e
  joins-of-touches e d (inl a) (inl b) = absurd (d (sym a ∙ b))
  joins-of-touches e d (inl a) (inr b) = inl (a, b)
  joins-of-touches e d (inr a) (inl b) = inr (b, a)
  joins-of-touches e d (inr a) (inr b) = absurd (d (sym a ∙ b))

  pub touches-of-joins : (e : ℕ) → Joins m p q e → Touches m p e
  touches-of-joins e (inl (a, b)) = inl a
  touches-of-joins e (inr (a, b)) = inr b

  pub other-of-joins : (e : ℕ) → p ≢ q → Joins m p q e → point_across m p e ≡ q
  other-of-joins e d (inl (a, b)) = rw (eq-eqb (origin m e) p a) b
  other-of-joins e d (inr (a, b)) = rw (ne_eqb (origin m e) p (λ h. d (sym h ∙ a))) a

  pub same-of-joins : (i j : ℕ) → Joins m p q i → Joins m p q j → SameEnds m i j
  same-of-joins i j (inl (a, b)) (inl (c, d)) = inl (a ∙ sym c, b ∙ sym d)
  same-of-joins i j (inl (a, b)) (inr (c, d)) = inr (a ∙ sym d, b ∙ sym c)
  same-of-joins i j (inr (a, b)) (inl (c, d)) = inr (a ∙ sym d, b ∙ sym c)
  same-of-joins i j (inr (a, b)) (inr (c, d)) = inl (a ∙ sym c, b ∙ sym d)

  pub joins-of-same : (i j : ℕ) → SameEnds m i j → Joins m p q i → Joins m p q j
  joins-of-same i j (inl (a, b)) (inl (c, d)) = inl (sym a ∙ c, sym b ∙ d)
  joins-of-same i j (inl (a, b)) (inr (c, d)) = inr (sym a ∙ c, sym b ∙ d)
  joins-of-same i j (inr (a, b)) (inl (c, d)) = inr (sym b ∙ d, sym a ∙ c)
  joins-of-same i j (inr (a, b)) (inr (c, d)) = inl (sym b ∙ d, sym a ∙ c)

-- an edge touches its other end, which is another point
pub other-touched : (m : Mesh) (p e : ℕ) → Touches m (point_across m p e) e
other-touched m p e = go (eqb (origin m e) p)
  where
    go : (b : Bool) → Touches m (cond b (dest m e) (origin m e)) e
    go true = inr refl
    go false = inl refl

pub other_differs : (m : Mesh) (p e : ℕ) → origin m e ≢ dest m e → Touches m p e → p ≢ point_across m p e
other_differs m p e d (inl a) h = d (a ∙ h ∙ rw (eq-eqb (origin m e) p a) refl)
other_differs m p e d (inr b) h =
    let away : origin m e ≢ p = λ a. d (a ∙ sym b) in
    away (sym (h ∙ rw (ne_eqb (origin m e) p away) refl))

-- an edge joins a point that it touches and its other end
pub joins-other : (m : Mesh) (p e : ℕ) → origin m e ≢ dest m e → Touches m p e → Joins m p (point_across m p e) e
joins-other m p e d t = joins-of-touches m p (point_across m p e) e (other_differs m p e d t) t (other-touched m p e)

-- edges of a point with the same other end join the same two points
pub same-of-others : (m : Mesh) (p i j : ℕ) → origin m i ≢ dest m i → origin m j ≢ dest m j → Touches m p i → Touches m p j
    → point_across m p i ≡ point_across m p j → SameEnds m i j
same-of-others m p i j di dj ti tj same =
    same-of-joins m p (point_across m p j) i j (subst (λ (x : ℕ). Joins m p x i) same (joins-other m p i di ti)) (joins-other m p j dj tj)
