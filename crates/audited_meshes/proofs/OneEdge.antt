-- The quick test that no other edge joins the ends of an edge says so, where the walks about its ends pass all their edges.
-- Assumes nothing.
use mathlib.Core.Path.{◌≡◌, refl, sym, ◌∙◌, subst}
use mathlib.Core.Bool.{Bool, true, false, cond, false≢true}
use mathlib.Core.List.{List, [], ◌∷◌}
use mathlib.Core.Logic.Iff
use mathlib.Core.Logic.{◌⊎◌, inl, inr, ⊎_elim, ◌≢◌}
use Prim.Native.Nat.{ℕ, suc, ◌<◌}
use native.Mathlib.Omega.{arith}
use lib.Dec.{leb}
use lib.ListN.{length}
use Rattle.tables.specs.Mesh.{Mesh, valence, start, origin, dest}
use Rattle.audited_meshes.specs.Folds.{occurrences}
use Rattle.audited_meshes.specs.Walks.{touches, acw_of_point, Touches}
use Rattle.audited_meshes.specs.Audited.{SameEnds, Passes, last, more, PointWalked}
use Rattle.audited_meshes.specs.Quick.{free, alone, alone_at, one_edge}
use Rattle.audited_meshes.proofs.Tests.{Is, and_is, or_is, not_is, eqb_is, ltb-is}
use Rattle.audited_meshes.proofs.Walks.{occurrences-here, in-longer, passes_on}
use Rattle.audited_meshes.proofs.Audited.{touches-is}

module _ (m : Mesh) (ne e p q : ℕ) where
  free-is : (i : ℕ) → Is (free m ne e q i) ((i < ne) × ((i ≡ e) ⊎ (¬ Touches m q i)))
  free-is i = and_is (ltb-is i ne) (or_is (eqb_is i e) (not_is (touches-is m q i)))

  alone-suc :
      (k : ℕ) (ok : Bool) (i : ℕ) →
      Is (alone m ne e p q (suc k) ok i) ((ok ≡ true) × (alone m ne e p q k (free m ne e q (acw_of_point m p i)) (acw_of_point m p i) ≡ true))
  unfolding alone
  alone-suc k true i = (λ t. (refl, t), λ h. h.1)
  alone-suc k false i = (λ t. absurd (false≢true t), λ h. h.0)

  -- the test along a walk is a test of each edge that the walk passes
  alone-is :
      (On : ℕ → Type 0) (s i : ℕ) (es : List ℕ) → Passes (acw_of_point m p) On s i es →
      Is (alone m ne e p q (length es) (free m ne e q i) i) ((j : ℕ) → 0 < occurrences j es → free m ne e q j ≡ true)
  unfolding alone occurrences
  alone-is On s i es (last {e = k} o b) = (
    λ t j l.
        in-longer j k [] l (λ same. subst (λ j. free m ne e q j ≡ true) same ((alone-suc 0 (free m ne e q k) k).0 t).0) (λ l. absurd (omega arith)),
    λ h. (alone-suc 0 (free m ne e q k) k).1 (h k (omega (arith, occurrences-here k [])), refl),
  )
  alone-is On s i es (more {e = k} {es = rest} o b w) = go (alone-is On s (acw_of_point m p k) rest w)
    where
      go : Is (alone m ne e p q (length rest) (free m ne e q (acw_of_point m p k)) (acw_of_point m p k)) ((j : ℕ) → 0 < occurrences j rest → free m ne e q j ≡ true) →
          Is (alone m ne e p q (suc (length rest)) (free m ne e q k) k) ((j : ℕ) → 0 < occurrences j (k ∷ rest) → free m ne e q j ≡ true)
      go ih = (
        λ t j l.
            in-longer j k rest l
            (λ same. subst (λ j. free m ne e q j ≡ true) same ((alone-suc (length rest) (free m ne e q k) k).0 t).0)
            (ih.0 ((alone-suc (length rest) (free m ne e q k) k).0 t).1 j),
        λ h.
            (alone-suc (length rest) (free m ne e q k) k).1
            (h k (omega (arith, occurrences-here k rest)), ih.1 (λ j l. h j (omega arith))),
      )

  alone_at-is : PointWalked m ne p → Is (alone_at m ne e p q) ((j : ℕ) → j < ne → Touches m p j → Touches m q j → j ≡ e)
  unfolding alone_at
  alone_at-is r = Iff.trans walked (into, out)
    where
      walked : Is (alone m ne e p q (valence m p) (free m ne e q (start m p)) (start m p)) ((j : ℕ) → 0 < occurrences j r.edges → free m ne e q j ≡ true)
      walked =
          subst (λ v. Is (alone m ne e p q v (free m ne e q (start m p)) (start m p)) ((j : ℕ) → 0 < occurrences j r.edges → free m ne e q j ≡ true)) r.is-valence
          (alone-is _ (start m p) (start m p) r.edges r.passes)

      into : ((j : ℕ) → 0 < occurrences j r.edges → free m ne e q j ≡ true) → (j : ℕ) → j < ne → Touches m p j → Touches m q j → j ≡ e
      into h j l tp tq =
          ⊎_elim (λ same. same) (λ away. absurd (away tq)) ((free-is j).0 (h j (omega (arith, r.each-once j l tp)))).1

      out : ((j : ℕ) → j < ne → Touches m p j → Touches m q j → j ≡ e) → (j : ℕ) → 0 < occurrences j r.edges → free m ne e q j ≡ true
      out h j l =
          let on : (j < ne) × Touches m p j = passes_on _ _ _ _ r.edges r.passes j l in
          (free-is j).1 (on.0, go on (touches m q j) refl)
        where
          go : (j < ne) × Touches m p j → (t : Bool) → touches m q j ≡ t → (j ≡ e) ⊎ (¬ Touches m q j)
          go on true t = inl (h j on.0 on.1 ((touches-is m q j).0 t))
          go on false t = inr (λ tq. false≢true (sym t ∙ (touches-is m q j).1 tq))

-- an edge at both ends of e joins the same two points, if these differ
same-of-touches : (m : Mesh) (e j : ℕ) → origin m e ≢ dest m e → Touches m (origin m e) j → Touches m (dest m e) j → SameEnds m e j
same-of-touches m e j h (inl a) (inl b) = absurd (h (sym a ∙ b))
same-of-touches m e j h (inl a) (inr b) = inl (sym a, sym b)
same-of-touches m e j h (inr a) (inl b) = inr (sym a, sym b)
same-of-touches m e j h (inr a) (inr b) = absurd (h (sym a ∙ b))

touches-of-same : (m : Mesh) (e j : ℕ) → SameEnds m e j → Touches m (origin m e) j × Touches m (dest m e) j
touches-of-same m e j (inl h) = (inl (sym h.0), inr (sym h.1))
touches-of-same m e j (inr h) = (inr (sym h.0), inl (sym h.1))

-- the test of one edge
pub one_edge-is :
    (m : Mesh) (ne e : ℕ) → origin m e ≢ dest m e → PointWalked m ne (origin m e) → PointWalked m ne (dest m e) →
    Is (one_edge m ne e) ((j : ℕ) → j < ne → SameEnds m e j → e ≡ j)
unfolding one_edge
one_edge-is m ne e differ po pd = go (leb (valence m (origin m e)) (valence m (dest m e)))
  where
    go : (b : Bool) → Is (cond b (alone_at m ne e (origin m e) (dest m e)) (alone_at m ne e (dest m e) (origin m e))) ((j : ℕ) → j < ne → SameEnds m e j → e ≡ j)
    go true =
        Iff.trans (alone_at-is m ne e (origin m e) (dest m e) po) (
          λ h j l s. sym (h j l (touches-of-same m e j s).0 (touches-of-same m e j s).1),
          λ h j l a b. sym (h j l (same-of-touches m e j differ a b)),
        )
    go false =
        Iff.trans (alone_at-is m ne e (dest m e) (origin m e) pd) (
          λ h j l s. sym (h j l (touches-of-same m e j s).1 (touches-of-same m e j s).0),
          λ h j l b a. sym (h j l (same-of-touches m e j differ a b)),
        )
