-- In an audited mesh whose points are all joined through edges, every depth between two points is crossed: a chain of edges from
-- a point at or below the depth to one at or above it has an edge that goes from at or below to at or above. Assumes nothing.
use mathlib.Core.Path.{◌≡◌, refl, ◌∙◌, ap, subst}
use mathlib.Core.Bool.{true, or-true}
use mathlib.Core.List.{List}
use mathlib.Core.Logic.{◌⊎◌, inl, inr, ⊎_elim}
use Prim.Native.Nat.{ℕ, ◌<◌}
use lib.Ieee.{Float, le}
use lib.Ieee.Scale.{finite}
use Rattle.tables.specs.Mesh.{Mesh, z, origin, dest, start}
use Rattle.audited_meshes.specs.Walks.{acw_of_point, Touches}
use Rattle.audited_meshes.specs.Audited.{Audited, Passes, last, more}
use Rattle.crossings.specs.Crossings.{between, crosses}
use Rattle.crossings.specs.Claims.{Joins, EdgeChain, there, along}
use Rattle.crossings.proofs.Order.{le_total}

-- an edge that joins a point at or below the depth and one at or above it crosses
joins-crosses : (m : Mesh) (d : Float) (e p q : ℕ) → Joins m e p q → le (z m p) d ≡ true → le d (z m q) ≡ true → crosses m d e ≡ true
joins-crosses m d e p q (inl (o, t)) low high =
    rw (ap (λ (k : ℕ). le (z m k) d) o ∙ low, ap (λ (k : ℕ). le d (z m k)) t ∙ high)
joins-crosses m d e p q (inr (o, t)) low high =
    rw (ap (λ (k : ℕ). le (z m k) d) t ∙ low, ap (λ (k : ℕ). le d (z m k)) o ∙ high) (or-true (between (z m (origin m e)) (z m (dest m e)) d))

module _ (m : Mesh) (np ne nf : ℕ) (a : Audited m np ne nf) (d : Float) (f : finite d ≡ true) where
  abbrev CrossingEdge : Type 0
  CrossingEdge = (e : ℕ) × (e < ne) × (crosses m d e ≡ true)

  -- a point is at or below the depth, or at or above it
  either : (p : ℕ) → p < np → (le (z m p) d ≡ true) ⊎ (le d (z m p) ≡ true)
  either p l = le_total (z m p) d (a.z-finite p l) f

  -- the start edge of a point is an edge of it
  start-touches : (p : ℕ) → p < np → (start m p < ne) × Touches m p (start m p)
  start-touches p l = go (a.point-walked p l).passes
    where
      go : {es : List ℕ} → Passes (acw_of_point m p) (λ e. (e < ne) × Touches m p e) (start m p) (start m p) es
          → (start m p < ne) × Touches m p (start m p)
      go (last on back) = on
      go (more on far rest) = on

  -- an edge of a point at the depth crosses, wherever its other end is
  crosses-at : (e p q : ℕ) → e < ne → q < np → Joins m e p q → Joins m e q p → le (z m p) d ≡ true → le d (z m p) ≡ true → CrossingEdge
  crosses-at e p q l k j i low high =
      ⊎_elim (λ below. (e, l, joins-crosses m d e q p i below high)) (λ above. (e, l, joins-crosses m d e p q j low above)) (either q k)

  at-depth : (p : ℕ) → p < np → le (z m p) d ≡ true → le d (z m p) ≡ true → CrossingEdge
  at-depth p l low high = go (start-touches p l)
    where
      go : (start m p < ne) × Touches m p (start m p) → CrossingEdge
      go (s, inl o) =
          let q = (a.edge-in-range (start m p) s).dest-in-range in
          crosses-at (start m p) p (dest m (start m p)) s q (inl (o, refl)) (inr (o, refl)) low high
      go (s, inr t) =
          let q = (a.edge-in-range (start m p) s).origin-in-range in
          crosses-at (start m p) p (origin m (start m p)) s q (inr (refl, t)) (inl (refl, t)) low high

  -- the far end of an edge is a point
  far-in-range : (e p q : ℕ) → e < ne → Joins m e p q → q < np
  far-in-range e p q l (inl (o, t)) = subst (λ (k : ℕ). k < np) t (a.edge-in-range e l).dest-in-range
  far-in-range e p q l (inr (o, t)) = subst (λ (k : ℕ). k < np) o (a.edge-in-range e l).origin-in-range

  pub chain-crosses : {q p : ℕ} → EdgeChain m ne q p → p < np → le (z m p) d ≡ true → le d (z m q) ≡ true → CrossingEdge
  chain-crosses {p = p} there l low high = at-depth p l low high
  chain-crosses {q = q} {p = p} (along r e el j rest) l low high =
      let k = far-in-range e p r el j in
      ⊎_elim (λ below. chain-crosses rest k below high) (λ above. (e, el, joins-crosses m d e p r j low above)) (either r k)
