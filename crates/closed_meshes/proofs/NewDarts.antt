-- The darts of a refined mesh. Each old dart d gives four: its two halves, and the joining edge seen from its right, which runs
-- inwards, and from its left, which runs outwards. Here is the table of the refinement by these four kinds. Assumes nothing.
use mathlib.Core.Path.{◌≡◌, refl}
use Rattle.closed_meshes.specs.Mesh.{MeshOver, Dart, lft, rgt, edge, flip, first, second, face}
use Rattle.closed_meshes.specs.Closed.{Closed}
use Rattle.closed_meshes.specs.Refinement.{NewEdge, org, dst, join, old, mid, first_half, second_half, refined}

-- the new darts of d: the half from its first point to its midpoint, the half from there to its second point
abbrev pub start-half : {E : Type 0} → Dart E → Dart (NewEdge E)
start-half (lft e) = lft (org e)
start-half (rgt e) = rgt (dst e)

abbrev pub end-half : {E : Type 0} → Dart E → Dart (NewEdge E)
end-half (lft e) = lft (dst e)
end-half (rgt e) = rgt (org e)

-- from the midpoint to the face point, and back
abbrev pub inward : {E : Type 0} → Dart E → Dart (NewEdge E)
inward d = rgt (join d)

abbrev pub outward : {E : Type 0} → Dart E → Dart (NewEdge E)
outward d = lft (join d)

-- There are no other new darts.
pub by_kind :
    {E : Type 0} (Q : Dart (NewEdge E) → Type 0) →
    ((d : Dart E) → Q (start-half d)) → ((d : Dart E) → Q (inward d)) →
    ((d : Dart E) → Q (outward d)) → ((d : Dart E) → Q (end-half d)) →
    (x : Dart (NewEdge E)) → Q x
by_kind Q s i o t (lft (org e)) = s (lft e)
by_kind Q s i o t (lft (dst e)) = t (lft e)
by_kind Q s i o t (lft (join d)) = o d
by_kind Q s i o t (rgt (org e)) = t (rgt e)
by_kind Q s i o t (rgt (dst e)) = s (rgt e)
by_kind Q s i o t (rgt (join d)) = i d

-- Their edges and their other sides.
pub edge-start-half : {E : Type 0} (d : Dart E) → edge (start-half d) ≡ first_half d
edge-start-half (lft e) = refl
edge-start-half (rgt e) = refl

pub edge-end-half : {E : Type 0} (d : Dart E) → edge (end-half d) ≡ second_half d
edge-end-half (lft e) = refl
edge-end-half (rgt e) = refl

pub flip-start-half : {E : Type 0} (d : Dart E) → flip (start-half d) ≡ end-half (flip d)
flip-start-half (lft e) = refl
flip-start-half (rgt e) = refl

pub flip-end-half : {E : Type 0} (d : Dart E) → flip (end-half d) ≡ start-half (flip d)
flip-end-half (lft e) = refl
flip-end-half (rgt e) = refl

module _ {P E F : Type 0} (m : MeshOver P E F) (c : Closed m) where
  unfoldable pub next' : Dart (NewEdge E) → Dart (NewEdge E)
  next' (lft (org e)) = inward (lft e)
  next' (lft (dst e)) = start-half (c.next (lft e))
  next' (lft (join d)) = end-half d
  next' (rgt (org e)) = start-half (c.next (rgt e))
  next' (rgt (dst e)) = inward (rgt e)
  next' (rgt (join d)) = outward (c.prev d)

  unfoldable pub prev' : Dart (NewEdge E) → Dart (NewEdge E)
  prev' (lft (org e)) = end-half (c.prev (lft e))
  prev' (lft (dst e)) = outward (lft e)
  prev' (lft (join d)) = inward (c.next d)
  prev' (rgt (org e)) = outward (rgt e)
  prev' (rgt (dst e)) = end-half (c.prev (rgt e))
  prev' (rgt (join d)) = start-half d

  -- The table of the refinement by the four kinds of darts.
  pub first-start-half : (d : Dart E) → first (refined m c) (start-half d) ≡ old (first m d)
  first-start-half (lft e) = refl
  first-start-half (rgt e) = refl

  pub second-start-half : (d : Dart E) → second (refined m c) (start-half d) ≡ mid (edge d)
  second-start-half (lft e) = refl
  second-start-half (rgt e) = refl

  pub first-end-half : (d : Dart E) → first (refined m c) (end-half d) ≡ mid (edge d)
  first-end-half (lft e) = refl
  first-end-half (rgt e) = refl

  pub second-end-half : (d : Dart E) → second (refined m c) (end-half d) ≡ old (second m d)
  second-end-half (lft e) = refl
  second-end-half (rgt e) = refl

  pub face-start-half : (d : Dart E) → face (refined m c) (start-half d) ≡ d
  face-start-half (lft e) = refl
  face-start-half (rgt e) = refl

  pub face-end-half : (d : Dart E) → face (refined m c) (end-half d) ≡ c.next d
  face-end-half (lft e) = refl
  face-end-half (rgt e) = refl

  pub next-start-half : (d : Dart E) → next' (start-half d) ≡ inward d
  unfolding next'
  next-start-half (lft e) = refl
  next-start-half (rgt e) = refl

  pub next-end-half : (d : Dart E) → next' (end-half d) ≡ start-half (c.next d)
  unfolding next'
  next-end-half (lft e) = refl
  next-end-half (rgt e) = refl

  pub prev-start-half : (d : Dart E) → prev' (start-half d) ≡ end-half (c.prev d)
  unfolding prev'
  prev-start-half (lft e) = refl
  prev-start-half (rgt e) = refl

  pub prev-end-half : (d : Dart E) → prev' (end-half d) ≡ outward d
  unfolding prev'
  prev-end-half (lft e) = refl
  prev-end-half (rgt e) = refl
