-- The laws of darts in a closed mesh: what settles a dart. Assumes nothing.
use mathlib.Core.Path.{◌≡◌, refl, sym, ◌∙◌, ap}
use Rattle.closed_meshes.specs.Mesh.{MeshOver, Dart, lft, rgt, edge, flip, first, second, face}
use Rattle.closed_meshes.specs.Closed.{Closed}

-- The other side of the other side is the side itself.
pub flip-flip : {E : Type 0} (d : Dart E) → flip (flip d) ≡ d
flip-flip (lft e) = refl
flip-flip (rgt e) = refl

-- Both sides of an edge are of that edge.
pub edge-flip : {E : Type 0} (d : Dart E) → edge (flip d) ≡ edge d
edge-flip (lft e) = refl
edge-flip (rgt e) = refl

module _ {P E F : Type 0} (m : MeshOver P E F) where
  -- A side ends where the other side begins.
  pub first-flip : (d : Dart E) → first m (flip d) ≡ second m d
  first-flip (lft e) = refl
  first-flip (rgt e) = refl

module _ {P E F : Type 0} {m : MeshOver P E F} (c : Closed m) where
  -- The ends of a dart differ.
  pub first-differs : (d : Dart E) → ¬ (first m d ≡ second m d)
  first-differs (lft e) h = c.ends-differ e h
  first-differs (rgt e) h = c.ends-differ e (sym h)

  -- A dart is settled by its edge and its face.
  pub dart-of-face : (d d' : Dart E) → edge d ≡ edge d' → face m d ≡ face m d' → d ≡ d'
  dart-of-face (lft e) (lft e') k h = ap lft k
  dart-of-face (lft e) (rgt e') k h = absurd (c.sides-differ e (h ∙ ap m.right (sym k)))
  dart-of-face (rgt e) (lft e') k h = absurd (c.sides-differ e (ap m.left k ∙ sym h))
  dart-of-face (rgt e) (rgt e') k h = ap rgt k

  -- A dart is settled by its edge and its first point, and by its edge and its second point.
  pub dart-of-first : (d d' : Dart E) → edge d ≡ edge d' → first m d ≡ first m d' → d ≡ d'
  dart-of-first (lft e) (lft e') k h = ap lft k
  dart-of-first (lft e) (rgt e') k h = absurd (c.ends-differ e (h ∙ ap m.dest (sym k)))
  dart-of-first (rgt e) (lft e') k h = absurd (c.ends-differ e (ap m.origin k ∙ sym h))
  dart-of-first (rgt e) (rgt e') k h = ap rgt k

  pub dart-of-second : (d d' : Dart E) → edge d ≡ edge d' → second m d ≡ second m d' → d ≡ d'
  dart-of-second d d' k h =
      sym (flip-flip d)
      ∙ ap flip
      (dart-of-first (flip d) (flip d') (edge-flip d ∙ k ∙ sym (edge-flip d')) (first-flip m d ∙ h ∙ sym (first-flip m d')))
      ∙ flip-flip d'

  -- The next dart and the previous one are of the same face, and of another edge.
  pub face-next : (d : Dart E) → face m (c.next d) ≡ face m d
  face-next d = c.about-faces.cls-step d

  pub face-prev : (d : Dart E) → face m (c.prev d) ≡ face m d
  face-prev d = sym (face-next (c.prev d)) ∙ ap (face m) (c.next-prev d)

  pub edge-moves : (d : Dart E) → ¬ (edge (c.next d) ≡ edge d)
  edge-moves d h =
      first-differs d (sym (ap (first m) (dart-of-face (c.next d) d h (face-next d))) ∙ c.first_next d)
