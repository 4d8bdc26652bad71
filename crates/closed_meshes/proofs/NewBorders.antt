-- The borders and the corners of new faces. Assumes nothing.
use mathlib.Core.Path.{◌≡◌, ◌∙◌, ap}
use mathlib.Core.List.{[], ◌∷◌, map}
use mathlib.Core.Option.{some}
use Rattle.closed_meshes.specs.Mesh.{MeshOver, place0, place1, place2, place3, Dart, edge, first}
use Rattle.closed_meshes.specs.Cycles.{orbit}
use Rattle.closed_meshes.specs.Borders.{steps, new_border, NewBorders, NewCorners}
use Rattle.closed_meshes.specs.Closed.{Closed}
use Rattle.closed_meshes.specs.Refinement.{NewEdge, refined, new_corner}
use Rattle.closed_meshes.proofs.Darts.{face-prev}
use Rattle.closed_meshes.proofs.NewDarts.{start-half, end-half, inward, outward, next', edge-start-half, edge-end-half, first-start-half, first-end-half, next-start-half, next-end-half}
use Rattle.closed_meshes.proofs.Unique.{next-unique, size-unique, face_dart-unique}
use Rattle.closed_meshes.proofs.Refinement.{refined-closed, next-closed, size-closed, face_dart-closed}

-- Whatever closes the refined mesh, its walks about new faces are these.
module _ {P E F : Type 0} (m : MeshOver P E F) (c : Closed m) (c' : Closed (refined m c)) where
  next-refined : (x : Dart (NewEdge E)) → c'.next x ≡ next' m c x
  next-refined x = next-unique c' (refined-closed m c) x ∙ next-closed m c x

  size-refined : (d : Dart E) → c'.size d ≡ 4
  size-refined d = size-unique c' (refined-closed m c) d ∙ size-closed m c d

  face_dart-refined : (d : Dart E) → c'.face_dart d ≡ start-half d
  face_dart-refined d = face_dart-unique c' (refined-closed m c) d ∙ face_dart-closed m c d

  from-start-half : (d : Dart E) → c'.next (start-half d) ≡ inward d
  from-start-half d = next-refined (start-half d) ∙ next-start-half m c d

  from-inward : (d : Dart E) → c'.next (inward d) ≡ outward (c.prev d)
  unfolding next'
  from-inward d = next-refined (inward d)

  from-outward : (d : Dart E) → c'.next (outward d) ≡ end-half d
  unfolding next'
  from-outward d = next-refined (outward d)

  from-end-half : (d : Dart E) → c'.next (end-half (c.prev d)) ≡ start-half d
  from-end-half d = next-refined (end-half (c.prev d)) ∙ next-end-half m c (c.prev d) ∙ ap start-half (c.next-prev d)

  walk-from-start :
      (d : Dart E) →
      orbit c'.next (c'.size d) (c'.face_dart d) ≡ start-half d ∷ inward d ∷ outward (c.prev d) ∷ end-half (c.prev d) ∷ []
  unfolding orbit
  walk-from-start d =
      rw (size-refined d, face_dart-refined d, from-start-half d, from-inward d, from-outward (c.prev d))

  walk-from-face-point :
      (d : Dart E) →
      orbit c'.next (c'.size d) (steps c'.next 2 (c'.face_dart d))
      ≡ outward (c.prev d) ∷ end-half (c.prev d) ∷ start-half d ∷ inward d ∷ []
  unfolding orbit steps
  walk-from-face-point d =
      rw (
        size-refined d,
        face_dart-refined d,
        from-start-half d,
        from-inward d,
        from-outward (c.prev d),
        from-end-half d,
        from-start-half d,
      )

  border-refined :
      (d : Dart E) → map (λ x. (edge x, first (refined m c) x)) (orbit c'.next (c'.size d) (c'.face_dart d)) ≡ new_border m c d
  border-refined d =
      let p = c.prev d in
      rw (walk-from-start d)
      (rw (edge-start-half d, first-start-half m c d, edge-end-half p, first-end-half m c p, face-prev c d))

  corners-refined :
      (d : Dart E) →
      map (λ x. some (first (refined m c) x)) (orbit c'.next (c'.size d) (steps c'.next 2 (c'.face_dart d)))
      ≡ new_corner m c d place0 ∷ new_corner m c d place1 ∷ new_corner m c d place2 ∷ new_corner m c d place3 ∷ []
  corners-refined d =
      rw (walk-from-face-point d) (rw (first-end-half m c (c.prev d), first-start-half m c d, face-prev c d))

-- A walk about a new face passes its border.
pub new-borders : NewBorders
new-borders P E F m c c' d = border-refined m c c' d

-- The corners of a new face are the points that the walk passes, from the face point on.
pub new-corners : NewCorners
new-corners P E F m c c' d = corners-refined m c c' d
