-- The data of `Closed` are settled by the mesh. Assumes nothing.
use mathlib.Core.Path.{◌≡◌, refl, sym, ◌∙◌}
use Rattle.closed_meshes.specs.Mesh.{MeshOver, Dart}
use Rattle.closed_meshes.specs.Closed.{Closed}
use Rattle.closed_meshes.proofs.Darts.{dart-of-face, face-next}
use Rattle.closed_meshes.proofs.Cycles.{len-unique}
use Rattle.closed_meshes.proofs.Groupoid.{identity}
use Rattle.closed_meshes.proofs.Isomorphisms.{cycles-carried}

module _ {P E F : Type 0} {m : MeshOver P E F} (c c' : Closed m) where
  pub next-unique : (d : Dart E) → c.next d ≡ c'.next d
  next-unique d =
      dart-of-face c (c.next d) (c'.next d) (c.edge-next d ∙ sym (c'.edge-next d)) (face-next c d ∙ sym (face-next c' d))

  pub size-unique : (f : F) → c.size f ≡ c'.size f
  size-unique f =
      len-unique {len' = c'.size} c.prev c.next-prev c.about-faces
      (cycles-carried (identity (Dart E)) (identity F) next-unique (λ d. refl) (λ x. refl) c'.about-faces)
      f

  pub face_dart-unique : (f : F) → c.face_dart f ≡ c'.face_dart f
  face_dart-unique f =
      dart-of-face c (c.face_dart f) (c'.face_dart f) (c.edge-face_dart f ∙ sym (c'.edge-face_dart f))
      (c.about-faces.cls-start f ∙ sym (c'.about-faces.cls-start f))
