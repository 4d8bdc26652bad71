-- Isomorphisms that keep start edges: turned round and composed, and lifted to the refinements. Assumes nothing.
--     keeps-sym, keeps-trans      turned round, composed
--     point_dart-to, face_dart-to   the darts from which the walks begin correspond
--     keeps-lifted                lifted to the refinements, whose start edges are those of document 02, §7
use mathlib.Core.Path.{◌≡◌, refl, sym, ◌∙◌, ap}
use Rattle.closed_meshes.specs.Mesh.{MeshOver, Dart, edge, first}
use Rattle.closed_meshes.specs.Closed.{Closed}
use Rattle.closed_meshes.specs.Refinement.{old, mid, face_point, join, first_half}
use Rattle.closed_meshes.specs.Renumbering.{Isomorphism, KeepsStarts}
use Rattle.closed_meshes.proofs.Darts.{dart-of-first, dart-of-face}
use Rattle.closed_meshes.proofs.Groupoid.{field_back, isomorphism-refl, isomorphism-sym, isomorphism-trans}
use Rattle.closed_meshes.proofs.Isomorphisms.{dart_to, edge-map_dart, first_to, face-to}
use Rattle.closed_meshes.proofs.RefinementLifts.{first_half-to, lifted}

module _ {P E F P' E' F' : Type 0} {m : MeshOver P E F} {m' : MeshOver P' E' F'} {i : Isomorphism m m'} where
  pub keeps-sym : KeepsStarts i → KeepsStarts (isomorphism-sym i)
  unfolding isomorphism-sym
  keeps-sym k =
      record {
        start = field_back i.points i.edges m.start m'.start k.start;
        face_start = field_back i.faces i.edges m.face_start m'.face_start k.face_start;
      }

  pub keeps-trans :
      {P'' E'' F'' : Type 0} {m'' : MeshOver P'' E'' F''} {j : Isomorphism m' m''} → KeepsStarts i → KeepsStarts j →
      KeepsStarts (isomorphism-trans i j)
  unfolding isomorphism-trans
  keeps-trans {j} k h =
      record {
        start = λ p. h.start _ ∙ ap j.edges.to (k.start p);
        face_start = λ f. h.face_start _ ∙ ap j.edges.to (k.face_start f);
      }

module _
    {P E F P' E' F' : Type 0} {m : MeshOver P E F} {m' : MeshOver P' E' F'} (c : Closed m) (c' : Closed m') (i : Isomorphism m m')
    (k : KeepsStarts i)
  where
    pub point_dart-to : (p : P) → c'.point_dart (i.points.to p) ≡ dart_to i (c.point_dart p)
    point_dart-to p =
        dart-of-first c' (c'.point_dart (i.points.to p)) (dart_to i (c.point_dart p))
        (c'.edge-point_dart (i.points.to p) ∙ k.start p ∙ ap i.edges.to (sym (c.edge-point_dart p))
        ∙ sym (edge-map_dart i.edges.to (c.point_dart p)))
        (c'.about-points.cls-start (i.points.to p) ∙ ap i.points.to (sym (c.about-points.cls-start p))
        ∙ sym (first_to i (c.point_dart p)))

    pub face_dart-to : (f : F) → c'.face_dart (i.faces.to f) ≡ dart_to i (c.face_dart f)
    face_dart-to f =
        dart-of-face c' (c'.face_dart (i.faces.to f)) (dart_to i (c.face_dart f))
        (c'.edge-face_dart (i.faces.to f) ∙ k.face_start f ∙ ap i.edges.to (sym (c.edge-face_dart f))
        ∙ sym (edge-map_dart i.edges.to (c.face_dart f)))
        (c'.about-faces.cls-start (i.faces.to f) ∙ ap i.faces.to (sym (c.about-faces.cls-start f))
        ∙ sym (face-to i (c.face_dart f)))

    pub keeps-lifted : KeepsStarts (lifted c c' i)
    unfolding lifted
    keeps-lifted =
        record {
          start = elim [
            | old p ↦ ap first_half (point_dart-to p) ∙ first_half-to i.edges.to (c.point_dart p)
            | mid e ↦ refl
            | face_point f ↦ ap join (face_dart-to f)
          ];
          face_start = λ d. first_half-to i.edges.to d;
        }
