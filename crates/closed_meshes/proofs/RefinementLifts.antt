-- An isomorphism of two closed meshes keeps the next and the previous dart and the sizes of faces, and it lifts to their
-- refinements. Assumes nothing.
use mathlib.Core.Path.{◌≡◌, refl, sym, ◌∙◌, ap}
use mathlib.Core.Option.{some}
use Rattle.closed_meshes.specs.Mesh.{MeshOver, place0, place1, place2, place3, Dart, lft, rgt, edge}
use Rattle.closed_meshes.specs.Closed.{Closed}
use Rattle.closed_meshes.specs.Refinement.{NewPoint, old, mid, face_point, NewEdge, org, dst, join, first_half, second_half, refined}
use Rattle.closed_meshes.specs.Renumbering.{Bijection, Isomorphism}
use Rattle.closed_meshes.proofs.Cycles.{len-unique}
use Rattle.closed_meshes.proofs.Darts.{dart-of-face, face-next}
use Rattle.closed_meshes.proofs.Isomorphisms.{map_dart, map_dart-inverse, darts, dart_to, edge-map_dart, first_to, face-to, acw-to, cycles-carried, inverse}

module _ {P E F P' E' F' : Type 0} {m : MeshOver P E F} {m' : MeshOver P' E' F'} (c : Closed m) (c' : Closed m') (i : Isomorphism m m') where
  pub next-to : (d : Dart E) → c'.next (dart_to i d) ≡ dart_to i (c.next d)
  next-to d =
      dart-of-face c' (c'.next (dart_to i d)) (dart_to i (c.next d))
      (c'.edge-next (dart_to i d) ∙ acw-to i d ∙ ap i.edges.to (sym (c.edge-next d)) ∙ sym (edge-map_dart i.edges.to (c.next d)))
      (face-next c' (dart_to i d) ∙ face-to i d ∙ ap i.faces.to (sym (face-next c d)) ∙ sym (face-to i (c.next d)))

  pub prev-to : (d : Dart E) → c'.prev (dart_to i d) ≡ dart_to i (c.prev d)
  prev-to d = ap (λ x. c'.prev (dart_to i x)) (sym (c.next-prev d)) ∙ ap c'.prev (sym (next-to (c.prev d))) ∙ c'.prev-next _

  pub size-to : (f : F) → c'.size (i.faces.to f) ≡ c.size f
  size-to f =
      len-unique {len' = λ x. c.size (i.faces.from x)} c'.prev c'.next-prev c'.about-faces
      (cycles-carried (darts i.edges) i.faces next-to (face-to i) (λ x. ap c.size (i.faces.from-to x)) c.about-faces)
      (i.faces.to f)
      ∙ ap c.size (i.faces.from-to f)

-- The kinds of new rows over corresponding old rows.
abbrev pub map_point :
    {P E F P' E' F' : Type 0} → (P → P') → (E → E') → (F → F') → NewPoint P E F → NewPoint P' E' F'
map_point p e f (old x) = old (p x)
map_point p e f (mid x) = mid (e x)
map_point p e f (face_point x) = face_point (f x)

abbrev pub map_edge : {E E' : Type 0} → (E → E') → NewEdge E → NewEdge E'
map_edge e (org x) = org (e x)
map_edge e (dst x) = dst (e x)
map_edge e (join d) = join (map_dart e d)

pub map_point-inverse :
    {P E F P' E' F' : Type 0} (p : Bijection P P') (e : Bijection E E') (f : Bijection F F') (x : NewPoint P E F) →
    map_point p.from e.from f.from (map_point p.to e.to f.to x) ≡ x
map_point-inverse p e f (old x) = ap old (p.from-to x)
map_point-inverse p e f (mid x) = ap mid (e.from-to x)
map_point-inverse p e f (face_point x) = ap face_point (f.from-to x)

pub map_edge-inverse : {E E' : Type 0} (e : Bijection E E') (x : NewEdge E) → map_edge e.from (map_edge e.to x) ≡ x
map_edge-inverse e (org x) = ap org (e.from-to x)
map_edge-inverse e (dst x) = ap dst (e.from-to x)
map_edge-inverse e (join d) = ap join (map_dart-inverse e.to e.from e.from-to d)

-- The halves of corresponding darts correspond.
pub first_half-to : {E E' : Type 0} (g : E → E') (d : Dart E) → first_half (map_dart g d) ≡ map_edge g (first_half d)
first_half-to g (lft e) = refl
first_half-to g (rgt e) = refl

pub second_half-to : {E E' : Type 0} (g : E → E') (d : Dart E) → second_half (map_dart g d) ≡ map_edge g (second_half d)
second_half-to g (lft e) = refl
second_half-to g (rgt e) = refl

module _ {P E F P' E' F' : Type 0} {m : MeshOver P E F} {m' : MeshOver P' E' F'} (c : Closed m) (c' : Closed m') (i : Isomorphism m m') where
  pub first_half-next : (d : Dart E) → first_half (c'.next (dart_to i d)) ≡ map_edge i.edges.to (first_half (c.next d))
  first_half-next d = ap first_half (next-to c c' i d) ∙ first_half-to i.edges.to (c.next d)

  pub second_half-prev : (d : Dart E) → second_half (c'.prev (dart_to i d)) ≡ map_edge i.edges.to (second_half (c.prev d))
  second_half-prev d = ap second_half (prev-to c c' i d) ∙ second_half-to i.edges.to (c.prev d)

  -- An isomorphism lifts to the refinements.
  unfoldable pub lifted : Isomorphism (refined m c) (refined m' c')
  lifted =
      record {
        points =
            record {
              to = map_point i.points.to i.edges.to i.faces.to;
              from = map_point i.points.from i.edges.from i.faces.from;
              from-to = map_point-inverse i.points i.edges i.faces;
              to-from = map_point-inverse (inverse i.points) (inverse i.edges) (inverse i.faces);
            };
        edges =
            record {
              to = map_edge i.edges.to;
              from = map_edge i.edges.from;
              from-to = map_edge-inverse i.edges;
              to-from = map_edge-inverse (inverse i.edges);
            };
        faces = darts i.edges;
        valence = elim [ old p ↦ i.valence p | mid e ↦ refl | face_point f ↦ size-to c c' i f ];
        origin = elim [ org e ↦ ap old (i.origin e) | dst e ↦ refl | join d ↦ ap face_point (face-to i d) ];
        dest = elim [ org e ↦ refl | dst e ↦ ap old (i.dest e) | join d ↦ ap mid (edge-map_dart i.edges.to d) ];
        left = elim [ org e ↦ refl | dst e ↦ next-to c c' i (lft e) | join d ↦ next-to c c' i d ];
        right = elim [ org e ↦ next-to c c' i (rgt e) | dst e ↦ refl | join d ↦ refl ];
        left_cw = elim [ org e ↦ second_half-prev (lft e) | dst e ↦ refl | join d ↦ ap join (next-to c c' i d) ];
        left_acw = elim [ org e ↦ refl | dst e ↦ first_half-next (lft e) | join d ↦ second_half-to i.edges.to d ];
        right_cw = elim [ org e ↦ refl | dst e ↦ second_half-prev (rgt e) | join d ↦ first_half-to i.edges.to d ];
        right_acw = elim [ org e ↦ first_half-next (rgt e) | dst e ↦ refl | join d ↦ ap join (prev-to c c' i d) ];
        corner =
            λ d.
            elim [
              | place0 ↦ ap (λ f. some (face_point f)) (face-to i d)
              | place1 ↦
                  ap (λ x. some (mid (edge x))) (prev-to c c' i d) ∙ ap (λ e. some (mid e)) (edge-map_dart i.edges.to (c.prev d))
              | place2 ↦ ap (λ p. some (old p)) (first_to i d)
              | place3 ↦ ap (λ e. some (mid e)) (edge-map_dart i.edges.to d)
            ];
      }
