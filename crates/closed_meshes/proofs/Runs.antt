-- Two runs from one closed mesh match: they are one but for their numbering. Assumes nothing.
use mathlib.Core.Path.{◌≡◌, refl, sym, ◌∙◌, ap, ap₂}
use Prim.Native.Nat.{ℕ}
use Rattle.closed_meshes.specs.Mesh.{MeshOver, Dart, edge, face}
use Rattle.closed_meshes.specs.Closed.{Closed}
use Rattle.closed_meshes.specs.Refinement.{NewPoint, old, mid, face_point, NewEdge, org, dst, join, refined}
use Rattle.closed_meshes.specs.Renumbering.{Isomorphism, Touching}
use Rattle.closed_meshes.specs.Names.{joining_edge_of, new_face_of}
use Rattle.closed_meshes.specs.Runs.{new_point_name, new_edge_name, new_face_name, first_stage, NamedStep, StepsTo, begin, then}
use Rattle.closed_meshes.specs.Shared.{Stage}
use Rattle.closed_meshes.proofs.Groupoid.{isomorphism-refl, isomorphism-sym, isomorphism-trans}
use Rattle.closed_meshes.proofs.Isomorphisms.{edge-map_dart, first_to, face-to, carries_over}
use Rattle.closed_meshes.proofs.RefinementLifts.{lifted}
use Rattle.closed_meshes.proofs.Refinement.{stays_closed}

-- Two stages are one but for their numbering: an isomorphism keeps all names.
pub record Matching {P E F : Type 0} (s s' : Stage P E F) : Type 0 where
  pub isomorphism : Isomorphism s.mesh s'.mesh
  pub point : (p : s.Point) → s'.names.point (isomorphism.points.to p) ≡ s.names.point p
  pub edge : (e : s.Edge) → s'.names.edge (isomorphism.edges.to e) ≡ s.names.edge e
  pub face : (f : s.Face) → s'.names.face (isomorphism.faces.to f) ≡ s.names.face f

module _ {P E F : Type 0} where
  -- New names over corresponding rows are the same.
  module _ (k : ℕ) {s s' : Stage P E F} (a : Matching s s') where
    pub new-point :
        (x : NewPoint s.Point s.Edge s.Face) →
        new_point_name k s'.mesh s'.names ((lifted s.closed s'.closed a.isomorphism).points.to x)
        ≡ new_point_name k s.mesh s.names x
    unfolding lifted
    new-point (old p) = a.point p
    new-point (mid e) = rw (a.edge e)
    new-point (face_point f) = rw (a.face f)

    pub new-edge :
        (x : NewEdge s.Edge) →
        new_edge_name k s'.mesh s'.names ((lifted s.closed s'.closed a.isomorphism).edges.to x)
        ≡ new_edge_name k s.mesh s.names x
    unfolding lifted
    new-edge (org e) = a.edge e
    new-edge (dst e) = rw (a.edge e)
    new-edge (join d) =
        ap₂ (joining_edge_of k)
        (ap s'.names.face (face-to a.isomorphism d) ∙ a.face _)
        (ap s'.names.edge (edge-map_dart a.isomorphism.edges.to d) ∙ a.edge _)

    pub new-face :
        (d : Dart s.Edge) →
        new_face_name k s'.mesh s'.names ((lifted s.closed s'.closed a.isomorphism).faces.to d)
        ≡ new_face_name k s.mesh s.names d
    unfolding lifted
    new-face d =
        ap₂ (new_face_of k)
        (ap s'.names.face (face-to a.isomorphism d) ∙ a.face _)
        (ap s'.names.point (first_to a.isomorphism d) ∙ a.point _)

  -- The first mesh matches itself, however it is shown to be closed.
  unfoldable pub matching-given : (m : MeshOver P E F) (c c' : Closed m) → Matching (first_stage m c) (first_stage m c')
  unfolding isomorphism-refl
  matching-given m c c' = record { isomorphism = isomorphism-refl m; point = λ p. refl; edge = λ e. refl; face = λ f. refl }

  -- One step of each keeps the match, whatever the numberings.
  unfoldable pub matching-step : (k : ℕ) (s s' t t' : Stage P E F) → Matching s s' → NamedStep k s t → NamedStep k s' t' → Matching t t'
  unfolding isomorphism-sym isomorphism-trans
  matching-step k s s' t t' a b b' =
      record {
        isomorphism =
            isomorphism-trans (isomorphism-sym b.numbering)
            (isomorphism-trans (lifted s.closed s'.closed a.isomorphism) b'.numbering);
        point =
            λ p.
            b'.point-name _ ∙ new-point k a _ ∙ sym (b.point-name _) ∙ ap t.names.point (b.numbering.points.to-from p);
        edge =
            λ e.
            b'.edge-name _ ∙ new-edge k a _ ∙ sym (b.edge-name _) ∙ ap t.names.edge (b.numbering.edges.to-from e);
        face =
            λ f.
            b'.face-name _ ∙ new-face k a _ ∙ sym (b.face-name _) ∙ ap t.names.face (b.numbering.faces.to-from f);
      }

  -- Equally many steps keep the match.
  pub matching-run : {s s' : Stage P E F} {k : ℕ} {t t' : Stage P E F} → Matching s s' → StepsTo s k t → StepsTo s' k t' → Matching t t'
  matching-run a begin begin = a
  matching-run a (then r b) (then r' b') = matching-step _ _ _ _ _ (matching-run a r r') b b'

  -- Two runs of one length from one mesh match.
  pub runs-match :
      (m : MeshOver P E F) (c c' : Closed m) {k : ℕ} {t t' : Stage P E F} → StepsTo (first_stage m c) k t → StepsTo (first_stage m c') k t' → Matching t t'
  runs-match m c c' r r' = matching-run (matching-given m c c') r r'

  -- Any numbering of the kinds, with start edges that touch, makes a step: the mesh is closed again and its rows have names.
  module _
      (k : ℕ) (s : Stage P E F) {P' E' F' : Type 0} {m : MeshOver P' E' F'} (i : Isomorphism (refined s.mesh s.closed) m)
      (t : Touching m)
    where
      unfoldable pub after : Stage P E F
      after =
          record {
            Point = P';
            Edge = E';
            Face = F';
            mesh = m;
            closed = carries_over _ _ _ _ _ _ (refined s.mesh s.closed) m i t (stays_closed _ _ _ s.mesh s.closed);
            names =
                record {
                  point = λ p. new_point_name k s.mesh s.names (i.points.from p);
                  edge = λ e. new_edge_name k s.mesh s.names (i.edges.from e);
                  face = λ f. new_face_name k s.mesh s.names (i.faces.from f);
                };
          }

      pub step_after : NamedStep k s after
      unfolding after
      step_after =
          record {
            numbering = i;
            point-name = λ p. ap (new_point_name k s.mesh s.names) (i.points.from-to p);
            edge-name = λ e. ap (new_edge_name k s.mesh s.names) (i.edges.from-to e);
            face-name = λ f. ap (new_face_name k s.mesh s.names) (i.faces.from-to f);
          }
