-- Two runs from one closed mesh with equally many steps are shared. Assumes nothing.
-- They match, so each row has a row of its name on the other side; by names it is the only one, and it agrees.
use mathlib.Core.Path.{◌≡◌, refl, sym, ◌∙◌, ap, ap₂, subst}
use mathlib.Core.List.{◌∷◌, map}
use mathlib.Core.Option
use mathlib.Core.Option.{Option, none, some}
use Prim.Native.Nat.{ℕ, zero, suc}
use Rattle.closed_meshes.specs.Mesh.{Dart, face}
use Rattle.closed_meshes.specs.Cycles.{orbit}
use Rattle.closed_meshes.specs.Shared.{Stage, named_dart, named_border, SharedEdge, Shared, NamesDiffer}
use Rattle.closed_meshes.specs.Runs.{RunsShare}
use Rattle.closed_meshes.proofs.Isomorphisms.{dart_to, edge-map_dart, first_to, face-to}
use Rattle.closed_meshes.proofs.RefinementLifts.{next-to, size-to}
use Rattle.closed_meshes.proofs.Names.{names-differ}
use Rattle.closed_meshes.proofs.Runs.{Matching, runs-match}

module _ {P E F : Type 0} {s s' : Stage P E F} (a : Matching s s') (n : NamesDiffer s') where
  -- The row of p's name is the one that corresponds to p.
  same_point : (p : s.Point) (p' : s'.Point) → s.names.point p ≡ s'.names.point p' → a.isomorphism.points.to p ≡ p'
  same_point p p' h = n.points _ _ (a.point p ∙ h)

  same-edge : (e : s.Edge) (e' : s'.Edge) → s.names.edge e ≡ s'.names.edge e' → a.isomorphism.edges.to e ≡ e'
  same-edge e e' h = n.edges _ _ (a.edge e ∙ h)

  same-face : (f : s.Face) (f' : s'.Face) → s.names.face f ≡ s'.names.face f' → a.isomorphism.faces.to f ≡ f'
  same-face f f' h = n.faces _ _ (a.face f ∙ h)

  shared-edge : (e : s.Edge) → SharedEdge s s' e (a.isomorphism.edges.to e)
  shared-edge e =
      record {
        origin = sym (ap s'.names.point (a.isomorphism.origin e) ∙ a.point _);
        dest = sym (ap s'.names.point (a.isomorphism.dest e) ∙ a.point _);
        left = sym (ap s'.names.face (a.isomorphism.left e) ∙ a.face _);
        right = sym (ap s'.names.face (a.isomorphism.right e) ∙ a.face _);
        left_cw = sym (ap s'.names.edge (a.isomorphism.left_cw e) ∙ a.edge _);
        left_acw = sym (ap s'.names.edge (a.isomorphism.left_acw e) ∙ a.edge _);
        right_cw = sym (ap s'.names.edge (a.isomorphism.right_cw e) ∙ a.edge _);
        right_acw = sym (ap s'.names.edge (a.isomorphism.right_acw e) ∙ a.edge _);
      }

  -- The walk from the corresponding dart passes the same names.
  passed_to : (d : Dart s.Edge) → named_dart s d ≡ named_dart s' (dart_to a.isomorphism d)
  passed_to d =
      ap₂ (λ x y. (x, y))
      (sym (ap s'.names.edge (edge-map_dart a.isomorphism.edges.to d) ∙ a.edge _))
      (sym (ap s'.names.point (first_to a.isomorphism d) ∙ a.point _))

  walk-to :
      (k : ℕ) (d : Dart s.Edge) →
      map (named_dart s) (orbit s.closed.next k d) ≡ map (named_dart s') (orbit s'.closed.next k (dart_to a.isomorphism d))
  unfolding orbit
  walk-to zero d = refl
  walk-to (suc k) d =
      ap₂ ◌∷◌ (passed_to d)
      (walk-to k (s.closed.next d)
      ∙ ap (λ x. map (named_dart s') (orbit s'.closed.next k x)) (sym (next-to s.closed s'.closed a.isomorphism d)))

  border-to : (d : Dart s.Edge) → named_border s d ≡ named_border s' (dart_to a.isomorphism d)
  border-to d =
      walk-to (s.closed.size (face s.mesh d)) d
      ∙ ap (λ k. map (named_dart s') (orbit s'.closed.next k (dart_to a.isomorphism d)))
      (sym (ap s'.closed.size (face-to a.isomorphism d) ∙ size-to s.closed s'.closed a.isomorphism (face s.mesh d)))

  named-option :
      (o : Option s.Point) →
      Option.map s.names.point o ≡ Option.map s'.names.point (Option.map a.isomorphism.points.to o)
  named-option none = refl
  named-option (some p) = ap some (sym (a.point p))

  pub shared-of-matching : Shared s s'
  shared-of-matching =
      record {
        point-there = λ p. (a.isomorphism.points.to p, sym (a.point p));
        point-here = λ p. (a.isomorphism.points.from p, sym (a.point _) ∙ ap s'.names.point (a.isomorphism.points.to-from p));
        edge-there = λ e. (a.isomorphism.edges.to e, sym (a.edge e));
        edge_here = λ e. (a.isomorphism.edges.from e, sym (a.edge _) ∙ ap s'.names.edge (a.isomorphism.edges.to-from e));
        face-there = λ f. (a.isomorphism.faces.to f, sym (a.face f));
        face-here = λ f. (a.isomorphism.faces.from f, sym (a.face _) ∙ ap s'.names.face (a.isomorphism.faces.to-from f));
        valence = λ p p' h. sym (a.isomorphism.valence p) ∙ ap s'.mesh.valence (same_point p p' h);
        edges = λ e e' h. subst (SharedEdge s s' e) (same-edge e e' h) (shared-edge e);
        borders =
            λ f f' h d k.
            (dart_to a.isomorphism d, face-to a.isomorphism d ∙ ap a.isomorphism.faces.to k ∙ same-face f f' h, border-to d);
        corners =
            λ f f' h k.
            named-option (s.mesh.corner f k)
            ∙ ap (Option.map s'.names.point) (sym (a.isomorphism.corner f k) ∙ ap (λ x. s'.mesh.corner x k) (same-face f f' h));
      }

-- Two runs from one closed mesh with equally many steps are shared.
pub theorem : RunsShare
theorem P E F m c c' k s s' r r' = shared-of-matching (runs-match m c c' r r') (names-differ P E F m c' k s' r')
