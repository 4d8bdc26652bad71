-- No two rows of a kind share a name, after every step of a run. Assumes nothing.
-- A new name carries the number of its step, so it is none of the names before; two new names of a kind stand on different rows,
-- because the sides of an edge differ and no face passes a point twice.
use mathlib.Core.Path.{◌≡◌, sym, ◌∙◌, ap}
use Prim.Native.Nat.{ℕ, suc, ◌≤◌}
use native.Mathlib.Omega.{arith}
use Rattle.closed_meshes.specs.Mesh.{MeshOver, Dart}
use Rattle.closed_meshes.specs.Closed.{Closed}
use Rattle.closed_meshes.specs.Refinement.{NewPoint, old, mid, face_point, NewEdge, org, dst, join}
use Rattle.closed_meshes.specs.Renumbering.{Injective, Bijection}
use Rattle.closed_meshes.specs.Names.{PointName, EdgeName, FaceName, given_point, midpoint_of, face_point_of, given_edge, destination_half_of, joining_edge_of, given_face, new_face_of}
use Rattle.closed_meshes.specs.Runs.{new_point_name, new_edge_name, new_face_name, first_stage, NamedStep, StepsTo, begin, then, RunsNameApart}
use Rattle.closed_meshes.specs.Shared.{Stage, NamesDiffer}
use Rattle.closed_meshes.proofs.Darts.{dart-of-face}
use Rattle.closed_meshes.proofs.Isomorphisms.{onto}

-- Names that differ on the kinds differ on the rows that a bijection makes of them.
differ-onto :
    {A B N : Type 0} (b : Bijection A B) (name : B → N) → ((x y : A) → name (b.to x) ≡ name (b.to y) → x ≡ y) → Injective name
differ-onto b name h =
    onto b (λ u. (v : _) → name u ≡ name v → u ≡ v) λ x.
    onto b (λ v. name (b.to x) ≡ name v → b.to x ≡ v) λ y e. ap b.to (h x y e)

module _ {P E F : Type 0} where
  -- the number of the step that gave a name, 0 for those of the first mesh
  pub point_step : PointName P E F → ℕ
  point_step (given_point p) = 0
  point_step (midpoint_of k e) = k
  point_step (face_point_of k f) = k

  pub edge_step : EdgeName P E F → ℕ
  edge_step (given_edge e) = 0
  edge_step (destination_half_of k e) = k
  edge_step (joining_edge_of k f e) = k

  pub face_step : FaceName P E F → ℕ
  face_step (given_face f) = 0
  face_step (new_face_of k f p) = k

  -- The names differ and no name is of a later step than k.
  pub record Named (k : ℕ) (s : Stage P E F) : Type 0 where
    pub differ : NamesDiffer s
    pub points : (p : s.Point) → point_step (s.names.point p) ≤ k
    pub edges : (e : s.Edge) → edge_step (s.names.edge e) ≤ k
    pub faces : (f : s.Face) → face_step (s.names.face f) ≤ k

  module _ (k : ℕ) (s : Stage P E F) (a : Named k s) where
    -- An old name is not of this step.
    old-point : (p : s.Point) → ¬ (point_step (s.names.point p) ≡ suc k)
    old-point p h = omega (arith, a.points p)

    old-edge : (e : s.Edge) → ¬ (edge_step (s.names.edge e) ≡ suc k)
    old-edge e h = omega (arith, a.edges e)

    pub new-points-differ : Injective (new_point_name (suc k) s.mesh s.names)
    unfolding point_step
    new-points-differ (old p) (old p') h = ap old (a.differ.points p p' h)
    new-points-differ (old p) (mid e) h = absurd (old-point p (ap point_step h))
    new-points-differ (old p) (face_point f) h = absurd (old-point p (ap point_step h))
    new-points-differ (mid e) (old p) h = absurd (old-point p (ap point_step (sym h)))
    new-points-differ (mid e) (mid e') h = ap mid (a.differ.edges e e' (cc))
    new-points-differ (mid e) (face_point f) h = cc
    new-points-differ (face_point f) (old p) h = absurd (old-point p (ap point_step (sym h)))
    new-points-differ (face_point f) (mid e) h = cc
    new-points-differ (face_point f) (face_point f') h = ap face_point (a.differ.faces f f' (cc))

    new-edges-differ : Injective (new_edge_name (suc k) s.mesh s.names)
    unfolding edge_step
    new-edges-differ (org e) (org e') h = ap org (a.differ.edges e e' h)
    new-edges-differ (org e) (dst e') h = absurd (old-edge e (ap edge_step h))
    new-edges-differ (org e) (join d) h = absurd (old-edge e (ap edge_step h))
    new-edges-differ (dst e) (org e') h = absurd (old-edge e' (ap edge_step (sym h)))
    new-edges-differ (dst e) (dst e') h = ap dst (a.differ.edges e e' (cc))
    new-edges-differ (dst e) (join d) h = cc
    new-edges-differ (join d) (org e') h = absurd (old-edge e' (ap edge_step (sym h)))
    new-edges-differ (join d) (dst e') h = cc
    new-edges-differ (join d) (join d') h =
        ap join (dart-of-face s.closed d d' (a.differ.edges _ _ (cc)) (a.differ.faces _ _ (cc)))

    new-faces-differ : Injective (new_face_name (suc k) s.mesh s.names)
    new-faces-differ d d' h = s.closed.one-pass d d' (a.differ.faces _ _ (cc)) (a.differ.points _ _ (cc))

    new-point-step :
        (x : NewPoint s.Point s.Edge s.Face) → point_step (new_point_name (suc k) s.mesh s.names x) ≤ suc k
    unfolding point_step
    new-point-step (old p) = omega (arith, a.points p)
    new-point-step (mid e) = omega arith
    new-point-step (face_point f) = omega arith

    new-edge-step : (x : NewEdge s.Edge) → edge_step (new_edge_name (suc k) s.mesh s.names x) ≤ suc k
    unfolding edge_step
    new-edge-step (org e) = omega (arith, a.edges e)
    new-edge-step (dst e) = omega arith
    new-edge-step (join d) = omega arith

    new-face-step : (d : Dart s.Edge) → face_step (new_face_name (suc k) s.mesh s.names d) ≤ suc k
    unfolding face_step
    new-face-step d = omega arith

    named_step : (t : Stage P E F) → NamedStep (suc k) s t → Named (suc k) t
    named_step t b =
        record {
          differ =
              record {
                points =
                    differ-onto b.numbering.points t.names.point
                    (λ x y h. new-points-differ x y (sym (b.point-name x) ∙ h ∙ b.point-name y));
                edges =
                    differ-onto b.numbering.edges t.names.edge
                    (λ x y h. new-edges-differ x y (sym (b.edge-name x) ∙ h ∙ b.edge-name y));
                faces =
                    differ-onto b.numbering.faces t.names.face
                    (λ x y h. new-faces-differ x y (sym (b.face-name x) ∙ h ∙ b.face-name y));
              };
          points =
              onto b.numbering.points (λ p. point_step (t.names.point p) ≤ suc k)
              (λ x. rw (b.point-name x) (new-point-step x));
          edges =
              onto b.numbering.edges (λ e. edge_step (t.names.edge e) ≤ suc k)
              (λ x. rw (b.edge-name x) (new-edge-step x));
          faces =
              onto b.numbering.faces (λ f. face_step (t.names.face f) ≤ suc k)
              (λ x. rw (b.face-name x) (new-face-step x));
        }

  pub named-run : {m : MeshOver P E F} {c : Closed m} {k : ℕ} {s : Stage P E F} → StepsTo (first_stage m c) k s → Named k s
  unfolding point_step edge_step face_step
  named-run begin =
      record {
        differ = record { points = λ p p' h. cc; edges = λ e e' h. cc; faces = λ f f' h. cc };
        points = λ p. omega arith;
        edges = λ e. omega arith;
        faces = λ f. omega arith;
      }
  named-run (then {k} {s'} {s''} r b) = named_step k s' (named-run r) s'' b

-- No two rows of a kind share a name.
pub names-differ : RunsNameApart
names-differ P E F m c k s r = (named-run r).differ
