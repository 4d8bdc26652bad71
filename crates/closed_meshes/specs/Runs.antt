-- Runs of refinements from one closed mesh.
--     first_stage m c        the first mesh, each row named by itself
--     new_point_name new_edge_name new_face_name k m n     the names after step number k, by kind, of the refinement of m with the names n
--     NamedStep k s s'      s' is the refinement of s on kinds under some numbering, and its rows have the names of step number k
--     StepsTo s k s'        k steps lead from s to s', numbered from 1
--     RunsNameApart         the claim: names differ after every step of a run
--     RunsShare             the claim: two runs from one closed mesh with equally many steps are shared
--     SharedIsAll           the claim: meshes that are shared are one but for the numbers of their rows and their start edges
use Rattle.std.specs.Prelude.{◌≡◌, ℕ, zero, suc}
use Rattle.closed_meshes.specs.Mesh.{MeshOver, Dart, edge, first, face}
use Rattle.closed_meshes.specs.Closed.{Closed}
use Rattle.closed_meshes.specs.Refinement.{NewPoint, old, mid, face_point, NewEdge, org, dst, join, refined}
use Rattle.closed_meshes.specs.Renumbering.{Isomorphism}
use Rattle.closed_meshes.specs.Names.{PointName, EdgeName, FaceName, Names, midpoint_of, face_point_of, destination_half_of, joining_edge_of, new_face_of, given_names}
use Rattle.closed_meshes.specs.Shared.{Stage, Shared, NamesDiffer}

abbrev pub first_stage : {P E F : Type 0} (m : MeshOver P E F) → Closed m → Stage P E F
first_stage {P} {E} {F} m c = record { Point = P; Edge = E; Face = F; mesh = m; closed = c; names = given_names }

module _ {P E F P' E' F' : Type 0} (k : ℕ) (m : MeshOver P' E' F') (n : Names P E F P' E' F') where
  -- Old points keep their names; a midpoint is named by its old edge, a face point by its face.
  abbrev pub new_point_name : NewPoint P' E' F' → PointName P E F
  new_point_name (old p) = n.point p
  new_point_name (mid e) = midpoint_of k (n.edge e)
  new_point_name (face_point f) = face_point_of k (n.face f)

  -- Origin halves keep their names; a destination half is named by its old edge, a joining edge by (face, edge).
  abbrev pub new_edge_name : NewEdge E' → EdgeName P E F
  new_edge_name (org e) = n.edge e
  new_edge_name (dst e) = destination_half_of k (n.edge e)
  new_edge_name (join d) = joining_edge_of k (n.face (face m d)) (n.edge (edge d))

  -- A new face is named by (face, old point).
  abbrev pub new_face_name : Dart E' → FaceName P E F
  new_face_name d = new_face_of k (n.face (face m d)) (n.point (first m d))

module _ {P E F : Type 0} where
  -- The numbering is any bijection of the kinds of rows onto the rows of s'. Start edges are free: they are no part of an
  -- isomorphism.
  pub record NamedStep (k : ℕ) (s s' : Stage P E F) : Type 0 where
    pub numbering : Isomorphism (refined s.mesh s.closed) s'.mesh
    pub point-name :
        (p : NewPoint s.Point s.Edge s.Face) →
        s'.names.point (numbering.points.to p) ≡ new_point_name k s.mesh s.names p
    pub edge-name :
        (e : NewEdge s.Edge) → s'.names.edge (numbering.edges.to e) ≡ new_edge_name k s.mesh s.names e
    pub face-name :
        (d : Dart s.Edge) → s'.names.face (numbering.faces.to d) ≡ new_face_name k s.mesh s.names d

  pub data StepsTo (s : Stage P E F) : ℕ → Stage P E F → Type 1 where
    begin : StepsTo s zero s
    then : {k : ℕ} {s' s'' : Stage P E F} → StepsTo s k s' → NamedStep (suc k) s' s'' → StepsTo s (suc k) s''

abbrev pub RunsNameApart : Type 1
RunsNameApart =
    (P E F : Type 0) (m : MeshOver P E F) (c : Closed m) (k : ℕ) (s : Stage P E F) → StepsTo (first_stage m c) k s → NamesDiffer s

abbrev pub RunsShare : Type 1
RunsShare =
    (P E F : Type 0) (m : MeshOver P E F) (c c' : Closed m) (k : ℕ) (s s' : Stage P E F) →
    StepsTo (first_stage m c) k s → StepsTo (first_stage m c') k s' → Shared s s'

abbrev pub SharedIsAll : Type 1
SharedIsAll =
    (P E F : Type 0) (s s' : Stage P E F) → NamesDiffer s → NamesDiffer s' → Shared s s' → Isomorphism s.mesh s'.mesh
