-- What two meshes with names share (document 01, "Shared means").
--     Stage P E F           a closed mesh with names, reached from a first mesh over P E F
--     named_dart s d         the names of d's edge and of the point from which it leaves
--     named_border s d       the names of the edges and points that the walk about d's face passes in turn, begun at d
--     SharedEdge s s' e e'  the edges e and e' agree, every reference read as a name
--     Shared s s'           the same names occur in both meshes and, every reference read as a name, rows of one name agree
--     NamesDiffer s         no two rows of a kind share a name
use Rattle.std.specs.Prelude.{◌≡◌, List, map}
use Rattle.std.proofs.Math.Option
use Rattle.closed_meshes.specs.Mesh.{MeshOver, Place, Dart, edge, first, face}
use Rattle.closed_meshes.specs.Cycles.{orbit}
use Rattle.closed_meshes.specs.Closed.{Closed}
use Rattle.closed_meshes.specs.Renumbering.{Injective}
use Rattle.closed_meshes.specs.Names.{PointName, EdgeName, Names}

pub record Stage (P E F : Type 0) : Type 1 where
  pub Point : Type 0
  pub Edge : Type 0
  pub Face : Type 0
  pub mesh : MeshOver Point Edge Face
  pub closed : Closed mesh
  pub names : Names P E F Point Edge Face

module _ {P E F : Type 0} where
  -- the names of d's edge and of the point from which the walk leaves along it
  abbrev pub named_dart : (s : Stage P E F) → Dart s.Edge → EdgeName P E F × PointName P E F
  named_dart s d = (s.names.edge (edge d), s.names.point (first s.mesh d))

  abbrev pub named_border : (s : Stage P E F) → Dart s.Edge → List (EdgeName P E F × PointName P E F)
  named_border s d = map (named_dart s) (orbit s.closed.next (s.closed.size (face s.mesh d)) d)

  -- Direction, sides, and the four neighbours each in its place.
  pub record SharedEdge (s s' : Stage P E F) (e : s.Edge) (e' : s'.Edge) : Type 0 where
    pub origin : s.names.point (s.mesh.origin e) ≡ s'.names.point (s'.mesh.origin e')
    pub dest : s.names.point (s.mesh.dest e) ≡ s'.names.point (s'.mesh.dest e')
    pub left : s.names.face (s.mesh.left e) ≡ s'.names.face (s'.mesh.left e')
    pub right : s.names.face (s.mesh.right e) ≡ s'.names.face (s'.mesh.right e')
    pub left_cw : s.names.edge (s.mesh.left_cw e) ≡ s'.names.edge (s'.mesh.left_cw e')
    pub left_acw : s.names.edge (s.mesh.left_acw e) ≡ s'.names.edge (s'.mesh.left_acw e')
    pub right_cw : s.names.edge (s.mesh.right_cw e) ≡ s'.names.edge (s'.mesh.right_cw e')
    pub right_acw : s.names.edge (s.mesh.right_acw e) ≡ s'.names.edge (s'.mesh.right_acw e')

  pub record Shared (s s' : Stage P E F) : Type 0 where
    -- The same names occur in both meshes.
    pub point-there : (p : s.Point) → (p' : s'.Point) × (s.names.point p ≡ s'.names.point p')
    pub point-here : (p' : s'.Point) → (p : s.Point) × (s.names.point p ≡ s'.names.point p')
    pub edge-there : (e : s.Edge) → (e' : s'.Edge) × (s.names.edge e ≡ s'.names.edge e')
    pub edge_here : (e' : s'.Edge) → (e : s.Edge) × (s.names.edge e ≡ s'.names.edge e')
    pub face-there : (f : s.Face) → (f' : s'.Face) × (s.names.face f ≡ s'.names.face f')
    pub face-here : (f' : s'.Face) → (f : s.Face) × (s.names.face f ≡ s'.names.face f')
    -- Points of one name agree in valence.
    pub valence :
        (p : s.Point) (p' : s'.Point) → s.names.point p ≡ s'.names.point p' → s.mesh.valence p ≡ s'.mesh.valence p'
    -- Edges of one name agree in direction, sides and neighbours.
    pub edges : (e : s.Edge) (e' : s'.Edge) → s.names.edge e ≡ s'.names.edge e' → SharedEdge s s' e e'
    -- Faces of one name agree in border: wherever a walk about the one begins, there is a beginning about the other from which the
    -- same edges and points are passed in turn.
    pub borders :
        (f : s.Face) (f' : s'.Face) → s.names.face f ≡ s'.names.face f' → (d : Dart s.Edge) → face s.mesh d ≡ f →
        (d' : Dart s'.Edge) × (face s'.mesh d' ≡ f') × (named_border s d ≡ named_border s' d')
    -- They agree in the four corners.
    pub corners :
        (f : s.Face) (f' : s'.Face) → s.names.face f ≡ s'.names.face f' → (k : Place) →
        Option.map s.names.point (s.mesh.corner f k) ≡ Option.map s'.names.point (s'.mesh.corner f' k)

  pub record NamesDiffer (s : Stage P E F) : Type 0 where
    pub points : Injective s.names.point
    pub edges : Injective s.names.edge
    pub faces : Injective s.names.face
