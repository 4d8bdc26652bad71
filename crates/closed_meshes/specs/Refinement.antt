-- One refinement of a closed mesh in closed form, on kinds of rows and with no row numbers.
--     NewPoint P E F        the points after it: old p, the midpoint mid e of an old edge, the face point face_point f of an old face
--     NewEdge E             the edges after it: the origin half org e, the destination half dst e, and join d, which joins the
--                           face point of d's face to the midpoint of d's edge
--     a new face            is an old dart d: it is the face at d's first point in d's old face
--     first_half d           the half of d's edge at d's first point, second_half d the one at its second point
--     point_row edge_row      the rows of the refined mesh, by kind
--     new_corner d k         the four corners of the new face d
--     refined m c           the refined mesh of the mesh m, which is closed by c
--     StaysClosed           the claim: a refined closed mesh is closed
use Rattle.std.proofs.Math.Option.{Option, some}
use Rattle.std.specs.Prelude.{ℕ}
use Rattle.closed_meshes.specs.Mesh.{MeshOver, Place, place0, place1, place2, place3, Dart, lft, rgt, edge, first, face}
use Rattle.closed_meshes.specs.Closed.{Closed}

pub data NewPoint (P E F : Type 0) : Type 0 where
  old : P → NewPoint P E F
  mid : E → NewPoint P E F
  face_point : F → NewPoint P E F

pub data NewEdge (E : Type 0) : Type 0 where
  org : E → NewEdge E
  dst : E → NewEdge E
  join : Dart E → NewEdge E

abbrev pub first_half : {E : Type 0} → Dart E → NewEdge E
first_half (lft e) = org e
first_half (rgt e) = dst e

abbrev pub second_half : {E : Type 0} → Dart E → NewEdge E
second_half (lft e) = dst e
second_half (rgt e) = org e

-- the words of a point's row and of an edge's row
pub record PointRow (E : Type 0) : Type 0 where
  pub valence : ℕ
  pub start : E

pub record EdgeRow (P E F : Type 0) : Type 0 where
  pub origin : P
  pub dest : P
  pub left : F
  pub right : F
  pub left_cw : E
  pub left_acw : E
  pub right_cw : E
  pub right_acw : E

module _ {P E F : Type 0} (m : MeshOver P E F) (c : Closed m) where
  abbrev pub point_row : NewPoint P E F → PointRow (NewEdge E)
  point_row (old p) = record { valence = m.valence p; start = first_half (c.point_dart p) }
  point_row (mid e) = record { valence = 4; start = dst e }
  point_row (face_point f) = record { valence = c.size f; start = join (c.face_dart f) }

  abbrev pub edge_row : NewEdge E → EdgeRow (NewPoint P E F) (NewEdge E) (Dart E)
  edge_row (org e) =
      record {
        origin = old (m.origin e);
        dest = mid e;
        left = lft e;
        right = c.next (rgt e);
        left_cw = second_half (c.prev (lft e));
        left_acw = join (lft e);
        right_cw = join (rgt e);
        right_acw = first_half (c.next (rgt e));
      }
  edge_row (dst e) =
      record {
        origin = mid e;
        dest = old (m.dest e);
        left = c.next (lft e);
        right = rgt e;
        left_cw = join (lft e);
        left_acw = first_half (c.next (lft e));
        right_cw = second_half (c.prev (rgt e));
        right_acw = join (rgt e);
      }
  edge_row (join d) =
      record {
        origin = face_point (face m d);
        dest = mid (edge d);
        left = c.next d;
        right = d;
        left_cw = join (c.next d);
        left_acw = second_half d;
        right_cw = first_half d;
        right_acw = join (c.prev d);
      }

  abbrev pub new_corner : Dart E → Place → Option (NewPoint P E F)
  new_corner d place0 = some (face_point (face m d))
  new_corner d place1 = some (mid (edge (c.prev d)))
  new_corner d place2 = some (old (first m d))
  new_corner d place3 = some (mid (edge d))

  abbrev pub refined : MeshOver (NewPoint P E F) (NewEdge E) (Dart E)
  refined =
      record {
        valence = λ p. (point_row p).valence;
        start = λ p. (point_row p).start;
        origin = λ e. (edge_row e).origin;
        dest = λ e. (edge_row e).dest;
        left = λ e. (edge_row e).left;
        right = λ e. (edge_row e).right;
        left_cw = λ e. (edge_row e).left_cw;
        left_acw = λ e. (edge_row e).left_acw;
        right_cw = λ e. (edge_row e).right_cw;
        right_acw = λ e. (edge_row e).right_acw;
        face_start = first_half;
        corner = new_corner;
      }

abbrev pub StaysClosed : Type 1
StaysClosed = (P E F : Type 0) (m : MeshOver P E F) (c : Closed m) → Closed (refined m c)
