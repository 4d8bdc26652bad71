-- A mesh over any types of points, edges and faces, and its darts. A dart is an edge seen from one of its sides.
--     MeshOver P E F                    the fields of all rows, each a function of the row
--     Place                             the four places of a face's corners
--     Dart E, lft e, rgt e              edge e seen from its left, from its right
--     edge d, flip d                    the edge of d; the same edge from its other side
--     first m d, second m d             where d begins and ends: the left side runs from origin to destination, the right side back
--     face m d                          the face that d borders
--     acw m d, cw m d                   the neighbours of d's edge on d's side, anticlockwise and clockwise about its face
use Rattle.std.proofs.Math.Option.{Option}
use Rattle.std.specs.Prelude.{ℕ}

pub data Place : Type 0 where
  place0 place1 place2 place3 : Place

pub record MeshOver (P E F : Type 0) : Type 0 where
  pub valence : P → ℕ
  -- the point's start edge
  pub start : P → E
  pub origin : E → P
  pub dest : E → P
  pub left : E → F
  pub right : E → F
  pub left_cw : E → E
  pub left_acw : E → E
  pub right_cw : E → E
  pub right_acw : E → E
  -- the face's start edge
  pub face_start : F → E
  -- the face's corner at a place, or none
  pub corner : F → Place → Option P

pub data Dart (E : Type 0) : Type 0 where
  lft : E → Dart E
  rgt : E → Dart E

abbrev pub edge : {E : Type 0} → Dart E → E
edge (lft e) = e
edge (rgt e) = e

abbrev pub flip : {E : Type 0} → Dart E → Dart E
flip (lft e) = rgt e
flip (rgt e) = lft e

module _ {P E F : Type 0} (m : MeshOver P E F) where
  abbrev pub first : Dart E → P
  first (lft e) = m.origin e
  first (rgt e) = m.dest e

  abbrev pub second : Dart E → P
  second (lft e) = m.dest e
  second (rgt e) = m.origin e

  abbrev pub face : Dart E → F
  face (lft e) = m.left e
  face (rgt e) = m.right e

  abbrev pub acw : Dart E → E
  acw (lft e) = m.left_acw e
  acw (rgt e) = m.right_acw e

  abbrev pub cw : Dart E → E
  cw (lft e) = m.left_cw e
  cw (rgt e) = m.right_cw e
