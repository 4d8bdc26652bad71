-- What stands in each row after all visits, in closed form, under the numbering that the visits make. Assumes nothing.
--     found d                          the interval of d's edge as found on arriving at d's face
--     joint d                          the interval of the joining edge to the midpoint of d's edge
--     ends_old e, ends_at x              the ends and the interval of the whole edge e; of the new edge x
--     first_side second_side out_side in_side d    what stands on the side of d's face in d's first and second half, and on the left
--                                      and the right of the joining edge of d
--     mid_at e, centre_at f              the words of the midpoint of e and of the face point of f
--     face_at d                         the words of the new face d
--     row_of x                          the side of a row at which the new dart x stands
use mathlib.Core.Path.{◌≡◌, refl, ap}
use mathlib.Core.Bool.{Bool, true, false, cond}
use Prim.Native.Nat.{ℕ, ◌-◌}
use lib.Ieee.{Float, add, binary64}
use Rattle.closed_meshes.specs.Mesh.{MeshOver, Dart, lft, rgt, edge, first, face}
use Rattle.closed_meshes.specs.Closed.{Closed}
use Rattle.closed_meshes.specs.Refinement.{mid, face_point, NewEdge, org, dst, join, first_half, second_half}
use Rattle.closed_meshes.specs.Renumbering.{Bijection, Row}
use Rattle.closed_meshes.proofs.Isomorphisms.{map_dart}
use Rattle.closed_meshes.proofs.NewDarts.{start-half, end-half}
use Rattle.tables.specs.Mesh.{Mesh, interval}
use Rattle.refined_meshes.specs.Split.{half}
use Rattle.refined_meshes.proofs.Places.{dart_at}
use Rattle.refined_meshes.proofs.Leads.{leads}
use Rattle.refined_meshes.proofs.Numbering.{point_no, edge_no, face_no, edge_no-injective}
use Rattle.refined_meshes.proofs.Words.{Ends, Side, PointWords, FaceWords, dart_of}

-- ---- kinds of new darts

-- whether a dart is on the left of its edge
abbrev pub is_left : {E : Type 0} → Dart E → Bool
is_left (lft e) = true
is_left (rgt e) = false

pub data Kind : Type 0 where
  starting inner outer ending : Kind

-- the old dart to which a new one belongs, and which of its four it is
abbrev pub kind : {E : Type 0} → Dart (NewEdge E) → Kind
kind (lft (org e)) = starting
kind (lft (dst e)) = ending
kind (lft (join d)) = outer
kind (rgt (org e)) = ending
kind (rgt (dst e)) = starting
kind (rgt (join d)) = inner

abbrev pub old_dart : {E : Type 0} → Dart (NewEdge E) → Dart E
old_dart (lft (org e)) = lft e
old_dart (lft (dst e)) = lft e
old_dart (lft (join d)) = d
old_dart (rgt (org e)) = rgt e
old_dart (rgt (dst e)) = rgt e
old_dart (rgt (join d)) = d

module _ {E : Type 0} where
  pub kind-start : (d : Dart E) → kind (start-half d) ≡ starting
  kind-start (lft e) = refl
  kind-start (rgt e) = refl

  pub kind-end : (d : Dart E) → kind (end-half d) ≡ ending
  kind-end (lft e) = refl
  kind-end (rgt e) = refl

  pub old_dart-start : (d : Dart E) → old_dart (start-half d) ≡ d
  old_dart-start (lft e) = refl
  old_dart-start (rgt e) = refl

  pub old_dart-end : (d : Dart E) → old_dart (end-half d) ≡ d
  old_dart-end (lft e) = refl
  old_dart-end (rgt e) = refl

module _ (m : Mesh) {np ne nf : ℕ} {t : MeshOver (Row np) (Row ne) (Row nf)} (c : Closed t) (order : Bijection (Row nf) (Row nf)) where
  -- An interval is found whole exactly if d's face is visited before the face across.
  abbrev pub found : Dart (Row ne) → Float
  found d = cond (leads c order d) (interval m (edge d).0) (half (interval m (edge d).0))

  abbrev pub joint : Dart (Row ne) → Float
  joint d = add binary64 (found (c.next d)) (found (c.prev d))

  unfoldable pub ends_old : Row ne → Ends
  ends_old e = record { origin = (t.origin e).0; dest = (t.dest e).0; interval = interval m e.0 }

  unfoldable pub ends_at : NewEdge (Row ne) → Ends
  ends_at (org e) =
      record { origin = (t.origin e).0; dest = point_no c order (mid e); interval = half (interval m e.0) }
  ends_at (dst e) =
      record { origin = point_no c order (mid e); dest = (t.dest e).0; interval = half (interval m e.0) }
  ends_at (join d) =
      record { origin = point_no c order (face_point (face t d)); dest = point_no c order (mid (edge d)); interval = joint d }

module _ {np ne nf : ℕ} {t : MeshOver (Row np) (Row ne) (Row nf)} (c : Closed t) (order : Bijection (Row nf) (Row nf)) where
  unfoldable pub first_side : Dart (Row ne) → Side
  first_side d =
      record { face = face_no c order d; acw = edge_no c order (join d); cw = edge_no c order (second_half (c.prev d)) }

  unfoldable pub second_side : Dart (Row ne) → Side
  second_side d =
      record { face = face_no c order (c.next d); acw = edge_no c order (first_half (c.next d)); cw = edge_no c order (join d) }

  unfoldable pub out_side : Dart (Row ne) → Side
  out_side d =
      record { face = face_no c order (c.next d); acw = edge_no c order (second_half d); cw = edge_no c order (join (c.next d)) }

  unfoldable pub in_side : Dart (Row ne) → Side
  in_side d = record { face = face_no c order d; acw = edge_no c order (join (c.prev d)); cw = edge_no c order (first_half d) }

  unfoldable pub mid_at : Row ne → PointWords
  mid_at e = record { valence = 4; start = e.0; mark = 0 }

  unfoldable pub centre_at : Row nf → PointWords
  centre_at f = record { valence = c.size f; start = edge_no c order (join (dart_at c f (c.size f - 1))); mark = 0 }

  unfoldable pub face_at : Dart (Row ne) → FaceWords
  face_at d =
      record {
        start = edge_no c order (first_half d);
        corner0 = point_no c order (face_point (face t d));
        corner1 = point_no c order (mid (edge (c.prev d)));
        corner2 = (first t d).0;
        corner3 = point_no c order (mid (edge d));
      }

  unfoldable pub row_of : Dart (NewEdge (Row ne)) → Dart ℕ
  row_of x = map_dart (edge_no c order) x

  pub row_of-injective : (x y : Dart (NewEdge (Row ne))) → row_of x ≡ row_of y → x ≡ y
  unfolding row_of
  row_of-injective (lft x) (lft y) h = ap lft (edge_no-injective c order x y (cc))
  row_of-injective (lft x) (rgt y) h = cc
  row_of-injective (rgt x) (lft y) h = cc
  row_of-injective (rgt x) (rgt y) h = ap rgt (edge_no-injective c order x y (cc))

  pub edge-row_of : (x : Dart (NewEdge (Row ne))) → edge (row_of x) ≡ edge_no c order (edge x)
  unfolding row_of
  edge-row_of (lft x) = refl
  edge-row_of (rgt x) = refl

  -- The halves of d, seen from d's side.
  pub row-start : (d : Dart (Row ne)) → dart_of (is_left d) (edge_no c order (first_half d)) ≡ row_of (start-half d)
  unfolding row_of
  row-start (lft e) = refl
  row-start (rgt e) = refl

  pub row-end : (d : Dart (Row ne)) → dart_of (is_left d) (edge_no c order (second_half d)) ≡ row_of (end-half d)
  unfolding row_of
  row-end (lft e) = refl
  row-end (rgt e) = refl
