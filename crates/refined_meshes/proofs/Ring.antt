-- What a visit writes about a face at each place, on kinds of rows. Assumes nothing.
--     RingIs r f                    the ring r is that of the face f: by place it has the rows of the kinds
--     join_at half_at new_face_at d     what is written at the dart d
--     join-at first-at second_at face-at      what is written at a place is what belongs to the dart there
use mathlib.Core.Path.{◌≡◌, ◌∙◌, ap}
use Prim.Native.Nat.{ℕ, ◌<◌}
use lib.ListN.{get_or}
use lib.Ieee.{nan}
use Rattle.t_spline.specs.declared.TnurccEdge.{TnurccEdge}
use Rattle.perimeters.specs.Places.{next_place, prev_place}
use Rattle.perimeters.proofs.Laws.{next-below, prev-below}
use Rattle.closed_meshes.specs.Mesh.{MeshOver, Dart, edge, first, face}
use Rattle.closed_meshes.specs.Closed.{Closed}
use Rattle.closed_meshes.specs.Refinement.{mid, face_point, NewEdge, join, first_half, second_half}
use Rattle.closed_meshes.specs.Renumbering.{Bijection, Row}
use Rattle.tables.specs.Mesh.{Mesh}
use Rattle.audited_meshes.specs.Walks.{first_point}
use Rattle.refined_meshes.specs.State.{State, put_edge, put_face}
use Rattle.refined_meshes.specs.Ring.{Ring, join_row, face_row, on_left, put_side, put_join, put_first, put_second, put_new_face}
use Rattle.refined_meshes.proofs.Places.{dart_at, face-dart_at, dart_at-next, dart_at-prev}
use Rattle.refined_meshes.proofs.Numbering.{point_no, edge_no, face_no}
use Rattle.refined_meshes.proofs.Words.{Side, edge_from}
use Rattle.refined_meshes.proofs.Target.{is_left, found, ends_at, first_side, second_side, out_side, in_side}

module _ (m : Mesh) {np ne nf : ℕ} {t : MeshOver (Row np) (Row ne) (Row nf)} (c : Closed t) (order : Bijection (Row nf) (Row nf)) where
  pub record RingIs (r : Ring) (f : Row nf) : Type 0 where
    pub size_is : r.size ≡ c.size f
    pub centre-is : r.centre ≡ point_no c order (face_point f)
    pub join_is : (i : ℕ) → i < c.size f → join_row r i ≡ edge_no c order (join (dart_at c f i))
    pub face-is : (i : ℕ) → i < c.size f → face_row r i ≡ face_no c order (dart_at c f i)
    pub first-is : (i : ℕ) → i < c.size f → get_or r.firsts i 0 ≡ edge_no c order (first_half (dart_at c f i))
    pub second_is : (i : ℕ) → i < c.size f → get_or r.seconds i 0 ≡ edge_no c order (second_half (dart_at c f i))
    pub mid-is : (i : ℕ) → i < c.size f → get_or r.mids i 0 ≡ point_no c order (mid (edge (dart_at c f i)))
    pub found-is : (i : ℕ) → i < c.size f → get_or r.found i nan ≡ found m c order (dart_at c f i)
    pub left_is : (i : ℕ) → i < c.size f → on_left m r.face (get_or r.edges i 0) ≡ is_left (dart_at c f i)
    pub point-is : (i : ℕ) → i < c.size f → first_point m r.face (get_or r.edges i 0) ≡ (first t (dart_at c f i)).0

  -- ---- what is written at a dart

  abbrev pub join_edge : Dart (Row ne) → TnurccEdge
  join_edge d = edge_from (ends_at m c order (join d)) (out_side c order d) (in_side c order d)

  unfoldable pub join_at : Dart (Row ne) → State → State
  join_at d s = put_edge (edge_no c order (join d)) (join_edge d) s

  -- the side v d written on d's side of d's half h d
  unfoldable pub half_at : (Dart (Row ne) → NewEdge (Row ne)) → (Dart (Row ne) → Side) → Dart (Row ne) → State → State
  half_at h v d s = put_side (is_left d) (edge_no c order (h d)) (v d).face (v d).acw (v d).cw s

  unfoldable pub new_face_at : Dart (Row ne) → State → State
  new_face_at d s =
      put_face (face_no c order d) (edge_no c order (first_half d)) (point_no c order (face_point (face t d)))
      (point_no c order (mid (edge (c.prev d)))) (first t d).0 (point_no c order (mid (edge d))) s

  module _ (r : Ring) (f : Row nf) (is : RingIs r f) (i : ℕ) (below : i < c.size f) (s : State) where
    abbrev here : Dart (Row ne)
    here = dart_at c f i

    -- what stands at the next place belongs to the next dart, and at the previous place to the previous one
    at_next : {A : Type 0} (x : ℕ → A) (g : Dart (Row ne) → A) → ((i : ℕ) → i < c.size f → x i ≡ g (dart_at c f i)) → x (next_place r.size i) ≡ g (c.next here)
    at_next x g h = ap (λ k. x (next_place k i)) is.size_is ∙ h (next_place (c.size f) i) (next-below (c.size f) i below) ∙ ap g (dart_at-next c f i below)

    at-prev : {A : Type 0} (x : ℕ → A) (g : Dart (Row ne) → A) → ((i : ℕ) → i < c.size f → x i ≡ g (dart_at c f i)) → x (prev_place r.size i) ≡ g (c.prev here)
    at-prev x g h = ap (λ k. x (prev_place k i)) is.size_is ∙ h (prev_place (c.size f) i) (prev-below (c.size f) i below) ∙ ap g (dart_at-prev c f i below)

    pub join-at : put_join r i s ≡ join_at here s
    unfolding put_join join_at ends_at out_side in_side
    join-at =
        rw (
          at_next (join_row r) (λ x. edge_no c order (join x)) is.join_is,
          at-prev (join_row r) (λ x. edge_no c order (join x)) is.join_is,
          at_next (face_row r) (face_no c order) is.face-is,
          is.join_is i below,
          is.face-is i below,
          is.first-is i below,
          is.second_is i below,
          is.mid-is i below,
          is.centre-is,
          at_next (λ k. get_or r.found k nan) (found m c order) is.found-is,
          at-prev (λ k. get_or r.found k nan) (found m c order) is.found-is,
          face-dart_at c f i,
        )

    pub first-at : put_first m r i s ≡ half_at first_half (first_side c order) here s
    unfolding put_first half_at first_side
    first-at =
        rw (
          is.left_is i below,
          is.first-is i below,
          is.face-is i below,
          is.join_is i below,
          at-prev (λ k. get_or r.seconds k 0) (λ x. edge_no c order (second_half x)) is.second_is,
        )

    pub second_at : put_second m r i s ≡ half_at second_half (second_side c order) here s
    unfolding put_second half_at second_side
    second_at =
        rw (
          is.left_is i below,
          is.second_is i below,
          at_next (face_row r) (face_no c order) is.face-is,
          is.join_is i below,
          at_next (λ k. get_or r.firsts k 0) (λ x. edge_no c order (first_half x)) is.first-is,
        )

    pub face-at : put_new_face m r i s ≡ new_face_at here s
    unfolding put_new_face new_face_at
    face-at =
        rw (
          is.face-is i below,
          is.first-is i below,
          is.centre-is,
          is.point-is i below,
          is.mid-is i below,
          at-prev (λ k. get_or r.mids k 0) (λ x. point_no c order (mid (edge x))) is.mid-is,
          face-dart_at c f i,
        )
