-- The loops that write a ring: what stands in the tables after each of them, on kinds of rows. Assumes nothing.
--     parts s x             the row of the new edge x in its three parts
--     joins f s             the joining edges of the face f written
--     halves f .. s         the sides of halves written, one half of each dart of f
--     new_faces f s          the new faces of f written
--     -fit, -same, -other   the tables have the rows they had; what is written stands there; all else is as it was
use mathlib.Core.Path.{◌≡◌, sym, ◌∙◌, ap, subst}
use mathlib.Core.Logic.{◌≢◌}
use Prim.Native.Nat.{ℕ, ◌*◌, ◌<◌}
use Rattle.t_spline.specs.declared.TnurccEdge.{TnurccEdge}
use Rattle.closed_meshes.specs.Mesh.{MeshOver, Dart, lft, rgt, face}
use Rattle.closed_meshes.specs.Closed.{Closed}
use Rattle.closed_meshes.specs.Refinement.{NewEdge, join}
use Rattle.closed_meshes.specs.Renumbering.{Bijection, Row}
use Rattle.tables.specs.Mesh.{Mesh}
use Rattle.refined_meshes.specs.Turns.{turns}
use Rattle.refined_meshes.specs.State.{State}
use Rattle.refined_meshes.specs.Fits.{RoomFor}
use Rattle.refined_meshes.proofs.Places.{dart_at, place, face-dart_at, place-dart_at, dart_at-place, place-below}
use Rattle.refined_meshes.proofs.Numbering.{edge_no, face_no, edge_no-injective, face_no-injective, edge_no-fits, face_no-fits}
use Rattle.refined_meshes.proofs.Words.{Ends, Side, ends, side, face_of, dart_of, room-put_edge, room-put_face}
use Rattle.refined_meshes.proofs.Words.{room-put_side, ends-put_edge, left-put_edge, right-put_edge}
use Rattle.refined_meshes.proofs.Words.{ends-put_edge-other, side-put_edge-other, ends-put_side, side-put_side}
use Rattle.refined_meshes.proofs.Words.{side-put_side-other, face_of-put_face, face_of-put_face-other}
use Rattle.refined_meshes.proofs.Target.{is_left, ends_at, out_side, in_side, face_at, row_of, row_of-injective, old_dart}
use Rattle.refined_meshes.proofs.Turns.{turns-stay, turns-ok, turns-other, turns_same}
use Rattle.refined_meshes.proofs.Ring.{join_at, join_edge, half_at, new_face_at}

module _ (m : Mesh) {np ne nf : ℕ} {t : MeshOver (Row np) (Row ne) (Row nf)} (c : Closed t) (order : Bijection (Row nf) (Row nf)) where
  -- the row of an edge in its three parts
  abbrev pub Parts : Type 0
  Parts = Ends × Side × Side

  unfoldable pub parts : State → NewEdge (Row ne) → Parts
  parts s x = (ends s (edge_no c order x), side s (lft (edge_no c order x)), side s (rgt (edge_no c order x)))

  module _ (f : Row nf) where
    abbrev n : ℕ
    n = c.size f

    -- A dart of f stands at its place, and darts at two places are two.
    pub at_place : (d : Dart (Row ne)) → face t d ≡ f → (place c d < n) × (dart_at c f (place c d) ≡ d)
    at_place d q = (rw (← q) (place-below c d), rw (← q) (dart_at-place c d))

    places-differ : (i j : ℕ) → i < n → j < n → dart_at c f i ≡ dart_at c f j → i ≡ j
    places-differ i j a b q = sym (place-dart_at c f i a) ∙ ap (place c) q ∙ place-dart_at c f j b

    pub not_on : (d : Dart (Row ne)) → face t d ≢ f → (i : ℕ) → d ≢ dart_at c f i
    not_on d k i q = k (ap (face t) q ∙ face-dart_at c f i)

    -- joining edges
    unfoldable pub joins : State → State
    joins s = turns n (λ i. join_at m c order (dart_at c f i)) s

    join-ok : (i : ℕ) (s : State) → RoomFor np ne nf s → RoomFor np ne nf (join_at m c order (dart_at c f i) s)
    unfolding join_at
    join-ok i s o = room-put_edge s (edge_no c order (join (dart_at c f i))) (join_edge m c order (dart_at c f i)) o

    join-other :
        (i : ℕ) (s : State) (x : NewEdge (Row ne)) → i < n → RoomFor np ne nf s → x ≢ join (dart_at c f i)
        → parts (join_at m c order (dart_at c f i) s) x ≡ parts s x
    unfolding join_at parts
    join-other i s x l o k =
        let k' : edge_no c order x ≢ edge_no c order (join (dart_at c f i)) = λ q. k (edge_no-injective c order _ _ q) in
        let r : TnurccEdge = join_edge m c order (dart_at c f i) in
        λ j. (
          ends-put_edge-other s _ _ k' r j,
          side-put_edge-other s _ (lft (edge_no c order x)) k' r j,
          side-put_edge-other s _ (rgt (edge_no c order x)) k' r j,
        )

    join-same :
        (i : ℕ) (s : State) → i < n → RoomFor np ne nf s
        → parts (join_at m c order (dart_at c f i) s) (join (dart_at c f i))
        ≡ (ends_at m c order (join (dart_at c f i)), out_side c order (dart_at c f i), in_side c order (dart_at c f i))
    unfolding join_at parts
    join-same i s l o =
        let d : Dart (Row ne) = dart_at c f i in
        let b : edge_no c order (join d) < 4 * ne = edge_no-fits c order (join d) in
        λ j. (
          ends-put_edge s o (edge_no c order (join d)) b (ends_at m c order (join d)) (out_side c order d) (in_side c order d) j,
          left-put_edge s o (edge_no c order (join d)) b (ends_at m c order (join d)) (out_side c order d) (in_side c order d) j,
          right-put_edge s o (edge_no c order (join d)) b (ends_at m c order (join d)) (out_side c order d) (in_side c order d) j,
        )

    pub joins-fit : (s : State) → RoomFor np ne nf s → RoomFor np ne nf (joins s)
    unfolding joins
    joins-fit s o = turns-ok {K = Row nf} {B = ℕ} (λ i. join_at m c order (dart_at c f i)) (RoomFor np ne nf) join-ok (λ x k. 0) (λ i. f) n s o

    pub joins-same : (s : State) → RoomFor np ne nf s → (d : Dart (Row ne)) → face t d ≡ f
        → parts (joins s) (join d) ≡ (ends_at m c order (join d), out_side c order d, in_side c order d)
    unfolding joins
    joins-same s o d q =
        subst (λ x. parts (turns n (λ i. join_at m c order (dart_at c f i)) s) (join x) ≡ (ends_at m c order (join x), out_side c order x, in_side c order x))
        (at_place d q).1
        (turns_same (λ i. join_at m c order (dart_at c f i)) (RoomFor np ne nf) join-ok parts (λ i. join (dart_at c f i)) n
        (λ i. (ends_at m c order (join (dart_at c f i)), out_side c order (dart_at c f i), in_side c order (dart_at c f i)))
        join-same join-other (λ i j a b e. places-differ i j a b (cc)) s o (place c d) (at_place d q).0)

    pub joins-other : (s : State) → RoomFor np ne nf s → (x : NewEdge (Row ne)) → ((d : Dart (Row ne)) → face t d ≡ f → x ≢ join d)
        → parts (joins s) x ≡ parts s x
    unfolding joins
    joins-other s o x k =
        turns-other (λ i. join_at m c order (dart_at c f i)) (RoomFor np ne nf) join-ok parts (λ i. join (dart_at c f i)) n join-other s o x
        (λ i l. k (dart_at c f i) (face-dart_at c f i))

    -- ---- the halves on the side of f

    unfoldable pub side_at : State → Dart (NewEdge (Row ne)) → Side
    side_at s y = side s (row_of c order y)

    -- h d is the half of d that is written, y d its dart on d's side, v d what is written there
    module _
        (h : Dart (Row ne) → NewEdge (Row ne)) (y : Dart (Row ne) → Dart (NewEdge (Row ne)))
        (row_is : (d : Dart (Row ne)) → dart_of (is_left d) (edge_no c order (h d)) ≡ row_of c order (y d))
        (old-is : (d : Dart (Row ne)) → old_dart (y d) ≡ d) (v : Dart (Row ne) → Side)
      where
        unfoldable pub halves : State → State
        halves s = turns n (λ i. half_at m c order h v (dart_at c f i)) s

        half-ok : (i : ℕ) (s : State) → RoomFor np ne nf s → RoomFor np ne nf (half_at m c order h v (dart_at c f i) s)
        unfolding half_at
        half-ok i s o =
            let d : Dart (Row ne) = dart_at c f i in
            room-put_side s o (edge_no c order (h d)) (edge_no-fits c order (h d)) (v d).face (v d).acw (v d).cw (is_left d)

        half-same : (i : ℕ) (s : State) → i < n → RoomFor np ne nf s → side_at (half_at m c order h v (dart_at c f i) s) (y (dart_at c f i)) ≡ v (dart_at c f i)
        unfolding half_at side_at
        half-same i s l o =
            let d : Dart (Row ne) = dart_at c f i in
            ap (side (half_at m c order h v d s)) (sym (row_is d))
            ∙ side-put_side s o (edge_no c order (h d)) (edge_no-fits c order (h d)) (v d).face (v d).acw (v d).cw (is_left d)

        half-other :
            (i : ℕ) (s : State) (x : Dart (NewEdge (Row ne))) → i < n → RoomFor np ne nf s → x ≢ y (dart_at c f i)
            → side_at (half_at m c order h v (dart_at c f i) s) x ≡ side_at s x
        unfolding half_at side_at
        half-other i s x l o k =
            let d : Dart (Row ne) = dart_at c f i in
            side-put_side-other s o (edge_no c order (h d)) (edge_no-fits c order (h d)) (v d).face (v d).acw (v d).cw (is_left d) (row_of c order x)
            (λ q. k (row_of-injective c order _ _ (q ∙ row_is d)))

        half-ends : (i : ℕ) (s : State) (e : ℕ) → RoomFor np ne nf s → ends (half_at m c order h v (dart_at c f i) s) e ≡ ends s e
        unfolding half_at
        half-ends i s e o =
            let d : Dart (Row ne) = dart_at c f i in
            ends-put_side s o (edge_no c order (h d)) (edge_no-fits c order (h d)) (v d).face (v d).acw (v d).cw (is_left d) e

        half-injective : (i j : ℕ) → i < n → j < n → y (dart_at c f i) ≡ y (dart_at c f j) → i ≡ j
        half-injective i j a b q = places-differ i j a b (sym (old-is _) ∙ ap old_dart q ∙ old-is _)

        pub halves-fit : (s : State) → RoomFor np ne nf s → RoomFor np ne nf (halves s)
        unfolding halves
        halves-fit s o = turns-ok {K = Row nf} {B = ℕ} (λ i. half_at m c order h v (dart_at c f i)) (RoomFor np ne nf) half-ok (λ x k. 0) (λ i. f) n s o

        pub halves-ends : (s : State) → RoomFor np ne nf s → (e : ℕ) → ends (halves s) e ≡ ends s e
        unfolding halves
        halves-ends s o e = turns-stay n (λ i. half_at m c order h v (dart_at c f i)) (RoomFor np ne nf) half-ok (λ x. ends x e) (λ i x q. half-ends i x e q) s o

        pub halves-same : (s : State) → RoomFor np ne nf s → (d : Dart (Row ne)) → face t d ≡ f → side_at (halves s) (y d) ≡ v d
        unfolding halves
        halves-same s o d q =
            subst (λ x. side_at (turns n (λ i. half_at m c order h v (dart_at c f i)) s) (y x) ≡ v x) (at_place d q).1
            (turns_same (λ i. half_at m c order h v (dart_at c f i)) (RoomFor np ne nf) half-ok side_at (λ i. y (dart_at c f i)) n (λ i. v (dart_at c f i)) half-same half-other
            half-injective s o (place c d) (at_place d q).0)

        pub halves-other :
            (s : State) → RoomFor np ne nf s → (x : Dart (NewEdge (Row ne))) → ((i : ℕ) → x ≢ y (dart_at c f i)) → side_at (halves s) x ≡ side_at s x
        unfolding halves
        halves-other s o x k =
            turns-other (λ i. half_at m c order h v (dart_at c f i)) (RoomFor np ne nf) half-ok side_at (λ i. y (dart_at c f i)) n half-other s o x (λ i l. k i)

    -- ---- the new faces

    unfoldable pub new_faces : State → State
    new_faces s = turns n (λ i. new_face_at m c order (dart_at c f i)) s

    face-ok : (i : ℕ) (s : State) → RoomFor np ne nf s → RoomFor np ne nf (new_face_at m c order (dart_at c f i) s)
    unfolding new_face_at
    face-ok i s o = room-put_face s _ _ _ _ _ _ o

    face-same :
        (i : ℕ) (s : State) → i < n → RoomFor np ne nf s → face_of (new_face_at m c order (dart_at c f i) s) (face_no c order (dart_at c f i)) ≡ face_at c order (dart_at c f i)
    unfolding new_face_at face_at
    face-same i s l o = face_of-put_face s o _ _ _ _ _ _ (face_no-fits c order (dart_at c f i))

    face-other :
        (i : ℕ) (s : State) (d : Dart (Row ne)) → i < n → RoomFor np ne nf s → d ≢ dart_at c f i
        → face_of (new_face_at m c order (dart_at c f i) s) (face_no c order d) ≡ face_of s (face_no c order d)
    unfolding new_face_at
    face-other i s d l o k = face_of-put_face-other s _ _ _ _ _ _ _ (λ q. k (face_no-injective c order _ _ q))

    pub new_faces-fit : (s : State) → RoomFor np ne nf s → RoomFor np ne nf (new_faces s)
    unfolding new_faces
    new_faces-fit s o = turns-ok {K = Row nf} {B = ℕ} (λ i. new_face_at m c order (dart_at c f i)) (RoomFor np ne nf) face-ok (λ x k. 0) (λ i. f) n s o

    pub new_faces-same : (s : State) → RoomFor np ne nf s → (d : Dart (Row ne)) → face t d ≡ f → face_of (new_faces s) (face_no c order d) ≡ face_at c order d
    unfolding new_faces
    new_faces-same s o d q =
        subst (λ x. face_of (turns n (λ i. new_face_at m c order (dart_at c f i)) s) (face_no c order x) ≡ face_at c order x) (at_place d q).1
        (turns_same (λ i. new_face_at m c order (dart_at c f i)) (RoomFor np ne nf) face-ok (λ x d. face_of x (face_no c order d)) (λ i. dart_at c f i) n
        (λ i. face_at c order (dart_at c f i)) face-same face-other places-differ s o (place c d) (at_place d q).0)

    pub new_faces-other :
        (s : State) → RoomFor np ne nf s → (d : Dart (Row ne)) → face t d ≢ f → face_of (new_faces s) (face_no c order d) ≡ face_of s (face_no c order d)
    unfolding new_faces
    new_faces-other s o d k =
        turns-other (λ i. new_face_at m c order (dart_at c f i)) (RoomFor np ne nf) face-ok (λ x d. face_of x (face_no c order d)) (λ i. dart_at c f i) n face-other s o d
        (λ i l. not_on d k i)
