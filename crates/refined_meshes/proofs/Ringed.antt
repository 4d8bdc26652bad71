-- What stands in the tables once a visit has written its ring, on kinds of rows. Assumes nothing.
--     Ringed f s s'         the ring of the face f was written into s, which became s'
--     ringed                so it is after `put_ring`
--     taken-put_ring         the rows taken for a ring
use mathlib.Core.Path.{◌≡◌, refl, sym, ◌∙◌, ap}
use mathlib.Core.Bool.{Bool, true, false}
use mathlib.Core.Logic.{◌≢◌}
use Prim.Native.Nat.{ℕ, ◌+◌, ◌-◌, ◌<◌}
use native.Mathlib.Omega.{arith}
use Rattle.closed_meshes.specs.Mesh.{MeshOver, Dart, lft, rgt, edge, face}
use Rattle.closed_meshes.specs.Closed.{Closed}
use Rattle.closed_meshes.specs.Refinement.{NewPoint, face_point, NewEdge, org, dst, join, first_half, second_half}
use Rattle.closed_meshes.specs.Renumbering.{Bijection, Row}
use Rattle.closed_meshes.proofs.NewDarts.{start-half, end-half, inward, outward}
use Rattle.tables.specs.Mesh.{Mesh}
use Rattle.refined_meshes.specs.Turns.{turns}
use Rattle.refined_meshes.specs.State.{State, put_edge, put_point, put_face, take_rows}
use Rattle.refined_meshes.specs.Ring.{Ring, join_row, put_join, put_first, put_second, put_new_face, put_face_point}
use Rattle.refined_meshes.specs.Visits.{put_ring}
use Rattle.refined_meshes.specs.Fits.{RoomFor}
use Rattle.refined_meshes.proofs.Places.{dart_at}
use Rattle.refined_meshes.proofs.Numbering.{point_no, edge_no, face_no, point_no-injective, point_no-fits}
use Rattle.refined_meshes.proofs.Words.{ends, side, point_of, face_of, room-put_point, point_of-put_point, point_of-put_point-other}
use Rattle.refined_meshes.proofs.Target.{ends_at, first_side, second_side, out_side, in_side, centre_at, face_at}
use Rattle.refined_meshes.proofs.Target.{row_of, row-start, row-end, kind, old_dart, starting, inner, outer}
use Rattle.refined_meshes.proofs.Target.{ending, kind-start, kind-end, old_dart-start, old_dart-end}
use Rattle.refined_meshes.proofs.Turns.{turns-cong, turns-view}
use Rattle.refined_meshes.proofs.Ring.{RingIs, join_at, half_at, new_face_at, join-at, first-at, second_at, face-at}
use Rattle.refined_meshes.proofs.Loops.{parts, not_on, joins, joins-fit, joins-same, joins-other, side_at}
use Rattle.refined_meshes.proofs.Loops.{halves, halves-fit, halves-ends, halves-same, halves-other}
use Rattle.refined_meshes.proofs.Loops.{new_faces, new_faces-fit, new_faces-same, new_faces-other}

-- a side of an edge
abbrev dart_over : {E : Type 0} → Bool → E → Dart E
dart_over true e = lft e
dart_over false e = rgt e

module _ (m : Mesh) {np ne nf : ℕ} {t : MeshOver (Row np) (Row ne) (Row nf)} (c : Closed t) (order : Bijection (Row nf) (Row nf)) where
  -- what stands in the tables after the ring of f was written into s
  pub record Ringed (f : Row nf) (s s' : State) : Type 0 where
    pub room : RoomFor np ne nf s'
    pub join-ends : (d : Dart (Row ne)) → face t d ≡ f → ends s' (edge_no c order (join d)) ≡ ends_at m c order (join d)
    pub first-half : (d : Dart (Row ne)) → face t d ≡ f → side s' (row_of c order (start-half d)) ≡ first_side c order d
    pub second-half : (d : Dart (Row ne)) → face t d ≡ f → side s' (row_of c order (end-half d)) ≡ second_side c order d
    pub join-left : (d : Dart (Row ne)) → face t d ≡ f → side s' (row_of c order (outward d)) ≡ out_side c order d
    pub join-right : (d : Dart (Row ne)) → face t d ≡ f → side s' (row_of c order (inward d)) ≡ in_side c order d
    pub new-face : (d : Dart (Row ne)) → face t d ≡ f → face_of s' (face_no c order d) ≡ face_at c order d
    pub centre : point_of s' (point_no c order (face_point f)) ≡ centre_at c order f
    -- all else is as it was
    pub other-ends :
        (x : NewEdge (Row ne)) → ((d : Dart (Row ne)) → face t d ≡ f → x ≢ join d) → ends s' (edge_no c order x) ≡ ends s (edge_no c order x)
    pub other-side : (y : Dart (NewEdge (Row ne))) → face t (old_dart y) ≢ f → side s' (row_of c order y) ≡ side s (row_of c order y)
    pub other-face : (d : Dart (Row ne)) → face t d ≢ f → face_of s' (face_no c order d) ≡ face_of s (face_no c order d)
    pub other-point :
        (x : NewPoint (Row np) (Row ne) (Row nf)) → x ≢ face_point f → point_of s' (point_no c order x) ≡ point_of s (point_no c order x)

  module _ (f : Row nf) where
    abbrev n : ℕ
    n = c.size f

    module _ (r : Ring) (is : RingIs m c order r f) (s : State) (o : RoomFor np ne nf s) where
      abbrev s1 : State
      s1 = joins m c order f s

      abbrev s2 : State
      s2 = halves m c order f first_half start-half (row-start c order) old_dart-start (first_side c order) s1

      abbrev s3 : State
      s3 = halves m c order f second_half end-half (row-end c order) old_dart-end (second_side c order) s2

      abbrev s4 : State
      s4 = new_faces m c order f s3

      o1 : RoomFor np ne nf s1
      o1 = joins-fit m c order f s o

      o2 : RoomFor np ne nf s2
      o2 = halves-fit m c order f first_half start-half (row-start c order) old_dart-start (first_side c order) s1 o1

      o3 : RoomFor np ne nf s3
      o3 = halves-fit m c order f second_half end-half (row-end c order) old_dart-end (second_side c order) s2 o2

      o4 : RoomFor np ne nf s4
      o4 = new_faces-fit m c order f s3 o3

      -- The loops write what belongs to the darts of f.
      stages : turns r.size (put_new_face m r) (turns r.size (put_second m r) (turns r.size (put_first m r) (turns r.size (put_join r) s))) ≡ s4
      unfolding joins halves new_faces
      stages =
          ap (λ k. turns k (put_new_face m r) (turns k (put_second m r) (turns k (put_first m r) (turns k (put_join r) s)))) is.size_is
          ∙ ap (λ x. turns n (put_new_face m r) (turns n (put_second m r) (turns n (put_first m r) x)))
          (turns-cong n (put_join r) (λ i. join_at m c order (dart_at c f i)) (λ i x l. join-at m c order r f is i l x) s)
          ∙ ap (λ x. turns n (put_new_face m r) (turns n (put_second m r) x))
          (turns-cong n (put_first m r) (λ i. half_at m c order first_half (first_side c order) (dart_at c f i)) (λ i x l. first-at m c order r f is i l x) s1)
          ∙ ap (λ x. turns n (put_new_face m r) x)
          (turns-cong n (put_second m r) (λ i. half_at m c order second_half (second_side c order) (dart_at c f i)) (λ i x l. second_at m c order r f is i l x) s2)
          ∙ turns-cong n (put_new_face m r) (λ i. new_face_at m c order (dart_at c f i)) (λ i x l. face-at m c order r f is i l x) s3

      abbrev s5 : State
      s5 = put_point (point_no c order (face_point f)) n (edge_no c order (join (dart_at c f (n - 1)))) 0 s4

      last-below : n - 1 < n
      last-below = omega (arith, c.size_low f)

      ring-is : put_ring m r s ≡ take_rows 0 n (n - 1) s5
      unfolding put_ring put_face_point
      ring-is =
          ap (λ x. take_rows 0 r.size (r.size - 1) (put_point r.centre r.size (join_row r (r.size - 1)) 0 x)) stages
          ∙ ap (λ k. take_rows 0 k (k - 1) (put_point r.centre k (join_row r (k - 1)) 0 s4)) is.size_is
          ∙ ap (λ j. take_rows 0 n (n - 1) (put_point r.centre n j 0 s4)) (is.join_is (n - 1) last-below)
          ∙ ap (λ p. take_rows 0 n (n - 1) (put_point p n (edge_no c order (join (dart_at c f (n - 1)))) 0 s4)) is.centre-is

      -- The tables that a loop does not write stay.
      edges-stay : (i : ℕ) → ends s5 i ≡ ends s3 i
      unfolding ends put_point new_faces new_face_at put_face
      edges-stay i = turns-view n (λ i. new_face_at m c order (dart_at c f i)) (λ x. ends x i) (λ j x. refl) s3

      sides-stay : (d : Dart ℕ) → side s5 d ≡ side s3 d
      unfolding side put_point new_faces new_face_at put_face
      sides-stay (lft i) = turns-view n (λ i. new_face_at m c order (dart_at c f i)) (λ x. side x (lft i)) (λ j x. refl) s3
      sides-stay (rgt i) = turns-view n (λ i. new_face_at m c order (dart_at c f i)) (λ x. side x (rgt i)) (λ j x. refl) s3

      faces-stay : (i : ℕ) → face_of s3 i ≡ face_of s i
      unfolding face_of halves half_at joins join_at put_edge
      faces-stay i =
          turns-view n (λ i. half_at m c order second_half (second_side c order) (dart_at c f i)) (λ x. face_of x i) (λ j x. refl) s2
          ∙ turns-view n (λ i. half_at m c order first_half (first_side c order) (dart_at c f i)) (λ x. face_of x i) (λ j x. refl) s1
          ∙ turns-view n (λ i. join_at m c order (dart_at c f i)) (λ x. face_of x i) (λ j x. refl) s

      points-stay : (i : ℕ) → point_of s4 i ≡ point_of s i
      unfolding point_of new_faces new_face_at put_face halves half_at joins join_at put_edge
      points-stay i =
          turns-view n (λ i. new_face_at m c order (dart_at c f i)) (λ x. point_of x i) (λ j x. refl) s3
          ∙ turns-view n (λ i. half_at m c order second_half (second_side c order) (dart_at c f i)) (λ x. point_of x i) (λ j x. refl) s2
          ∙ turns-view n (λ i. half_at m c order first_half (first_side c order) (dart_at c f i)) (λ x. point_of x i) (λ j x. refl) s1
          ∙ turns-view n (λ i. join_at m c order (dart_at c f i)) (λ x. point_of x i) (λ j x. refl) s

      -- ---- by kinds

      ends-kept : (i : ℕ) → ends s5 i ≡ ends s1 i
      ends-kept i =
          edges-stay i ∙ halves-ends m c order f second_half end-half (row-end c order) old_dart-end (second_side c order) s2 o2 i
          ∙ halves-ends m c order f first_half start-half (row-start c order) old_dart-start (first_side c order) s1 o1 i

      -- a dart that is no half of f's on its side
      sides-kept :
          (x : Dart (NewEdge (Row ne))) → ((i : ℕ) → x ≢ start-half (dart_at c f i)) → ((i : ℕ) → x ≢ end-half (dart_at c f i))
          → side_at m c order f s5 x ≡ side_at m c order f s1 x
      unfolding side_at
      sides-kept x a b =
          sides-stay (row_of c order x)
          ∙ halves-other m c order f second_half end-half (row-end c order) old_dart-end (second_side c order) s2 o2 x b
          ∙ halves-other m c order f first_half start-half (row-start c order) old_dart-start (first_side c order) s1 o1 x a

      start-not-end : (d : Dart (Row ne)) (i : ℕ) → start-half d ≢ end-half (dart_at c f i)
      start-not-end d i q = let z : starting ≡ ending = sym (kind-start d) ∙ ap kind q ∙ kind-end (dart_at c f i) in kinds-clash z
        where
          kinds-clash : starting ≡ ending → ⊥
          kinds-clash z = let w : ◌≡◌ {A = ℕ} 0 1 = cc in omega arith

      join-not-start : (b : Bool) (d : Dart (Row ne)) (i : ℕ) → dart_over b (join d) ≢ start-half (dart_at c f i)
      join-not-start true d i q = let z : outer ≡ starting = ap kind q ∙ kind-start (dart_at c f i) in let w : ◌≡◌ {A = ℕ} 0 1 = cc in omega arith
      join-not-start false d i q = let z : inner ≡ starting = ap kind q ∙ kind-start (dart_at c f i) in let w : ◌≡◌ {A = ℕ} 0 1 = cc in omega arith

      join-not-end : (b : Bool) (d : Dart (Row ne)) (i : ℕ) → dart_over b (join d) ≢ end-half (dart_at c f i)
      join-not-end true d i q = let z : outer ≡ ending = ap kind q ∙ kind-end (dart_at c f i) in let w : ◌≡◌ {A = ℕ} 0 1 = cc in omega arith
      join-not-end false d i q = let z : inner ≡ ending = ap kind q ∙ kind-end (dart_at c f i) in let w : ◌≡◌ {A = ℕ} 0 1 = cc in omega arith

      joins-side : (x : Dart (NewEdge (Row ne))) → ((d : Dart (Row ne)) → face t d ≡ f → edge x ≢ join d) → side_at m c order f s1 x ≡ side_at m c order f s x
      unfolding side_at row_of parts
      joins-side (lft x) k = ap (λ p. p.1) (joins-other m c order f s o x k)
      joins-side (rgt x) k = ap (λ p. p.2) (joins-other m c order f s o x k)

      -- a dart of another face
      not-join : (x : Dart (NewEdge (Row ne))) → face t (old_dart x) ≢ f → (d : Dart (Row ne)) → face t d ≡ f → edge x ≢ join d
      not-join (lft (org e)) k d h q = let w : ◌≡◌ {A = ℕ} 0 1 = cc in omega arith
      not-join (lft (dst e)) k d h q = let w : ◌≡◌ {A = ℕ} 0 1 = cc in omega arith
      not-join (lft (join i)) k d h q = let z : i ≡ d = cc in k (ap (face t) z ∙ h)
      not-join (rgt (org e)) k d h q = let w : ◌≡◌ {A = ℕ} 0 1 = cc in omega arith
      not-join (rgt (dst e)) k d h q = let w : ◌≡◌ {A = ℕ} 0 1 = cc in omega arith
      not-join (rgt (join i)) k d h q = let z : i ≡ d = cc in k (ap (face t) z ∙ h)

      other-sides : (x : Dart (NewEdge (Row ne))) → face t (old_dart x) ≢ f → side_at m c order f s5 x ≡ side_at m c order f s x
      other-sides x k =
          sides-kept x
          (λ i q. not_on m c order f (old_dart x) k i (ap old_dart q ∙ old_dart-start (dart_at c f i)))
          (λ i q. not_on m c order f (old_dart x) k i (ap old_dart q ∙ old_dart-end (dart_at c f i)))
          ∙ joins-side x (not-join x k)

      first-new : (d : Dart (Row ne)) → face t d ≡ f → side_at m c order f s5 (start-half d) ≡ first_side c order d
      unfolding side_at
      first-new d q =
          sides-stay (row_of c order (start-half d))
          ∙ halves-other m c order f second_half end-half (row-end c order) old_dart-end (second_side c order) s2 o2 (start-half d) (start-not-end d)
          ∙ halves-same m c order f first_half start-half (row-start c order) old_dart-start (first_side c order) s1 o1 d q

      second-new : (d : Dart (Row ne)) → face t d ≡ f → side_at m c order f s5 (end-half d) ≡ second_side c order d
      unfolding side_at
      second-new d q =
          sides-stay (row_of c order (end-half d))
          ∙ halves-same m c order f second_half end-half (row-end c order) old_dart-end (second_side c order) s2 o2 d q

      left-new : (d : Dart (Row ne)) → face t d ≡ f → side_at m c order f s5 (outward d) ≡ out_side c order d
      left-new d q =
          sides-kept (outward d) (join-not-start true d) (join-not-end true d)
          ∙ (unfold side_at row_of parts in ap (λ p. p.1) (joins-same m c order f s o d q))

      right_new : (d : Dart (Row ne)) → face t d ≡ f → side_at m c order f s5 (inward d) ≡ in_side c order d
      right_new d q =
          sides-kept (inward d) (join-not-start false d) (join-not-end false d)
          ∙ (unfold side_at row_of parts in ap (λ p. p.2) (joins-same m c order f s o d q))

      join-ends-new : (d : Dart (Row ne)) → face t d ≡ f → ends s5 (edge_no c order (join d)) ≡ ends_at m c order (join d)
      join-ends-new d q = ends-kept _ ∙ (unfold parts in ap (λ p. p.0) (joins-same m c order f s o d q))

      join-ends-old :
          (x : NewEdge (Row ne)) → ((d : Dart (Row ne)) → face t d ≡ f → x ≢ join d) → ends s5 (edge_no c order x) ≡ ends s (edge_no c order x)
      join-ends-old x k = ends-kept _ ∙ (unfold parts in ap (λ p. p.0) (joins-other m c order f s o x k))

      o5 : RoomFor np ne nf s5
      o5 = room-put_point s4 _ _ _ _ o4

      faces-last : (i : ℕ) → face_of s5 i ≡ face_of s4 i
      unfolding face_of put_point
      faces-last i = refl

      -- taking rows changes no word
      side-take : (d : Dart ℕ) → side (take_rows 0 n (n - 1) s5) d ≡ side s5 d
      unfolding side
      side-take (lft i) = refl
      side-take (rgt i) = refl

      ends-take : (i : ℕ) → ends (take_rows 0 n (n - 1) s5) i ≡ ends s5 i
      unfolding ends
      ends-take i = refl

      face-take : (i : ℕ) → face_of (take_rows 0 n (n - 1) s5) i ≡ face_of s5 i
      unfolding face_of
      face-take i = refl

      point-take : (i : ℕ) → point_of (take_rows 0 n (n - 1) s5) i ≡ point_of s5 i
      unfolding point_of
      point-take i = refl

      ringed-taken : Ringed f s (take_rows 0 n (n - 1) s5)
      unfolding side_at
      ringed-taken =
          record {
            room =
                record {
                  points-room = o5.points-room;
                  edges_room = o5.edges_room;
                  intervals-room = o5.intervals-room;
                  faces-room = o5.faces-room;
                };
            join-ends = λ d q. ends-take _ ∙ join-ends-new d q;
            first-half = λ d q. side-take _ ∙ first-new d q;
            second-half = λ d q. side-take _ ∙ second-new d q;
            join-left = λ d q. side-take _ ∙ left-new d q;
            join-right = λ d q. side-take _ ∙ right_new d q;
            new-face = λ d q. face-take _ ∙ faces-last _ ∙ new_faces-same m c order f s3 o3 d q;
            centre = point-take _ ∙ centre-new;
            other-ends = λ x k. ends-take _ ∙ join-ends-old x k;
            other-side = λ x k. side-take _ ∙ other-sides x k;
            other-face = λ d k. face-take _ ∙ faces-last _ ∙ new_faces-other m c order f s3 o3 d k ∙ faces-stay _;
            other-point =
                λ x k.
                point-take _ ∙ point_of-put_point-other s4 _ _ _ _ _ (λ q. k (point_no-injective c order _ _ q)) ∙ points-stay _;
          }
        where
          centre-new : point_of s5 (point_no c order (face_point f)) ≡ centre_at c order f
          centre-new = unfold centre_at in point_of-put_point s4 o4 _ _ _ _ (point_no-fits c order (face_point f))

      pub ringed : Ringed f s (put_ring m r s)
      ringed = rw ring-is ringed-taken

-- ---- the rows taken for a ring

abbrev pub Taken : Type 0
Taken = ℕ × ℕ × ℕ

abbrev pub taken : State → Taken
taken s = (s.points_taken, s.edges_taken, s.faces_taken)

pub taken-put_ring : (m : Mesh) (r : Ring) (s : State) → taken (put_ring m r s) ≡ (s.points_taken + 0, s.edges_taken + r.size, s.faces_taken + (r.size - 1))
unfolding put_ring put_face_point put_point put_new_face put_face put_second put_first put_join put_edge
taken-put_ring m r s =
    ap (λ (k : Taken). (k.0 + 0, k.1 + r.size, k.2 + (r.size - 1)))
    (turns-view r.size (put_new_face m r) taken (λ j x. refl) _
    ∙ turns-view r.size (put_second m r) taken (λ j x. refl) _
    ∙ turns-view r.size (put_first m r) taken (λ j x. refl) _
    ∙ turns-view r.size (put_join r) taken (λ j x. refl) s)
