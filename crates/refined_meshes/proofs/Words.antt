-- What stands in the tables after a row was put into them. Assumes nothing.
--     Ends Side PointWords FaceWords       the ends and the interval of an edge, one of its sides, the words of a point and of a face
--     ends s e, side s d, point_of s p, face_of s f     what stands there; a dart of a row number is a side of that row
--     edge_from n l r                       the edge with the ends n and the sides l and r
use mathlib.Core.Path.{◌≡◌, refl, sym, ◌∙◌, ap}
use mathlib.Core.Bool.{Bool, true, false}
use mathlib.Core.List.{List, [], ◌∷◌}
use mathlib.Core.Logic.{◌≢◌}
use Prim.Native.Nat.{ℕ, suc, ◌+◌, ◌*◌, ◌≤◌, ◌<◌}
use native.Mathlib.Nat.{add-zero}
use native.Mathlib.Omega.{arith}
use native.Mathlib.Decide.{ℕ_discrete}
use lib.ListN.{length, get_or, length-set}
use lib.Seq.{get_or-set_same, get_or-set_other}
use lib.Ieee.{Float, nan}
use Rattle.t_spline.specs.declared.TnurccEdge.{TnurccEdge}
use Rattle.closed_meshes.specs.Mesh.{Dart, lft, rgt, edge}
use Rattle.tables.specs.Rows.{put_row}
use Rattle.tables.specs.Records.{edge_words}
use Rattle.tables.proofs.Laws.{length-put_row, get_or-put_row, get_or-put_row-other}
use Rattle.refined_meshes.specs.State.{State, edge_of, put_edge, put_point, put_start, put_face}
use Rattle.refined_meshes.specs.Ring.{with_side, put_side}
use Rattle.refined_meshes.specs.Fits.{StateRoom}

pub record Ends : Type 0 where
  pub origin : ℕ
  pub dest : ℕ
  pub interval : Float

pub record Side : Type 0 where
  pub face : ℕ
  pub acw : ℕ
  pub cw : ℕ

pub record PointWords : Type 0 where
  pub valence : ℕ
  pub start : ℕ
  pub mark : ℕ

pub record FaceWords : Type 0 where
  pub start : ℕ
  pub corner0 : ℕ
  pub corner1 : ℕ
  pub corner2 : ℕ
  pub corner3 : ℕ

unfoldable pub ends : State → ℕ → Ends
ends s e = record { origin = (edge_of s e).origin; dest = (edge_of s e).dest; interval = (edge_of s e).knot_interval }

unfoldable pub side : State → Dart ℕ → Side
side s (lft e) =
    record {
      face = (edge_of s e).face_left;
      acw = get_or (edge_of s e).connections 1 0;
      cw = get_or (edge_of s e).connections 0 0;
    }
side s (rgt e) =
    record {
      face = (edge_of s e).face_right;
      acw = get_or (edge_of s e).connections 3 0;
      cw = get_or (edge_of s e).connections 2 0;
    }

unfoldable pub point_of : State → ℕ → PointWords
point_of s p =
    record { valence = get_or s.points (p * 3) 0; start = get_or s.points (p * 3 + 1) 0; mark = get_or s.points (p * 3 + 2) 0 }

unfoldable pub face_of : State → ℕ → FaceWords
face_of s f =
    record {
      start = get_or s.faces (f * 5) 0;
      corner0 = get_or s.faces (f * 5 + 1) 0;
      corner1 = get_or s.faces (f * 5 + 2) 0;
      corner2 = get_or s.faces (f * 5 + 3) 0;
      corner3 = get_or s.faces (f * 5 + 4) 0;
    }

abbrev pub edge_from : Ends → Side → Side → TnurccEdge
edge_from n l r =
    record {
      connections = l.cw ∷ l.acw ∷ r.cw ∷ r.acw ∷ [];
      face_left = l.face;
      face_right = r.face;
      origin = n.origin;
      dest = n.dest;
      knot_interval = n.interval;
    }

-- the words of an edge but the first
abbrev edge_tail : Ends → Side → Side → List ℕ
edge_tail n l r = n.dest ∷ l.face ∷ r.face ∷ l.cw ∷ l.acw ∷ r.cw ∷ r.acw ∷ []

module _ {A : Type 0} where
  -- The first word of the row that was put, and of any other row.
  row_first : (v : A) (vs xs : List A) (b : ℕ) (d : A) → b + suc (length vs) ≤ length xs → get_or (put_row xs b (v ∷ vs)) b d ≡ v
  row_first v vs xs b d h = ap (λ k. get_or (put_row xs b (v ∷ vs)) k d) (sym (add-zero b)) ∙ get_or-put_row (v ∷ vs) xs b 0 d (omega arith) h

  other-first :
      (vs xs : List A) (w r s : ℕ) (d : A) → length vs ≡ w → s ≢ r → 0 < w → get_or (put_row xs (r * w) vs) (s * w) d ≡ get_or xs (s * w) d
  other-first vs xs w r s d e n h =
      ap (λ k. get_or (put_row xs (r * w) vs) k d) (sym (add-zero (s * w))) ∙ get_or-put_row-other vs xs w r s 0 d e n h
      ∙ ap (λ k. get_or xs k d) (add-zero (s * w))

module _ {P E F : ℕ} (s : State) where
  -- ---- tables keep their lengths

  pub room-put_edge : (e : ℕ) (r : TnurccEdge) → StateRoom P E F s → StateRoom P E F (put_edge e r s)
  unfolding put_edge
  room-put_edge e r h =
      record {
        points-room = h.points-room;
        edges_room = rw (length-put_row (edge_words r) s.edges (e * 8)) h.edges_room;
        intervals-room = rw (length-set s.intervals e r.knot_interval) h.intervals-room;
        faces-room = h.faces-room;
      }

  pub room-put_point : (p v e k : ℕ) → StateRoom P E F s → StateRoom P E F (put_point p v e k s)
  unfolding put_point
  room-put_point p v e k h =
      record {
        points-room = rw (length-put_row (v ∷ e ∷ k ∷ []) s.points (p * 3)) h.points-room;
        edges_room = h.edges_room;
        intervals-room = h.intervals-room;
        faces-room = h.faces-room;
      }

  pub room-put_start : (p e : ℕ) → StateRoom P E F s → StateRoom P E F (put_start p e s)
  unfolding put_start
  room-put_start p e h =
      record {
        points-room = rw (length-set s.points (p * 3 + 1) e) h.points-room;
        edges_room = h.edges_room;
        intervals-room = h.intervals-room;
        faces-room = h.faces-room;
      }

  pub room-put_face : (f e c0 c1 c2 c3 : ℕ) → StateRoom P E F s → StateRoom P E F (put_face f e c0 c1 c2 c3 s)
  unfolding put_face
  room-put_face f e c0 c1 c2 c3 h =
      record {
        points-room = h.points-room;
        edges_room = h.edges_room;
        intervals-room = h.intervals-room;
        faces-room = rw (length-put_row (e ∷ c0 ∷ c1 ∷ c2 ∷ c3 ∷ []) s.faces (f * 5)) h.faces-room;
      }

  module _ (room : StateRoom P E F s) where
    -- ---- the row that was put

    module _ (e : ℕ) (below : e < E) (n : Ends) (l r : Side) where
      fits : e * 8 + 8 ≤ length s.edges
      fits = omega (arith, room.edges_room)

      word : (j : ℕ) → j < 8 → get_or (put_edge e (edge_from n l r) s).edges (e * 8 + j) 0 ≡ get_or (edge_words (edge_from n l r)) j 0
      unfolding put_edge
      word j h = get_or-put_row (edge_words (edge_from n l r)) s.edges (e * 8) j 0 h fits

      pub ends-put_edge : ends (put_edge e (edge_from n l r) s) e ≡ n
      unfolding ends put_edge
      ends-put_edge =
          λ i.
          record {
            origin = row_first n.origin (edge_tail n l r) s.edges (e * 8) 0 fits i;
            dest = word 1 (omega arith) i;
            interval = get_or-set_same s.intervals e n.interval nan (omega (arith, room.intervals-room)) i;
          }

      pub left-put_edge : side (put_edge e (edge_from n l r) s) (lft e) ≡ l
      unfolding side put_edge
      left-put_edge = λ i. record { face = word 2 (omega arith) i; acw = word 5 (omega arith) i; cw = word 4 (omega arith) i }

      pub right-put_edge : side (put_edge e (edge_from n l r) s) (rgt e) ≡ r
      unfolding side put_edge
      right-put_edge = λ i. record { face = word 3 (omega arith) i; acw = word 7 (omega arith) i; cw = word 6 (omega arith) i }

    pub point_of-put_point : (p v e k : ℕ) → p < P → point_of (put_point p v e k s) p ≡ record { valence = v; start = e; mark = k }
    unfolding point_of put_point
    point_of-put_point p v e k h =
        let fits : p * 3 + 3 ≤ length s.points = omega (arith, room.points-room) in
        λ i.
        record {
          valence = row_first v (e ∷ k ∷ []) s.points (p * 3) 0 fits i;
          start = get_or-put_row (v ∷ e ∷ k ∷ []) s.points (p * 3) 1 0 (omega arith) fits i;
          mark = get_or-put_row (v ∷ e ∷ k ∷ []) s.points (p * 3) 2 0 (omega arith) fits i;
        }

    pub point_of-put_start :
        (p e : ℕ) → p < P → point_of (put_start p e s) p ≡ record { valence = (point_of s p).valence; start = e; mark = (point_of s p).mark }
    unfolding point_of put_start
    point_of-put_start p e h =
        let fits : p * 3 + 3 ≤ length s.points = omega (arith, room.points-room) in
        λ i.
        record {
          valence = get_or-set_other s.points (p * 3 + 1) (p * 3) e 0 (omega arith) i;
          start = get_or-set_same s.points (p * 3 + 1) e 0 (omega arith) i;
          mark = get_or-set_other s.points (p * 3 + 1) (p * 3 + 2) e 0 (omega arith) i;
        }

    pub face_of-put_face :
        (f e c0 c1 c2 c3 : ℕ) → f < F
        → face_of (put_face f e c0 c1 c2 c3 s) f ≡ record { start = e; corner0 = c0; corner1 = c1; corner2 = c2; corner3 = c3 }
    unfolding face_of put_face
    face_of-put_face f e c0 c1 c2 c3 h =
        let fits : f * 5 + 5 ≤ length s.faces = omega (arith, room.faces-room) in
        let ws : List ℕ = e ∷ c0 ∷ c1 ∷ c2 ∷ c3 ∷ [] in
        λ i.
        record {
          start = row_first e (c0 ∷ c1 ∷ c2 ∷ c3 ∷ []) s.faces (f * 5) 0 fits i;
          corner0 = get_or-put_row ws s.faces (f * 5) 1 0 (omega arith) fits i;
          corner1 = get_or-put_row ws s.faces (f * 5) 2 0 (omega arith) fits i;
          corner2 = get_or-put_row ws s.faces (f * 5) 3 0 (omega arith) fits i;
          corner3 = get_or-put_row ws s.faces (f * 5) 4 0 (omega arith) fits i;
        }

-- ---- every other row

module _ (s : State) where
  module _ (e i : ℕ) (other : i ≢ e) (r : TnurccEdge) where
    same_word : (j : ℕ) → j < 8 → get_or (put_edge e r s).edges (i * 8 + j) 0 ≡ get_or s.edges (i * 8 + j) 0
    unfolding put_edge
    same_word j h = get_or-put_row-other (edge_words r) s.edges 8 e i j 0 refl other h

    pub ends-put_edge-other : ends (put_edge e r s) i ≡ ends s i
    unfolding ends put_edge
    ends-put_edge-other =
        λ k.
        record {
          origin = other-first (edge_words r) s.edges 8 e i 0 refl other (omega arith) k;
          dest = same_word 1 (omega arith) k;
          interval = get_or-set_other s.intervals e i r.knot_interval nan other k;
        }

    left-put_edge-other : side (put_edge e r s) (lft i) ≡ side s (lft i)
    unfolding side put_edge
    left-put_edge-other =
        λ k. record { face = same_word 2 (omega arith) k; acw = same_word 5 (omega arith) k; cw = same_word 4 (omega arith) k }

    right-put_edge-other : side (put_edge e r s) (rgt i) ≡ side s (rgt i)
    unfolding side put_edge
    right-put_edge-other =
        λ k. record { face = same_word 3 (omega arith) k; acw = same_word 7 (omega arith) k; cw = same_word 6 (omega arith) k }

  pub side-put_edge-other : (e : ℕ) (d : Dart ℕ) → edge d ≢ e → (r : TnurccEdge) → side (put_edge e r s) d ≡ side s d
  side-put_edge-other e (lft i) h r = left-put_edge-other e i h r
  side-put_edge-other e (rgt i) h r = right-put_edge-other e i h r

  pub point_of-put_point-other : (p q v e k : ℕ) → q ≢ p → point_of (put_point p v e k s) q ≡ point_of s q
  unfolding point_of put_point
  point_of-put_point-other p q v e k h =
      let ws : List ℕ = v ∷ e ∷ k ∷ [] in
      λ i.
      record {
        valence = other-first ws s.points 3 p q 0 refl h (omega arith) i;
        start = get_or-put_row-other ws s.points 3 p q 1 0 refl h (omega arith) i;
        mark = get_or-put_row-other ws s.points 3 p q 2 0 refl h (omega arith) i;
      }

  pub point_of-put_start-other : (p q e : ℕ) → q ≢ p → point_of (put_start p e s) q ≡ point_of s q
  unfolding point_of put_start
  point_of-put_start-other p q e h =
      λ i.
      record {
        valence = get_or-set_other s.points (p * 3 + 1) (q * 3) e 0 (omega arith) i;
        start = get_or-set_other s.points (p * 3 + 1) (q * 3 + 1) e 0 (omega arith) i;
        mark = get_or-set_other s.points (p * 3 + 1) (q * 3 + 2) e 0 (omega arith) i;
      }

  pub face_of-put_face-other : (f g e c0 c1 c2 c3 : ℕ) → g ≢ f → face_of (put_face f e c0 c1 c2 c3 s) g ≡ face_of s g
  unfolding face_of put_face
  face_of-put_face-other f g e c0 c1 c2 c3 h =
      let ws : List ℕ = e ∷ c0 ∷ c1 ∷ c2 ∷ c3 ∷ [] in
      λ i.
      record {
        start = other-first ws s.faces 5 f g 0 refl h (omega arith) i;
        corner0 = get_or-put_row-other ws s.faces 5 f g 1 0 refl h (omega arith) i;
        corner1 = get_or-put_row-other ws s.faces 5 f g 2 0 refl h (omega arith) i;
        corner2 = get_or-put_row-other ws s.faces 5 f g 3 0 refl h (omega arith) i;
        corner3 = get_or-put_row-other ws s.faces 5 f g 4 0 refl h (omega arith) i;
      }

-- ---- one side of an edge

-- the side of the row e on its left or right
abbrev pub dart_of : Bool → ℕ → Dart ℕ
dart_of true e = lft e
dart_of false e = rgt e

module _ {P E F : ℕ} (s : State) (room : StateRoom P E F s) (e : ℕ) (below : e < E) (f a c : ℕ) where
  pub room-put_side : (b : Bool) → StateRoom P E F (put_side b e f a c s)
  room-put_side b = room-put_edge s e (with_side b f a c (edge_of s e)) room

  pub side-put_side : (b : Bool) → side (put_side b e f a c s) (dart_of b e) ≡ record { face = f; acw = a; cw = c }
  unfolding ends side
  side-put_side true = left-put_edge s room e below (ends s e) (record { face = f; acw = a; cw = c }) (side s (rgt e))
  side-put_side false = right-put_edge s room e below (ends s e) (side s (lft e)) (record { face = f; acw = a; cw = c })

  same_ends : (b : Bool) → ends (put_side b e f a c s) e ≡ ends s e
  unfolding ends side
  same_ends true = ends-put_edge s room e below (ends s e) (record { face = f; acw = a; cw = c }) (side s (rgt e))
  same_ends false = ends-put_edge s room e below (ends s e) (side s (lft e)) (record { face = f; acw = a; cw = c })

  pub ends-put_side : (b : Bool) (i : ℕ) → ends (put_side b e f a c s) i ≡ ends s i
  ends-put_side b i = go (ℕ_discrete i e)
    where
      go : Dec (i ≡ e) → ends (put_side b e f a c s) i ≡ ends s i
      go (yes h) = rw h (same_ends b)
      go (no h) = ends-put_edge-other s e i h (with_side b f a c (edge_of s e))

  same-side : (b : Bool) (d : Dart ℕ) → edge d ≡ e → d ≢ dart_of b e → side (put_side b e f a c s) d ≡ side s d
  unfolding ends side
  same-side true (lft i) h k = absurd (k (ap lft h))
  same-side true (rgt i) h k =
      rw h (right-put_edge s room e below (ends s e) (record { face = f; acw = a; cw = c }) (side s (rgt e)))
  same-side false (lft i) h k =
      rw h (left-put_edge s room e below (ends s e) (side s (lft e)) (record { face = f; acw = a; cw = c }))
  same-side false (rgt i) h k = absurd (k (ap rgt h))

  pub side-put_side-other : (b : Bool) (d : Dart ℕ) → d ≢ dart_of b e → side (put_side b e f a c s) d ≡ side s d
  side-put_side-other b d k = go (ℕ_discrete (edge d) e)
    where
      go : Dec (edge d ≡ e) → side (put_side b e f a c s) d ≡ side s d
      go (yes h) = same-side b d h k
      go (no h) = side-put_edge-other s e d h (with_side b f a c (edge_of s e))
