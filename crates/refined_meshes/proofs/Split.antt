-- What stands in the tables after an edge was split: over plain row numbers, e the edge, h its new half, p its midpoint, q its old
-- destination. Assumes nothing.
use mathlib.Core.Path.{◌≡◌, refl, sym, ◌∙◌, ap}
use mathlib.Core.Logic.{◌≢◌}
use Prim.Native.Nat.{ℕ, ◌<◌}
use Rattle.closed_meshes.specs.Mesh.{Dart, lft, rgt, edge}
use Rattle.refined_meshes.specs.State.{State, edge_of, put_edge, put_point, put_start}
use Rattle.refined_meshes.specs.Split.{half, origin_half, destination_half, split_edge}
use Rattle.refined_meshes.specs.Fits.{StateRoom}
use Rattle.refined_meshes.proofs.Words.{Ends, Side, PointWords, ends, side, point_of, face_of, room-put_edge}
use Rattle.refined_meshes.proofs.Words.{room-put_point, room-put_start, ends-put_edge, left-put_edge, right-put_edge}
use Rattle.refined_meshes.proofs.Words.{ends-put_edge-other, side-put_edge-other, point_of-put_point}
use Rattle.refined_meshes.proofs.Words.{point_of-put_point-other, point_of-put_start, point_of-put_start-other}

module _ {P E F : ℕ} (s : State) (room : StateRoom P E F s) (e : ℕ) (e-below : e < E) (h-below : s.edges_taken < E) (p-below : s.points_taken < P)
    (q-below : (ends s e).dest < P) (e-other : s.edges_taken ≢ e) (q-other : (ends s e).dest ≢ s.points_taken) where
  -- the destination half put, then the origin half, then the midpoint
  abbrev one-half : State
  one-half = put_edge s.edges_taken (destination_half s.points_taken e (edge_of s e)) s

  abbrev both_halves : State
  both_halves = put_edge e (origin_half s.points_taken s.edges_taken (edge_of s e)) one-half

  abbrev with-midpoint : State
  with-midpoint = put_point s.points_taken 4 e 0 both_halves

  one-room : StateRoom P E F one-half
  one-room = room-put_edge s _ (destination_half s.points_taken e (edge_of s e)) room

  both-room : StateRoom P E F both_halves
  both-room = room-put_edge one-half _ (origin_half s.points_taken s.edges_taken (edge_of s e)) one-room

  mid-room : StateRoom P E F with-midpoint
  mid-room = room-put_point both_halves _ _ _ _ both-room

  pub room_split : StateRoom P E F (split_edge e s)
  unfolding split_edge ends
  room_split =
      let r = room-put_start with-midpoint (ends s e).dest s.edges_taken mid-room in
      record {
        points-room = r.points-room;
        edges_room = r.edges_room;
        intervals-room = r.intervals-room;
        faces-room = r.faces-room;
      }

  -- ---- the halves

  abbrev origin_ends : Ends
  origin_ends = record { origin = (ends s e).origin; dest = s.points_taken; interval = half (ends s e).interval }

  abbrev destination_ends : Ends
  destination_ends = record { origin = s.points_taken; dest = (ends s e).dest; interval = half (ends s e).interval }

  abbrev origin_left : Side
  origin_left = record { face = (side s (lft e)).face; acw = s.edges_taken; cw = (side s (lft e)).cw }

  abbrev origin_right : Side
  origin_right = record { face = (side s (rgt e)).face; acw = (side s (rgt e)).acw; cw = s.edges_taken }

  pub ends-origin : ends (split_edge e s) e ≡ origin_ends
  unfolding split_edge ends side put_start put_point
  ends-origin = ends-put_edge one-half one-room e e-below origin_ends origin_left origin_right

  pub left-origin : (side (split_edge e s) (lft e)).acw ≡ s.edges_taken
  unfolding split_edge ends side put_start put_point
  left-origin = ap (λ x. x.acw) (left-put_edge one-half one-room e e-below origin_ends origin_left origin_right)

  pub right-origin : (side (split_edge e s) (rgt e)).cw ≡ s.edges_taken
  unfolding split_edge ends side put_start put_point
  right-origin = ap (λ x. x.cw) (right-put_edge one-half one-room e e-below origin_ends origin_left origin_right)

  pub ends-destination : ends (split_edge e s) s.edges_taken ≡ destination_ends
  unfolding split_edge ends side put_start put_point
  ends-destination =
      ends-put_edge-other one-half e s.edges_taken e-other (origin_half s.points_taken s.edges_taken (edge_of s e))
      ∙ ends-put_edge s room s.edges_taken h-below destination_ends
      (record { face = (side s (lft e)).face; acw = (side s (lft e)).acw; cw = e })
      (record { face = (side s (rgt e)).face; acw = e; cw = (side s (rgt e)).cw })

  -- ---- other edges

  pub ends-split-other : (i : ℕ) → i ≢ e → i ≢ s.edges_taken → ends (split_edge e s) i ≡ ends s i
  unfolding split_edge ends put_start put_point
  ends-split-other i a b =
      ends-put_edge-other one-half e i a (origin_half s.points_taken s.edges_taken (edge_of s e))
      ∙ ends-put_edge-other s s.edges_taken i b (destination_half s.points_taken e (edge_of s e))

  pub side-split-other : (d : Dart ℕ) → edge d ≢ e → edge d ≢ s.edges_taken → side (split_edge e s) d ≡ side s d
  side-split-other d a b =
      seen d
      ∙ side-put_edge-other one-half e d a (origin_half s.points_taken s.edges_taken (edge_of s e))
      ∙ side-put_edge-other s s.edges_taken d b (destination_half s.points_taken e (edge_of s e))
    where
      seen : (d : Dart ℕ) → side (split_edge e s) d ≡ side both_halves d
      seen (lft i) = unfold split_edge side put_start put_point in refl
      seen (rgt i) = unfold split_edge side put_start put_point in refl

  -- ---- points and faces

  pub point-middle : point_of (split_edge e s) s.points_taken ≡ record { valence = 4; start = e; mark = 0 }
  unfolding split_edge ends point_of
  point-middle =
      point_of-put_start-other with-midpoint (ends s e).dest s.points_taken s.edges_taken (λ x. q-other (sym x))
      ∙ point_of-put_point both_halves both-room s.points_taken 4 e 0 p-below

  pub point-destination :
      point_of (split_edge e s) (ends s e).dest
      ≡ record { valence = (point_of s (ends s e).dest).valence; start = s.edges_taken; mark = (point_of s (ends s e).dest).mark }
  unfolding split_edge ends point_of put_edge
  point-destination =
      let q = (ends s e).dest in
      let o : point_of with-midpoint q ≡ point_of s q = point_of-put_point-other both_halves s.points_taken q 4 e 0 q-other in
      point_of-put_start with-midpoint mid-room q s.edges_taken q-below
      ∙ ap (λ (w : PointWords). record { valence = w.valence; start = s.edges_taken; mark = w.mark }) o

  pub point-split-other : (i : ℕ) → i ≢ (ends s e).dest → i ≢ s.points_taken → point_of (split_edge e s) i ≡ point_of s i
  unfolding split_edge ends point_of put_edge
  point-split-other i a b =
      point_of-put_start-other with-midpoint (ends s e).dest i s.edges_taken a
      ∙ point_of-put_point-other both_halves s.points_taken i 4 e 0 b

pub face_of-split : (s : State) (e f : ℕ) → face_of (split_edge e s) f ≡ face_of s f
unfolding split_edge face_of put_start put_point put_edge
face_of-split s e f = refl
