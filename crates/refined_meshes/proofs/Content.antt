-- What stands in the scratch tables while faces are visited: the invariant of the visits. Assumes nothing.
--     link s d              the other half of d's edge, as the row that keeps the origin half links to it on d's side
--     Done s d              what belongs to the dart d stands as at the end
--     OldPoint S s p        the old point p, where the edges S are split
--     Content S k s         the edges S are split and the faces of the turns before k are visited
--     content-same          which edges are split may be said in other words
--     content-taken         taking rows keeps it
use mathlib.Core.Path.{◌≡◌, refl, ◌∙◌, ap}
use mathlib.Core.Logic.{◌⊎◌, inl, inr}
use Prim.Native.Nat.{ℕ, ◌≤◌, ◌<◌}
use Rattle.closed_meshes.specs.Mesh.{MeshOver, Dart, lft, rgt, edge, face}
use Rattle.closed_meshes.specs.Closed.{Closed}
use Rattle.closed_meshes.specs.Refinement.{mid, face_point, org, dst, join}
use Rattle.closed_meshes.specs.Renumbering.{Bijection, Row}
use Rattle.closed_meshes.proofs.NewDarts.{start-half, end-half, inward, outward}
use Rattle.tables.specs.Mesh.{Mesh, mark}
use Rattle.refined_meshes.specs.State.{State, take_rows}
use Rattle.refined_meshes.specs.Fits.{RoomFor}
use Rattle.refined_meshes.proofs.Leads.{when}
use Rattle.refined_meshes.proofs.Numbering.{point_no, edge_no, face_no}
use Rattle.refined_meshes.proofs.Words.{ends, side, point_of, face_of}
use Rattle.refined_meshes.proofs.Target.{ends_old, ends_at, first_side, second_side, out_side, in_side, mid_at, centre_at, face_at, row_of}

module _ (m : Mesh) {np ne nf : ℕ} {t : MeshOver (Row np) (Row ne) (Row nf)} (c : Closed t) (order : Bijection (Row nf) (Row nf)) where
  unfoldable pub link : State → Dart (Row ne) → ℕ
  link s (lft e) = (side s (lft e.0)).acw
  link s (rgt e) = (side s (rgt e.0)).cw

  pub record Done (s : State) (d : Dart (Row ne)) : Type 0 where
    pub join-ends : ends s (edge_no c order (join d)) ≡ ends_at m c order (join d)
    pub first-half : side s (row_of c order (start-half d)) ≡ first_side c order d
    pub second-half : side s (row_of c order (end-half d)) ≡ second_side c order d
    pub join-left : side s (row_of c order (outward d)) ≡ out_side c order d
    pub join-right : side s (row_of c order (inward d)) ≡ in_side c order d
    pub new-face : face_of s (face_no c order d) ≡ face_at c order d

  -- the start edge of p is its latest destination half
  pub record Latest (S : Row ne → Type 0) (s : State) (p : Row np) : Type 0 where
    pub last : Row ne
    pub ends-here : t.dest last ≡ p
    pub is-split : S last
    pub start_is : (point_of s p.0).start ≡ edge_no c order (dst last)
    pub latest : (e : Row ne) → t.dest e ≡ p → S e → edge_no c order (dst e) ≤ edge_no c order (dst last)

  -- no destination half ends in p, and its start edge is the old one
  pub record Unchanged (S : Row ne → Type 0) (s : State) (p : Row np) : Type 0 where
    pub none-split : (e : Row ne) → t.dest e ≡ p → ¬ S e
    pub start-kept : (point_of s p.0).start ≡ (t.start p).0

  pub record OldPoint (S : Row ne → Type 0) (s : State) (p : Row np) : Type 0 where
    pub valence-kept : (point_of s p.0).valence ≡ t.valence p
    pub mark-kept : (point_of s p.0).mark ≡ mark m p.0
    pub start-found : Unchanged S s p ⊎ Latest S s p

  pub record Content (S : Row ne → Type 0) (k : ℕ) (s : State) : Type 0 where
    pub room : RoomFor np ne nf s
    pub whole : (e : Row ne) → ¬ S e → ends s (edge_no c order (org e)) ≡ ends_old m c order e
    pub origin-half : (e : Row ne) → S e → ends s (edge_no c order (org e)) ≡ ends_at m c order (org e)
    pub destination-half : (e : Row ne) → S e → ends s (edge_no c order (dst e)) ≡ ends_at m c order (dst e)
    -- an edge that is split links to its other half on the sides of faces to come
    pub linked : (d : Dart (Row ne)) → S (edge d) → k ≤ when c order (face t d) → link s d ≡ edge_no c order (dst (edge d))
    pub done : (d : Dart (Row ne)) → when c order (face t d) < k → Done s d
    pub middle : (e : Row ne) → S e → point_of s (point_no c order (mid e)) ≡ mid_at c order e
    pub centre : (f : Row nf) → when c order f < k → point_of s (point_no c order (face_point f)) ≡ centre_at c order f
    pub old-point : (p : Row np) → OldPoint S s p

  -- Which edges are split may be said in other words.
  pub content-same : {S S' : Row ne → Type 0} {k : ℕ} {s : State} → ((e : Row ne) → S e → S' e) → ((e : Row ne) → S' e → S e) → Content S k s → Content S' k s
  content-same {S} {S'} {k} {s} to from h =
      record {
        room = h.room;
        whole = λ e n. h.whole e (λ x. n (to e x));
        origin-half = λ e x. h.origin-half e (from e x);
        destination-half = λ e x. h.destination-half e (from e x);
        linked = λ d x. h.linked d (from (edge d) x);
        done = h.done;
        middle = λ e x. h.middle e (from e x);
        centre = h.centre;
        old-point =
            λ p.
            record {
              valence-kept = (h.old-point p).valence-kept;
              mark-kept = (h.old-point p).mark-kept;
              start-found = start p (h.old-point p).start-found;
            };
      }
    where
      start : (p : Row np) → Unchanged S s p ⊎ Latest S s p → Unchanged S' s p ⊎ Latest S' s p
      start p (inl u) = inl (record { none-split = λ e x y. u.none-split e x (from e y); start-kept = u.start-kept })
      start p (inr l) =
          inr
          (record {
            last = l.last;
            ends-here = l.ends-here;
            is-split = to l.last l.is-split;
            start_is = l.start_is;
            latest = λ e x y. l.latest e x (from e y);
          })

  -- Taking rows changes no word.
  taken-point : (p e f : ℕ) (s : State) (i : ℕ) → point_of (take_rows p e f s) i ≡ point_of s i
  unfolding point_of
  taken-point p e f s i = refl

  pub content-taken : {S : Row ne → Type 0} {k : ℕ} {s : State} (p e f : ℕ) → Content S k s → Content S k (take_rows p e f s)
  content-taken {S} {k} {s} p e f h =
      record {
        room =
            record {
              points-room = h.room.points-room;
              edges_room = h.room.edges_room;
              intervals-room = h.room.intervals-room;
              faces-room = h.room.faces-room;
            };
        whole = λ i n. ends-taken _ ∙ h.whole i n;
        origin-half = λ i x. ends-taken _ ∙ h.origin-half i x;
        destination-half = λ i x. ends-taken _ ∙ h.destination-half i x;
        linked = λ d x l. link-taken d ∙ h.linked d x l;
        done =
            λ d l.
            let o = h.done d l in
            record {
              join-ends = ends-taken _ ∙ o.join-ends;
              first-half = side-taken _ ∙ o.first-half;
              second-half = side-taken _ ∙ o.second-half;
              join-left = side-taken _ ∙ o.join-left;
              join-right = side-taken _ ∙ o.join-right;
              new-face = (unfold face_of in o.new-face);
            };
        middle = λ i x. point-taken _ ∙ h.middle i x;
        centre = λ g l. point-taken _ ∙ h.centre g l;
        old-point =
            λ q.
            let o = h.old-point q in
            record {
              valence-kept = ap (λ x. x.valence) (point-taken _) ∙ o.valence-kept;
              mark-kept = ap (λ x. x.mark) (point-taken _) ∙ o.mark-kept;
              start-found = start q o.start-found;
            };
      }
    where
      ends-taken : (i : ℕ) → ends (take_rows p e f s) i ≡ ends s i
      ends-taken i = unfold ends in refl

      side-taken : (d : Dart ℕ) → side (take_rows p e f s) d ≡ side s d
      side-taken (lft i) = unfold side in refl
      side-taken (rgt i) = unfold side in refl

      point-taken : (i : ℕ) → point_of (take_rows p e f s) i ≡ point_of s i
      point-taken = taken-point p e f s

      link-taken : (d : Dart (Row ne)) → link (take_rows p e f s) d ≡ link s d
      link-taken (lft i) = unfold link side in refl
      link-taken (rgt i) = unfold link side in refl

      start : (q : Row np) → Unchanged S s q ⊎ Latest S s q → Unchanged S (take_rows p e f s) q ⊎ Latest S (take_rows p e f s) q
      start q (inl u) = inl (record { none-split = u.none-split; start-kept = ap (λ x. x.start) (point-taken _) ∙ u.start-kept })
      start q (inr l) =
          inr
          (record {
            last = l.last;
            ends-here = l.ends-here;
            is-split = l.is-split;
            start_is = ap (λ x. x.start) (point-taken _) ∙ l.start_is;
            latest = l.latest;
          })
