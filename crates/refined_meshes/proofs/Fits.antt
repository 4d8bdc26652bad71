-- Every row that the visits store fits into the scratch tables, and after the last visit all rows are taken. Assumes nothing.
--     visits-fit, all-taken       the claims
use mathlib.Core.Path.{◌≡◌, ◌∙◌, ap}
use mathlib.Core.List.{List}
use Prim.Native.Nat.{ℕ, ◌+◌, ◌-◌, ◌*◌, ◌≤◌, ◌<◌}
use native.Mathlib.Omega.{arith}
use lib.ListN.{get_or}
use borrow.Author.Tests.{ne_eqb}
use Rattle.closed_meshes.specs.Mesh.{MeshOver, edge, first}
use Rattle.closed_meshes.specs.Closed.{Closed}
use Rattle.closed_meshes.specs.Refinement.{mid, face_point, join, first_half, second_half}
use Rattle.closed_meshes.specs.Renumbering.{Bijection, Row}
use Rattle.tables.specs.Mesh.{Mesh}
use Rattle.audited_meshes.specs.Walks.{edges_of, passed, face_walk, first_point}
use Rattle.audited_meshes.specs.Rows.{Stands}
use Rattle.refined_meshes.specs.State.{State, edge_of, take_rows, copied}
use Rattle.refined_meshes.specs.Ring.{Ring}
use Rattle.refined_meshes.specs.Visits.{found_on, ring_of, visits, refined_rows}
use Rattle.refined_meshes.specs.Fits.{split_some, ring_at, VisitFits, VisitsFit, AllTaken}
use Rattle.refined_meshes.proofs.Places.{dart_at}
use Rattle.refined_meshes.proofs.Leads.{when, when-from}
use Rattle.refined_meshes.proofs.Numbering.{point_no, edge_no, face_no, point_no-fits, edge_no-fits, face_no-fits, points-counted, edges-counted, faces-counted}
use Rattle.refined_meshes.proofs.Splits.{Splitting, splitting-some, split_rows}
use Rattle.refined_meshes.proofs.Ring.{RingIs}
use Rattle.refined_meshes.proofs.Perimeters.{perimeter-size, perimeter-edge}
use Rattle.refined_meshes.proofs.Visits.{Arriving, splitting-begun, ring-read}
use Rattle.refined_meshes.proofs.Orders.{order_of, order_of-from}
use Rattle.refined_meshes.proofs.Runs.{Rooms, rooms-of, arriving, face_at_turn}

module _
    (m : Mesh) {np ne nf : ℕ} {t : MeshOver (Row np) (Row ne) (Row nf)} (stands : Stands m t) (c : Closed t) (order : Bijection (Row nf) (Row nf))
    (f : Row nf) (s : State) (h : Arriving m stands c order (when c order f) s) (less : nf ≤ 2 * ne)
  where
    abbrev es : List ℕ
    es = edges_of (face_walk m ne f.0)

    abbrev n : ℕ
    n = passed (face_walk m ne f.0)

    size : n ≡ c.size f
    size = perimeter-size m stands c f

    edge_at : (i : ℕ) → i < c.size f → get_or es i 0 ≡ (edge (dart_at c f i)).0
    edge_at = perimeter-edge m stands c f

    splitting : (i : ℕ) → i ≤ c.size f → Splitting m c order (when c order f) i (split_some m np ne f.0 i s)
    splitting i l =
        splitting-some m c order f es i l edge_at (take_rows 1 0 0 s) (splitting-begun m stands c order f es edge_at s h)

    rows_fit : (i : ℕ) → i < n → (edge_of (split_some m np ne f.0 i s) (get_or es i 0)).dest < np
        → ((split_some m np ne f.0 i s).points_taken < np + ne + nf) × ((split_some m np ne f.0 i s).edges_taken < 4 * ne)
    rows_fit i l q =
        let b : i < c.size f = rw (← size) l in
        split_rows m c order f i b (split_some m np ne f.0 i s) (splitting i (omega arith)) (rw (← edge_at i b) q)

    all : State
    all = split_some m np ne f.0 (c.size f) s

    after : Splitting m c order (when c order f) (c.size f) all
    unfolding all
    after = splitting (c.size f) (omega arith)

    abbrev ring : Ring
    ring = ring_of m f.0 es (c.size f) s.points_taken (found_on es (c.size f) s) all

    read : RingIs m c order ring f
    read = ring-read m stands c order f es edge_at s all h after

    ring-is : ring_at m np ne f.0 s ≡ ring
    unfolding all
    ring-is = ap (λ k. ring_of m f.0 es k s.points_taken (found_on es k s) (split_some m np ne f.0 k s)) size

    last : c.size f - 1 < c.size f
    last = omega (arith, c.size_low f)

    joins-below : ring.joins_from + c.size f ≤ 4 * ne
    joins-below =
        let q : ring.joins_from + (c.size f - 1) ≡ edge_no c order (join (dart_at c f (c.size f - 1))) =
        read.join_is (c.size f - 1) last in
        omega (arith, c.size_low f, edge_no-fits c order (join (dart_at c f (c.size f - 1))))

    faces-below : ring.faces_from + (c.size f - 1) ≤ 2 * ne
    faces-below =
        let z : ¬ (c.size f - 1 ≡ 0) = omega (arith, c.size_low f) in
        let q : ring.faces_from + (c.size f - 1 - 1) ≡ face_no c order (dart_at c f (c.size f - 1)) =
        rw (ne_eqb (c.size f - 1) 0 z) at (read.face-is (c.size f - 1) last) in
        omega (arith, c.size_low f, face_no-fits c order (dart_at c f (c.size f - 1)))

    visit-fits : VisitFits m np ne nf f.0 s
    visit-fits =
        record {
          face-below = f.1;
          faces-less = less;
          size_low = rw size (c.size_low f);
          size-high = rw size (c.size-high f);
          edge-below = λ i l. rw (edge_at i (rw (← size) l)) (edge (dart_at c f i)).1;
          room = h.content.room;
          centre-fits = rw (centre-row) (point_no-fits c order (face_point f));
          split-room = λ i l. (splitting i (rw (← size) l)).content.room;
          mid-fits = λ i l q. (rows_fit i l q).0;
          half-fits = λ i l q. (rows_fit i l q).1;
          joins-fit = rw (ring-is, size) joins-below;
          faces-fit = rw (ring-is, size) faces-below;
          first_fits = λ i l. rw (ring-is, read.first-is i (rw (← size) l)) (edge_no-fits c order (first_half (dart_at c f i)));
          second_fits = λ i l. rw (ring-is, read.second_is i (rw (← size) l)) (edge_no-fits c order (second_half (dart_at c f i)));
          mids-fit = λ i l. rw (ring-is, read.mid-is i (rw (← size) l)) (point_no-fits c order (mid (edge (dart_at c f i))));
          points-fit = λ i l. rw (points-read i (rw (← size) l)) (first t (dart_at c f i)).1;
        }
      where
        centre-row : s.points_taken ≡ point_no c order (face_point f)
        centre-row = unfold ring_of in read.centre-is

        points-read : (i : ℕ) → i < c.size f → first_point m f.0 (get_or es i 0) ≡ (first t (dart_at c f i)).0
        points-read i l = unfold ring_of in read.point-is i l

pub visits-fit : VisitsFit
visits-fit m np ne nf h order once u pr er fr k l =
    let r : Rooms m np ne nf u = rooms-of m h order once u pr er fr in
    let f : Row nf = face_at_turn r h.stands h.closed order once k l in
    let w : when h.closed (order_of order once) f ≡ k = when-from h.closed (order_of order once) (k, l) in
    let a = arriving r h.stands h.closed order once k (omega arith) in
    rw (← order_of-from order once (k, l))
    (visit-fits m h.stands h.closed (order_of order once) f (visits m np ne k order (copied m np ne nf u)) (rw w a) r.faces-less)

pub all-taken : AllTaken
unfolding refined_rows
all-taken m np ne nf h order once u pr er fr =
    let r : Rooms m np ne nf u = rooms-of m h order once u pr er fr in
    let a = arriving r h.stands h.closed order once nf (omega arith) in
    record {
      points-taken = a.points-taken ∙ points-counted h.closed (order_of order once);
      edges-taken = a.edges-taken ∙ edges-counted h.closed (order_of order once);
      faces-taken = a.faces-taken ∙ faces-counted h.closed (order_of order once);
      room = a.content.room;
    }
