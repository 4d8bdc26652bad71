-- The visits from a copy of the mesh's rows on: the invariant holds before each of them, and after the last. Assumes nothing.
--     rooms                   scratch tables with rows enough have room for all rows
--     begun                   the invariant before the first visit
--     arriving                the invariant before turn k
use mathlib.Core.Path.{◌≡◌, refl, sym, ◌∙◌, ap, subst}
use mathlib.Core.List.{List}
use mathlib.Core.Logic.{inl, inr}
use Prim.Native.Nat.{ℕ, zero, suc, ◌+◌, ◌*◌, ◌≤◌, ◌<◌}
use native.Mathlib.Nat.{add-zero}
use native.Mathlib.Omega.{arith}
use lib.ListN.{length, get_or, take, drop, get_or-append}
use lib.Seq.{get_or-take, length-take-le}
use lib.Ieee.{nan}
use Rattle.closed_meshes.specs.Mesh.{MeshOver, edge}
use Rattle.closed_meshes.specs.Closed.{Closed}
use Rattle.closed_meshes.specs.Refinement.{org}
use Rattle.closed_meshes.specs.Renumbering.{Bijection, Row, sum_to}
use Rattle.tables.specs.Mesh.{Mesh, point_rows, edge_rows, face_rows}
use Rattle.tables.specs.Rows.{over}
use Rattle.tables.proofs.Laws.{length_over}
use Rattle.audited_meshes.specs.Walks.{edges_of, passed, face_walk}
use Rattle.audited_meshes.specs.Rows.{Stands, HoldsClosed}
use Rattle.refined_meshes.specs.State.{State, copied}
use Rattle.refined_meshes.specs.Order.{EachOnce}
use Rattle.refined_meshes.specs.Visits.{visits, visit, visit_along}
use Rattle.refined_meshes.specs.Fits.{RoomFor}
use Rattle.refined_meshes.proofs.Places.{dart_at, place, face-dart_at, place-dart_at}
use Rattle.refined_meshes.proofs.Leads.{when, when-from}
use Rattle.refined_meshes.proofs.Numbering.{points_before, edges_before, faces_before, edge_no, face_no, face_no-first, face_no-fits}
use Rattle.refined_meshes.proofs.Words.{ends, point_of}
use Rattle.refined_meshes.proofs.Target.{ends_old}
use Rattle.refined_meshes.proofs.Turns.{turns-keep}
use Rattle.refined_meshes.proofs.Splits.{Past}
use Rattle.refined_meshes.proofs.Perimeters.{perimeter-size, perimeter-edge}
use Rattle.refined_meshes.proofs.Visits.{Arriving, arriving-along}
use Rattle.refined_meshes.proofs.Orders.{order_of, order_of-from}

-- What is copied stands there.
get_d_over : {A : Type 0} (n : ℕ) (new xs : List A) (d : A) (i : ℕ) → i < n → n ≤ length new → get_or (over n new xs) i d ≡ get_or new i d
unfolding over
get_d_over n new xs d i h l =
    get_or-append (take n new) (drop n xs) d i (rw (length-take-le n new l) h) ∙ get_or-take n new i d h

-- the rows that the mesh m has, and those that the tables u have
pub record Rooms (m : Mesh) (np ne nf : ℕ) (u : Mesh) : Type 0 where
  pub points-fit : np ≤ point_rows m
  pub edges_fit : ne ≤ edge_rows m
  pub faces-fit : nf ≤ face_rows m
  pub points-room : np + ne + nf ≤ point_rows u
  pub edges_room : 4 * ne ≤ edge_rows u
  pub faces-room : 2 * ne ≤ face_rows u
  -- there are no more faces than new ones
  pub faces-less : nf ≤ 2 * ne

module _ {m : Mesh} {np ne nf : ℕ} {u : Mesh} (r : Rooms m np ne nf u) where
  points-copied : (np * 3 ≤ length m.points) × ((np + ne + nf) * 3 ≤ length u.points) × (np * 3 ≤ length u.points)
  points-copied = omega (arith, r)

  edges-copied : (ne * 8 ≤ length m.edges) × (4 * ne * 8 ≤ length u.edges) × (ne * 8 ≤ length u.edges)
  edges-copied = omega (arith, r)

  intervals-copied : (ne ≤ length m.intervals) × (4 * ne ≤ length u.intervals) × (ne ≤ length u.intervals)
  intervals-copied = omega (arith, r)

  faces-copied : (nf * 5 ≤ length m.faces) × (2 * ne * 5 ≤ length u.faces) × (nf * 5 ≤ length u.faces)
  faces-copied = omega (arith, r)

  pub rooms : RoomFor np ne nf (copied m np ne nf u)
  unfolding copied
  rooms =
      record {
        points-room = rw (length_over (np * 3) m.points u.points points-copied.0 points-copied.2) points-copied.1;
        edges_room = rw (length_over (ne * 8) m.edges u.edges edges-copied.0 edges-copied.2) edges-copied.1;
        intervals-room = rw (length_over ne m.intervals u.intervals intervals-copied.0 intervals-copied.2) intervals-copied.1;
        faces-room = rw (length_over (nf * 5) m.faces u.faces faces-copied.0 faces-copied.2) faces-copied.1;
      }

  module _ {t : MeshOver (Row np) (Row ne) (Row nf)} (stands : Stands m t) (c : Closed t) (order : Bijection (Row nf) (Row nf)) where
    abbrev start-state : State
    start-state = copied m np ne nf u

    edge-word : (e : Row ne) (j : ℕ) → j < 8 → get_or start-state.edges (e.0 * 8 + j) 0 ≡ get_or m.edges (e.0 * 8 + j) 0
    unfolding copied
    edge-word e j l = get_d_over (ne * 8) m.edges u.edges 0 (e.0 * 8 + j) (omega (arith, e.1)) edges-copied.0

    point-word : (p : Row np) (j : ℕ) → j < 3 → get_or start-state.points (p.0 * 3 + j) 0 ≡ get_or m.points (p.0 * 3 + j) 0
    unfolding copied
    point-word p j l = get_d_over (np * 3) m.points u.points 0 (p.0 * 3 + j) (omega (arith, p.1)) points-copied.0

    first-edge-word : (e : Row ne) → get_or start-state.edges (e.0 * 8) 0 ≡ get_or m.edges (e.0 * 8) 0
    first-edge-word e =
        ap (λ k. get_or start-state.edges k 0) (sym (add-zero _)) ∙ edge-word e 0 (omega arith) ∙ ap (λ k. get_or m.edges k 0) (add-zero _)

    first-point-word : (p : Row np) → get_or start-state.points (p.0 * 3) 0 ≡ get_or m.points (p.0 * 3) 0
    first-point-word p =
        ap (λ k. get_or start-state.points k 0) (sym (add-zero _)) ∙ point-word p 0 (omega arith) ∙ ap (λ k. get_or m.points k 0) (add-zero _)

    interval-copied : (e : Row ne) → get_or start-state.intervals e.0 nan ≡ get_or m.intervals e.0 nan
    unfolding copied
    interval-copied e = get_d_over ne m.intervals u.intervals nan e.0 e.1 intervals-copied.0

    none-past : (e : Row ne) → ¬ Past c order 0 0 e
    none-past e (inl l) = omega arith
    none-past e (inr l) = omega (arith, l.1)

    whole-copied : (e : Row ne) → ends start-state (edge_no c order (org e)) ≡ ends_old m c order e
    unfolding ends ends_old edge_no
    whole-copied e =
        λ i.
        record {
          origin = (first-edge-word e ∙ stands.origin-stands e) i;
          dest = (edge-word e 1 (omega arith) ∙ stands.dest-stands e) i;
          interval = interval-copied e i;
        }

    pub begun : Arriving m stands c order 0 start-state
    begun =
        record {
          content =
              record {
                room = rooms;
                whole = λ e n. whole-copied e;
                origin-half = λ e x. absurd (none-past e x);
                destination-half = λ e x. absurd (none-past e x);
                linked = λ d x l. absurd (none-past (edge d) x);
                done = λ d l. absurd (omega arith);
                middle = λ e x. absurd (none-past e x);
                centre = λ f l. absurd (omega arith);
                old-point =
                    λ p.
                    record {
                      valence-kept = unfold point_of in (first-point-word p ∙ stands.valence-stands p);
                      mark-kept = unfold point_of in point-word p 2 (omega arith);
                      start-found =
                          inl
                          (record {
                            none-split = λ e q x. none-past e x;
                            start-kept = unfold point_of in (point-word p 1 (omega arith) ∙ stands.start-stands p);
                          });
                    };
              };
          points-taken = unfold copied points_before sum_to in sym (add-zero np);
          edges-taken = unfold copied edges_before sum_to in sym (add-zero ne);
          faces-taken = unfold copied faces_before sum_to in sym (add-zero nf);
        }

  module _ {t : MeshOver (Row np) (Row ne) (Row nf)} (stands : Stands m t) (c : Closed t) (order : List ℕ) (once : EachOnce nf order) where
    abbrev by-turns : Bijection (Row nf) (Row nf)
    by-turns = order_of order once

    -- the face of turn k
    abbrev pub face_at_turn : (k : ℕ) → k < nf → Row nf
    face_at_turn k l = by-turns.from (k, l)

    pub arriving-visit :
        (k : ℕ) (s : State) → k < nf → Arriving m stands c by-turns k s → Arriving m stands c by-turns (suc k) (visit m np ne (get_or order k 0) s)
    unfolding visit
    arriving-visit k s l h =
        let f : Row nf = face_at_turn k l in
        let w : when c by-turns f ≡ k = when-from c by-turns (k, l) in
        let q : get_or order k 0 ≡ f.0 = sym (order_of-from order once (k, l)) in
        let h' : Arriving m stands c by-turns (when c by-turns f) s = rw w h in
        let g = arriving-along m stands c by-turns f (edges_of (face_walk m ne f.0)) (perimeter-edge m stands c f) s h' in
        subst (λ x. Arriving m stands c by-turns (suc x) (visit_along m np (get_or order k 0) (edges_of (face_walk m ne (get_or order k 0))) (passed (face_walk m ne (get_or order k 0))) s)) w
        (rw (q, perimeter-size m stands c f) g)

    pub arriving : (k : ℕ) → k ≤ nf → Arriving m stands c by-turns k (visits m np ne k order (copied m np ne nf u))
    unfolding visits
    arriving k l =
        turns-keep k (λ i. visit m np ne (get_or order i 0)) (λ i s. Arriving m stands c by-turns i s)
        (λ i s b h. arriving-visit i s (omega arith) h) (copied m np ne nf u) (begun stands c by-turns)

-- The faces are no more than the new ones.
faces-less : {np ne nf : ℕ} {t : MeshOver (Row np) (Row ne) (Row nf)} (c : Closed t) (order : Bijection (Row nf) (Row nf)) → nf ≤ 2 * ne
faces-less {np} {ne} {nf} {t} c order = go nf refl
  where
    go : (k : ℕ) → nf ≡ k → nf ≤ 2 * ne
    go zero q = omega arith
    go (suc k) q =
        let f : Row nf = (k, omega arith) in
        let z : place c (dart_at c f 0) ≡ 0 = place-dart_at c f 0 (omega (arith, c.size_low f)) in
        let w : face_no c order (dart_at c f 0) ≡ k =
        face_no-first c order (dart_at c f 0) z ∙ ap (λ x. x.0) (face-dart_at c f 0) in
        omega (arith, face_no-fits c order (dart_at c f 0))

module _ (m : Mesh) {np ne nf : ℕ} (h : HoldsClosed m np ne nf) (order : List ℕ) (once : EachOnce nf order) where
  pub rooms-of :
      (u : Mesh) → np + ne + nf ≤ point_rows u → 4 * ne ≤ edge_rows u → 2 * ne ≤ face_rows u → Rooms m np ne nf u
  rooms-of u pr er fr =
      record {
        points-fit = h.fit.points-fit;
        edges_fit = h.fit.edges_fit;
        faces-fit = h.fit.faces-fit;
        points-room = pr;
        edges_room = er;
        faces-room = fr;
        faces-less = faces-less h.closed (order_of order once);
      }
