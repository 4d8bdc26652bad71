-- What the position rules ask of the tables holds of the rows that the visits make, and the parts of making put together.
-- Assumes nothing.
use mathlib.Core.Path.{◌≡◌, refl, sym, ◌∙◌, ap, ap₂}
use mathlib.Core.Bool.{Bool, true, false}
use mathlib.Core.List.{List, []}
use Prim.Native.Nat.{ℕ, ◌+◌, ◌*◌, ◌≤◌, ◌<◌}
use native.Mathlib.Omega.{arith}
use native.Mathlib.Decide.{dec_lt}
use lib.ListN.{length, get_or}
use lib.Ieee.{Float}
use Rattle.tables.specs.Mesh.{Mesh, none, start, dest, corner, mesh_of}
use Rattle.tables.specs.declared.Counts.{Counts}
use Rattle.audited_meshes.specs.Audited.{Audited}
use Rattle.audited_meshes.specs.Rows.{HoldsClosed}
use Rattle.audited_meshes.proofs.Audited.{audit-is-audited}
use Rattle.audited_meshes.proofs.Holds.{audit-is-closed}
use Rattle.closed_meshes.specs.Refinement.{mid, face_point}
use Rattle.tables.specs.Layout.{left_acw_word, right_cw_word}
use Rattle.tables.specs.Parts.{edge_tables, face_tables}
use Rattle.visiting.specs.Visiting.{RowsThere, EachVisitFits}
use Rattle.visiting.proofs.Fitting.{holds-of-closed, holds-of-rows, fits-of-closed}
use Rattle.refined_meshes.specs.declared.Edition.{Edition}
use Rattle.refined_meshes.specs.declared.Edition.TheVariants.{First, Second}
use Rattle.refined_meshes.specs.State.{State, state_of, with_positions, copied}
use Rattle.refined_meshes.specs.Fits.{RoomFor}
use Rattle.refined_meshes.specs.Refines.{Refines}
use Rattle.refined_meshes.specs.Visits.{refined_rows}
use Rattle.refined_meshes.specs.Starts.{settled_starts, points_of_edition}
use Rattle.refined_meshes.specs.Settled.{neighbour_at, intervals_of_edition, settled, settled_rows}
use Rattle.refined_meshes.proofs.Refines.{first-refines}
use Rattle.refined_meshes.proofs.Fits.{all-taken}
use Rattle.refined_meshes.proofs.Starts.{joins-below}
use Rattle.settling_starts.specs.Fits.{HalfFits, StartsFit}
use Rattle.steps.proofs.SameRefinement.{faces-fewer}
use Rattle.settling.specs.Settling.{SidesFit, edge_rows_of}
use Rattle.position_rules.specs.Fits.{EdgesFit, NewPointsFit}
use Rattle.position_rules.proofs.Audited.{edges_fit as rows_fit, face-point-fits, edge-point-fits, old-point-fits}
use Rattle.placing.specs.Placing.{came, FacePointsFit, EdgePointsFit, OldPointsFit, refined_tables}
use Rattle.edition_points.specs.Over.{MidRows}
use Rattle.steps.specs.Positions.{placed_all}
use Rattle.steps.specs.Step.{refined_counts, made_of, placed_rows, made}
use Rattle.steps.proofs.NewPositions.{PointRows}
use Rattle.steps.proofs.OneStep.{point-rows}
use Rattle.making.specs.Making.{Ready, made_as}

module _ (m : Mesh) (c : Counts) (order : List ℕ) (t : Mesh) (ready : Ready m c order t) where
  abbrev rows_made : State
  rows_made = refined_rows m c.points c.edges c.faces order t

  pub holds : HoldsClosed m c.points c.edges c.faces
  holds = (audit-is-closed m c.points c.edges c.faces).0 ready.closed

  audited : Audited m c.points c.edges c.faces
  audited = (audit-is-audited m c.points c.edges c.faces).0 ready.closed

  refines : (ps : List Float) → Refines First m holds.mesh holds.closed order (with_positions ps rows_made)
  refines ps =
      first-refines m c.points c.edges c.faces holds order ready.once t ready.points-room ready.edges_room ready.faces-room ps

  few-faces : c.faces ≤ none
  few-faces = omega (arith, ready.ceilings.points)

  -- What the visits ask: they look at no position.
  pub old-rows-hold : RowsThere (mesh_of [] m.points m.edges m.intervals m.faces) c.points c.edges c.faces
  old-rows-hold =
      let h = holds-of-closed m c.points c.edges c.faces holds in
      record { points = h.points; edges = h.edges; intervals = h.intervals; faces = h.faces }

  pub new-rows-hold : RowsThere (mesh_of [] t.points t.edges t.intervals t.faces) c.points c.edges c.faces
  new-rows-hold =
      let h = holds-of-rows m c.points c.edges c.faces holds order ready.once t ready.points-room ready.edges_room ready.faces-room in
      record { points = h.points; edges = h.edges; intervals = h.intervals; faces = h.faces }

  pub visits-fit :
      EachVisitFits (face_tables m.edges m.faces) c.points c.edges c.faces order
      (copied (mesh_of [] m.points m.edges m.intervals m.faces) c.points c.edges c.faces
      (mesh_of [] t.points t.edges t.intervals t.faces))
  unfolding copied
  visits-fit =
      fits-of-closed m c.points c.edges c.faces holds order ready.once t ready.points-room ready.edges_room ready.faces-room
      ready.ceilings

  -- What settling asks: the neighbours in the mesh, and the joining edges beside the rows of old edges.
  pub sides-fit : (s : State) → s ≡ rows_made → SidesFit m.edges m.intervals c.edges s.edges s.intervals
  sides-fit s same = rw same sides
    where
      fit : EdgesFit m.edges m.intervals c.edges
      fit = rows_fit m c.points c.edges c.faces audited

      room : RoomFor c.points c.edges c.faces rows_made
      room = (all-taken m c.points c.edges c.faces holds order ready.once t ready.points-room ready.edges_room ready.faces-room).room

      joins :
          (e : ℕ) → e < c.edges
          → (neighbour_at rows_made.edges left_acw_word e < 4 * c.edges) × (neighbour_at rows_made.edges right_cw_word e < 4 * c.edges)
      joins = joins-below m holds.stands holds.closed order rows_made [] (refines [])

      sides : SidesFit m.edges m.intervals c.edges rows_made.edges rows_made.intervals
      sides =
          record {
            left =
                record {
                  join-word = omega arith;
                  next_word = omega arith;
                  prev-word = omega arith;
                  rows = fit.words;
                  new-rows = omega (arith, room.edges_room);
                  next-there = λ e l. omega (arith, fit.left_acw-below e l, fit.numbers);
                  prev-there = λ e l. omega (arith, fit.left_cw-below e l, fit.numbers);
                  join-there = λ e l. omega (arith, (joins e l).0, room.intervals-room);
                };
            right =
                record {
                  join-word = omega arith;
                  next_word = omega arith;
                  prev-word = omega arith;
                  rows = fit.words;
                  new-rows = omega (arith, room.edges_room);
                  next-there = λ e l. omega (arith, fit.right_acw-below e l, fit.numbers);
                  prev-there = λ e l. omega (arith, fit.right_cw-below e l, fit.numbers);
                  join-there = λ e l. omega (arith, (joins e l).1, room.intervals-room);
                };
          }

  -- What the settling of start edges asks: the start edges in the mesh, and the rows of halves, midpoints and face points.
  pub starts_fit : (s : State) → s ≡ rows_made → StartsFit m.points m.edges m.faces c s.edges s.faces s.points
  starts_fit s same = rw same starts
    where
      fit : EdgesFit m.edges m.intervals c.edges
      fit = rows_fit m c.points c.edges c.faces audited

      room : RoomFor c.points c.edges c.faces rows_made
      room = (all-taken m c.points c.edges c.faces holds order ready.once t ready.points-room ready.edges_room ready.faces-room).room

      half : (e : ℕ) → e < c.edges → HalfFits rows_made.edges e
      half e l =
          record {
            row = omega (arith, room.edges_room);
            join = omega (arith, (joins-below m holds.stands holds.closed order rows_made [] (refines []) e l).0, room.edges_room);
          }

      starts : StartsFit m.points m.edges m.faces c rows_made.edges rows_made.faces rows_made.points
      starts =
          let r = refines [] in
          record {
            olds =
                record {
                  rows = omega (arith, room.points-room);
                  olds = λ p l.
                      record {
                        point-row = omega (arith, audited.points-fit);
                        edge_row = omega (arith, audited.start-in-range p l, fit.words);
                        half = half (start m p) (audited.start-in-range p l);
                      };
                };
            mids =
                record {
                  halves = half;
                  rows = λ e l. omega (arith, r.mid_row (e, l), (r.numbering.points.to (mid (e, l))).1, room.points-room);
                };
            centres =
                record {
                  centres = λ f l.
                      record {
                        face-row = omega (arith, audited.faces-fit);
                        edge_row = omega (arith, audited.face_start-in-range f l, fit.words);
                        new_row = omega (arith, audited.face_start-in-range f l, room.edges_room);
                      };
                  new-faces = omega (arith, faces-fewer r, room.faces-room);
                  rows = λ f l. omega (arith, r.centre-row (f, l), (r.numbering.points.to (face_point (f, l))).1, room.points-room);
                };
          }

  -- What the second edition asks of the rows of edge points: each edge has its own, behind those of the old points.
  pub mid-rows : (s : State) → s ≡ rows_made → MidRows c.points c.edges s.edges
  unfolding settled_rows settled
  mid-rows s same = rw same (record { behind = λ e l. not-old e l (dec_lt (get_or rows_made.edges (e * 8 + 1) 0) c.points); apart = rows.edge-edge })
    where
      rows : PointRows c (settled_rows First m c.points c.edges c.faces order t) (refined_counts c).points
      rows = point-rows First m c holds order t [] (refines [])

      not-old : (e : ℕ) → e < c.edges → Dec (get_or rows_made.edges (e * 8 + 1) 0 < c.points) → c.points ≤ get_or rows_made.edges (e * 8 + 1) 0
      not-old e l (yes b) = absurd (rows.edge-old e (get_or rows_made.edges (e * 8 + 1) 0) l b refl)
      not-old e l (no b) = omega arith

  -- The rows s that the visits made, their lengths, and the table of new positions.
  module _ (s : State) (same : s ≡ rows_made) (edges-there : c.edges * 8 ≤ length s.edges) (faces-there : c.faces * 5 ≤ length s.faces)
      (newpositions : List Float) (places-there : (c.points + c.edges + c.faces) * 3 ≤ length newpositions) where
    face-place : (f : ℕ) → f < c.faces → get_or s.faces (f * 5 + 1) 0 < c.points + c.edges + c.faces
    face-place f l =
        let r = refines newpositions in
        let row : corner (with_positions newpositions rows_made) f 0 ≡ (r.numbering.points.to (face_point (f, l))).0 = r.centre-row (f, l) in
        let at : get_or s.faces (f * 5 + 1) 0 ≡ (r.numbering.points.to (face_point (f, l))).0 = rw same row in
        omega (arith, (r.numbering.points.to (face_point (f, l))).1)

    edge-place : (e : ℕ) → e < c.edges → get_or s.edges (e * 8 + 1) 0 < c.points + c.edges + c.faces
    edge-place e l =
        let r = refines newpositions in
        let row : dest (with_positions newpositions rows_made) e ≡ (r.numbering.points.to (mid (e, l))).0 = r.mid_row (e, l) in
        let at : get_or s.edges (e * 8 + 1) 0 ≡ (r.numbering.points.to (mid (e, l))).0 = rw same row in
        omega (arith, (r.numbering.points.to (mid (e, l))).1)

    new-points-fit : (new : List Float) → length new ≡ length newpositions → NewPointsFit c.edges c.faces new s.edges s.faces
    new-points-fit new e =
        record {
          edge_row = λ i l. omega arith;
          edge-place = λ i l. omega (arith, edge-place i l);
          face-row = λ f l. omega arith;
          face-place = λ f l. omega (arith, face-place f l);
        }

    faces-fit : FacePointsFit m.positions m.edges m.intervals m.faces c.edges c.faces s.faces newpositions
    faces-fit =
        record {
          rule_fits = face-point-fits m c.points c.edges c.faces audited;
          row-there = λ f l. omega arith;
          place-there = λ f l. omega (arith, face-place f l);
        }

    edges_fit : EdgePointsFit m.positions m.edges m.intervals c.edges s.edges s.faces newpositions
    edges_fit =
        record {
          rule_fits = λ new e.
              edge-point-fits m c.points c.edges c.faces audited new s.edges s.faces (new-points-fit new e);
          row-there = λ i l. omega arith;
          place-there = λ i l. omega (arith, edge-place i l);
        }

    points-fit : OldPointsFit m.positions m.points m.edges m.intervals c.points s.edges s.faces newpositions
    points-fit =
        record {
          rule_fits = λ new e.
              old-point-fits m c.points c.edges c.faces audited new s.edges s.faces (new-points-fit new e) few-faces;
          place-there = λ p l. omega arith;
        }

  -- All three, of the table of new positions as it is handed in.
  pub places-fit : (s : State) → s ≡ rows_made → length s.edges ≡ length t.edges → length s.faces ≡ length t.faces
      → FacePointsFit m.positions m.edges m.intervals m.faces c.edges c.faces s.faces t.positions
      × EdgePointsFit m.positions m.edges m.intervals c.edges s.edges s.faces t.positions
      × OldPointsFit m.positions m.points m.edges m.intervals c.points s.edges s.faces t.positions
  places-fit s same es fs =
      let held = new-rows-hold in
      let edges-there : c.edges * 8 ≤ length s.edges = rw es held.edges in
      let faces-there : c.faces * 5 ≤ length s.faces = rw fs held.faces in
      let room = ready.points-room in
      let places-there : (c.points + c.edges + c.faces) * 3 ≤ length t.positions = omega (arith, room) in (
        faces-fit s same edges-there faces-there t.positions places-there,
        edges_fit s same edges-there faces-there t.positions places-there,
        points-fit s same edges-there faces-there t.positions places-there,
      )

-- The visits made the rows s, the intervals js and the points qs were settled, and the loops over the points came so far.
pub made-of-parts : (ed : Edition) (m : Mesh) (c : Counts) (order : List ℕ) (t : Mesh) (s : State) (js : List Float) (qs : List ℕ) (r : Bool) (ps : List Float)
    → s ≡ refined_rows m c.points c.edges c.faces order t
    → js ≡ intervals_of_edition ed (edge_tables m.edges m.intervals) c.edges (edge_rows_of s.edges s.intervals)
    → qs ≡ points_of_edition ed (mesh_of [] m.points m.edges [] m.faces) c.points c.edges c.faces (state_of s.points s.edges [] s.faces 0 0 0)
    → placed_all ed m c (refined_tables s.edges s.faces) t.positions ≡ came r ps
    → made ed m c order t ≡ made_as r (mesh_of ps qs s.edges js s.faces)
unfolding made placed_rows placed_all settled_rows settled settled_starts
made-of-parts ed m c order t s js qs r ps e i k p =
    ap (λ (q : State). made_of (settled_in ed q) (placed_all ed m c (settled_in ed q) t.positions)) (sym e)
    ∙ ap (made_of (settled_in ed s)) (placed_same ed ∙ p)
    ∙ ap₂ (λ (x : List Float) (y : List ℕ). made_of (rows_with x y) (came r ps)) (settled_same ed ∙ sym i) (starts-same ed ∙ sym k)
    ∙ last r
  where
    settled_in : Edition → State → State
    settled_in x q = settled x m c.points c.edges c.faces q

    -- the rows with these intervals and points
    rows_with : List Float → List ℕ → State
    rows_with x y = state_of y s.edges x s.faces s.points_taken s.edges_taken s.faces_taken

    -- The rules look at the tables of edges and faces alone,
    placed_same : (x : Edition) → placed_all x m c (settled_in x s) t.positions ≡ placed_all x m c (refined_tables s.edges s.faces) t.positions
    placed_same First = refl
    placed_same Second = refl

    -- and settling at those of edges and intervals,
    settled_same : (x : Edition)
        → intervals_of_edition x m c.edges s ≡ intervals_of_edition x (edge_tables m.edges m.intervals) c.edges (edge_rows_of s.edges s.intervals)
    settled_same First = refl
    settled_same Second = refl

    -- or of points, edges and faces.
    starts-same : (x : Edition)
        → points_of_edition x m c.points c.edges c.faces s
        ≡ points_of_edition x (mesh_of [] m.points m.edges [] m.faces) c.points c.edges c.faces (state_of s.points s.edges [] s.faces 0 0 0)
    starts-same First = refl
    starts-same Second = refl

    last : (x : Bool) → made_of (rows_with js qs) (came x ps) ≡ made_as x (mesh_of ps qs s.edges js s.faces)
    last true = refl
    last false = refl
