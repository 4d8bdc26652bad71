-- Every visit of a closed mesh finds its rows and has room, where the scratch tables have the rows of the refined mesh and it is below
-- the ceilings. Assumes nothing.
--     holds-of-closed     the tables of a mesh hold its rows
--     holds-of-rows       tables with the rows of the refined mesh hold those of the mesh
--     fits-of-closed      every visit fits
use mathlib.Core.List.{List}
use Prim.Native.Nat.{ℕ, ◌+◌, ◌*◌, ◌≤◌}
use native.Mathlib.Omega.{arith}
use lib.ListN.{get_or}
use Rattle.tables.specs.Mesh.{Mesh, point_rows, edge_rows, face_rows}
use Rattle.audited_meshes.specs.Walks.{face_walk}
use Rattle.audited_meshes.specs.Rows.{HoldsClosed}
use Rattle.refined_meshes.specs.State.{State, copied}
use Rattle.refined_meshes.specs.Order.{EachOnce}
use Rattle.refined_meshes.specs.Visits.{ring_of, visits}
use Rattle.refined_meshes.specs.Fits.{VisitFits}
use Rattle.refined_meshes.proofs.Fits.{visits-fit}
use Rattle.refined_meshes.proofs.Runs.{rooms-of}
use Rattle.visiting.specs.Visiting.{bare, RowsThere, Ceilings, EachVisitFits}
use Rattle.visiting.proofs.Laws.{visits-bare}

-- what a visit needs concerns the mesh's edges and faces alone
visit_fits-bare : (m : Mesh) (np ne nf f : ℕ) (s : State) → VisitFits m np ne nf f s → VisitFits (bare m) np ne nf f s
unfolding face_walk ring_of
visit_fits-bare m np ne nf f s h =
    record {
      face-below = h.face-below;
      faces-less = h.faces-less;
      size_low = h.size_low;
      size-high = h.size-high;
      edge-below = h.edge-below;
      room = h.room;
      centre-fits = h.centre-fits;
      split-room = h.split-room;
      mid-fits = h.mid-fits;
      half-fits = h.half-fits;
      joins-fit = h.joins-fit;
      faces-fit = h.faces-fit;
      first_fits = h.first_fits;
      second_fits = h.second_fits;
      mids-fit = h.mids-fit;
      points-fit = h.points-fit;
    }

module _ (m : Mesh) (np ne nf : ℕ) (h : HoldsClosed m np ne nf) where
  pub holds-of-closed : RowsThere m np ne nf
  holds-of-closed = record {
    points = omega (arith, h.fit.points-fit);
    edges = omega (arith, h.fit.edges_fit);
    intervals = omega (arith, h.fit.edges_fit);
    faces = omega (arith, h.fit.faces-fit);
  }

  module _ (order : List ℕ) (once : EachOnce nf order) (t : Mesh)
      (p : np + ne + nf ≤ point_rows t) (e : 4 * ne ≤ edge_rows t) (f : 2 * ne ≤ face_rows t) where
    pub holds-of-rows : RowsThere t np ne nf
    holds-of-rows =
        let less = (rooms-of m h order once t p e f).faces-less in
        record { points = omega arith; edges = omega arith; intervals = omega arith; faces = omega arith }

    pub fits-of-closed : Ceilings np ne nf → EachVisitFits (bare m) np ne nf order (copied m np ne nf t)
    fits-of-closed limits = record {
      ceilings = limits;
      edges = holds-of-closed.edges;
      faces = holds-of-closed.faces;
      ordered = omega (arith, once.as_many);
      each = λ k l.
          rw (visits-bare m np ne order (copied m np ne nf t) k)
          (visit_fits-bare m np ne nf (get_or order k 0) (visits m np ne k order (copied m np ne nf t)) (visits-fit m np ne nf h order once t p e f k l));
    }
