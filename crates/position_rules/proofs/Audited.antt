-- On a mesh that passes the audit all that the rules ask of the tables holds. Assumes nothing.
--     edges_fit                          the edges and their neighbours
--     common-below                       two consecutive edges about a point have a face in common
--     face-point-fits, edge-point-fits, old-point-fits      what the three rules ask
--     border-of                          the edges that the walk about a face passes
use mathlib.Core.Path.{◌≡◌, sym, ◌∙◌, subst}
use mathlib.Core.Bool.{Bool, true, false, ◌&&◌, cond}
use mathlib.Core.List.{List}
use mathlib.Core.Logic.{◌⊎◌, inl, inr}
use Prim.Native.Nat.{ℕ, ◌+◌, ◌*◌, ◌≤◌, ◌<◌}
use native.Mathlib.Omega.{arith}
use borrow.Author.Tests.{eq-eqb, ne_eqb}
use lib.Dec.{eqb, ltb}
use lib.ListN.{get_or, length}
use lib.Ieee.{Float}
use Rattle.t_spline.specs.Edge.{none, same_face, common_face}
use Rattle.tables.specs.Mesh.{Mesh, origin, dest, left_face, right_face, left_cw, right_cw, face_start}
use Rattle.tables.specs.Records.{edge_at}
use Rattle.audited_meshes.specs.Walks.{back, face_walk, borders, acw_of_face}
use Rattle.audited_meshes.specs.Audited.{EdgeInRange, FaceWalked, Audited}
use Rattle.audited_meshes.proofs.Audited.{on-face-is, face_walk-is}
use Rattle.walks.proofs.Back.{back_on}
use Rattle.position_rules.specs.Intervals.{acw_about}
use Rattle.position_rules.proofs.Turning.{border-turns, radial-back}
use Rattle.position_rules.specs.Fits.{EdgesFit, FacePointFits, EdgePointFits, NewPointsFit, OldPointFits}

-- the face that an edge with the faces l and r has in common with one with the faces l' and r'
shared : ℕ → ℕ → ℕ → ℕ → ℕ
shared l r l' r' = cond (same_face l l') l (cond (same_face l r') l (cond (same_face r l') r (cond (same_face r r') r none)))

module _ (l r l' r' nf : ℕ) (hl : l < nf) (hr : r < nf) (h : nf ≤ none) where
  same : (i j : ℕ) → i < nf → j ≡ i → same_face i j ≡ true
  same i j b e = rw (ne_eqb i none (λ n. omega arith)) (eq-eqb i j (sym e))

  either_left : (a b : Bool) (k : ℕ) → k < nf → cond a l (cond b l k) < nf
  either_left true b k d = hl
  either_left false true k d = hl
  either_left false false k d = d

  shared-left : (l' ≡ l) ⊎ (r' ≡ l) → shared l r l' r' < nf
  unfolding shared
  shared-left (inl e) = rw (same l l' hl e) hl
  shared-left (inr e) = rw (same l r' hl e) (first (same_face l l'))
    where
      first : (a : Bool) → cond a l l < nf
      first true = hl
      first false = hl

  shared-right : (l' ≡ r) ⊎ (r' ≡ r) → shared l r l' r' < nf
  unfolding shared
  shared-right (inl e) = rw (same r l' hr e) (either_left (same_face l l') (same_face l r') r hr)
  shared-right (inr e) = rw (same r r' hr e) (either_left (same_face l l') (same_face l r') (cond (same_face r l') r r) (first (same_face r l')))
    where
      first : (a : Bool) → cond a r r < nf
      first true = hr
      first false = hr

module _ (m : Mesh) (np ne nf : ℕ) (a : Audited m np ne nf) where
  pub edges_fit : EdgesFit m.edges m.intervals ne
  edges_fit =
      record {
        words = omega (arith, a.edges_fit);
        numbers = omega (arith, a.edges_fit);
        left_cw-below = λ e l. (a.edge-in-range e l).left_cw-in-range;
        left_acw-below = λ e l. (a.edge-in-range e l).left_acw-in-range;
        right_cw-below = λ e l. (a.edge-in-range e l).right_cw-in-range;
        right_acw-below = λ e l. (a.edge-in-range e l).right_acw-in-range;
      }

  -- LeftCw borders the left face, RightCw the right one
  pub common-below : nf ≤ none → (p r : ℕ) → r < ne
      → common_face (edge_at m.edges m.intervals r) (edge_at m.edges m.intervals (acw_about m.edges p r)) < nf
  unfolding acw_about shared
  common-below h p r l = go (eqb (origin m r) p)
    where
      go : (b : Bool)
          → common_face (edge_at m.edges m.intervals r) (edge_at m.edges m.intervals (cond b (left_cw m r) (right_cw m r))) < nf
      go true =
          shared-left (left_face m r) (right_face m r) (left_face m (left_cw m r)) (right_face m (left_cw m r)) nf
          (a.edge-in-range r l).left_face-in-range (a.edge-in-range r l).right_face-in-range h (a.left-cw r l).borders-face
      go false =
          shared-right (left_face m r) (right_face m r) (left_face m (right_cw m r)) (right_face m (right_cw m r)) nf
          (a.edge-in-range r l).left_face-in-range (a.edge-in-range r l).right_face-in-range h (a.right-cw r l).borders-face

  point-there : (p : ℕ) → p < np → (p * 3 + 3 ≤ length m.positions) × (p * 3 + 3 ≤ length m.points)
  point-there p l = (omega (arith, a.points-fit), omega (arith, a.points-fit))

  pub face-point-fits : (f : ℕ) → f < nf → FacePointFits m.positions m.edges m.intervals m.faces ne f
  unfolding face_walk
  face-point-fits f l =
      let w : FaceWalked m ne f = a.face-walked f l in
      let came : face_walk m ne f ≡ back w.edges = (face_walk-is m ne f w.edges).1 (w.passes, w.at-most-64) in
      record {
        fit = edges_fit;
        origin-there = λ e b. (point-there (origin m e) (a.edge-in-range e b).origin-in-range).0;
        dest-there = λ e b. (point-there (dest m e) (a.edge-in-range e b).dest-in-range).0;
        face-there = omega (arith, a.faces-fit);
        border = w.edges;
        walked = came;
        at-least-3 = w.at-least-3;
        at-most-64 = w.at-most-64;
        edges-below = λ j b.
            ((on-face-is m ne f (get_or w.edges j 0)).0
            (back_on (acw_of_face m f) (λ e. ltb e ne && borders m f e) (face_start m f) 64 w.edges came j b)).0;
        corners = border-turns m np ne nf a f w.edges came;
      }

  module _ (new : List Float) (es' fs' : List ℕ) (n : NewPointsFit ne nf new es' fs') where
    pub edge-point-fits : (e : ℕ) → e < ne → EdgePointFits m.positions m.edges m.intervals new fs' e
    edge-point-fits e l =
        let r : EdgeInRange m np ne nf e = a.edge-in-range e l in
        record {
          edge-fits = record { rows = ne; fit = edges_fit; below = l };
          origin-there = (point-there (origin m e) r.origin-in-range).0;
          dest-there = (point-there (dest m e) r.dest-in-range).0;
          left-row = n.face-row (left_face m e) r.left_face-in-range;
          left-place = n.face-place (left_face m e) r.left_face-in-range;
          right-row = n.face-row (right_face m e) r.right_face-in-range;
          right-place = n.face-place (right_face m e) r.right_face-in-range;
        }

    pub old-point-fits : nf ≤ none → (p : ℕ) → p < np
        → OldPointFits m.positions m.points m.edges m.intervals new es' fs' p
    old-point-fits h p l =
        record {
          place-there = (point-there p l).0;
          words-there = (point-there p l).1;
          radial-fits = record {
            edges = ne;
            faces = nf;
            fit = record { fit = edges_fit; new-fit = n; common-below = common-below h };
            below = a.start-in-range p l;
          };
          turns-back = record { goes_back = radial-back m np ne nf a p l };
        }

-- the border of a face of an audited mesh
pub record Border (ne : ℕ) (es : List ℕ) : Type 0 where
  pub at-least-3 : 3 ≤ length es
  pub edges-below : (j : ℕ) → j < length es → get_or es j 0 < ne

pub border-of : (m : Mesh) (np ne nf f : ℕ) (es : List ℕ) → Audited m np ne nf → f < nf → face_walk m ne f ≡ back es → Border ne es
unfolding face_walk
border-of m np ne nf f es a l came =
    let h : FacePointFits m.positions m.edges m.intervals m.faces ne f = face-point-fits m np ne nf a f l in
    let one : back h.border ≡ back es = sym h.walked ∙ came in
    let same : h.border ≡ es = cc in
    subst (λ bs. Border ne bs) same (record { at-least-3 = h.at-least-3; edges-below = h.edges-below })
